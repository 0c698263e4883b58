-- CPU 1 is started when it has an idle of its own.
use Rattle.reads.proofs.Laws.{started_is}
use Rattle.reads.proofs.cpu1_started_in.Goals as goal

pub returns : goal.returns
returns c = rw c.ne.ensures (started_is _ c.requires)
