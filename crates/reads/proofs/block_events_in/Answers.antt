-- The counter.
use Rattle.reads.proofs.Laws.{events_is}
use Rattle.reads.proofs.block_events_in.Goals as goal

pub returns : goal.returns
returns c = events_is _ c.requires
