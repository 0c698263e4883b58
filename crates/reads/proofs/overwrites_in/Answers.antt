-- The counter.
use Rattle.reads.proofs.Laws.{overwrites_is}
use Rattle.reads.proofs.overwrites_in.Goals as goal

pub returns : goal.returns
returns c = overwrites_is _ c.requires
