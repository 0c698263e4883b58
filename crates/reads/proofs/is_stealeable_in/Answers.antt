-- Known, marked, and no idle.
use Rattle.reads.proofs.Laws.{stealeable_is}
use Rattle.reads.proofs.is_stealeable_in.Goals as goal

pub returns : goal.returns
returns c = stealeable_is _ c.requires _ _ c.stealeable.ensures
