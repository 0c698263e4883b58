-- The count over the slots.
use Rattle.reads.proofs.Laws.{blocked_is}
use Rattle.reads.proofs.blocked_count_in.Goals as goal

pub returns : goal.returns
returns c = blocked_is _ c.requires _ c.blocked.ensures
