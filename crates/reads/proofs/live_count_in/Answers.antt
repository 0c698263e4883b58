-- The count over the slots.
use Rattle.reads.proofs.Laws.{live_count_is}
use Rattle.reads.proofs.live_count_in.Goals as goal

pub returns : goal.returns
returns c = live_count_is _ c.requires _ c.occupied.ensures
