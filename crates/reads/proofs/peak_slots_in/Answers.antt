-- The counter.
use Rattle.reads.proofs.Laws.{peak_is}
use Rattle.reads.proofs.peak_slots_in.Goals as goal

pub returns : goal.returns
returns c = peak_is _ c.requires
