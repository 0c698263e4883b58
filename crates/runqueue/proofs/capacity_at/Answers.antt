-- 1 from a span that is not sound; else what the model reads, whatever the entries are.
use Rattle.runqueue.proofs.Laws.{capacity_is}
use Rattle.runqueue.proofs.capacity_at.Goals as goal

pub returns : goal.returns
returns c = λ slots epochs. capacity_is _ (c.sound_at.ensures.true_is c.if-not-sound_at.false)
