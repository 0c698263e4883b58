-- 1, nothing past the length, or the entry.
use Rattle.runqueue.proofs.Laws.{ready_past, ready_is}
use Rattle.runqueue.proofs.entry_at.Goals as goal

pub returns-then-span-index : goal.returns-then-span-index
returns-then-span-index c = ready_past _ (c.sound_at.ensures.true_is c.if-not-sound_at.false) _ c.if-span-index.true

pub returns : goal.returns
returns c = ready_is _ (c.sound_at.ensures.true_is c.if-not-sound_at.false) _ _ c.if-span-index.false c.place-at.ensures.0
