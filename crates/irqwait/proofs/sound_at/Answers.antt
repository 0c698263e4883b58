-- The table is sound where its waiters and its marks are.
use Rattle.irqwait.proofs.Returns.{waiters-bad, marks_tell}
use Rattle.irqwait.proofs.sound_at.Goals as goal

pub returns-then-waiters_sound : goal.returns-then-waiters_sound
returns-then-waiters_sound c = marks_tell _ _ (c.waiters_sound.ensures.true_is c.if-waiters_sound.true) c.marks_sound.ensures

pub returns-else-waiters_sound : goal.returns-else-waiters_sound
returns-else-waiters_sound c = rw c.if-waiters_sound.false (waiters-bad _ (c.waiters_sound.ensures.false_is c.if-waiters_sound.false))
