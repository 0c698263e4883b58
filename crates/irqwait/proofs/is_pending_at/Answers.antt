-- A sound table is asked for the mark at the task's slot.
use Rattle.std.proofs.Common.{arith, le-ltb}
use Rattle.irqwait.proofs.Returns.{shows_at, shows_far}
use Rattle.irqwait.proofs.is_pending_at.Goals as goal

pub returns-then-slot-lt-MAX_TASK_IDS : goal.returns-then-slot-lt-MAX_TASK_IDS
returns-then-slot-lt-MAX_TASK_IDS c = shows_at _ (c.sound_at.ensures.true_is c.if-sound_at.true) _ (omega arith) _ c.is_marked.ensures

pub returns-else-slot-lt-MAX_TASK_IDS : goal.returns-else-slot-lt-MAX_TASK_IDS
returns-else-slot-lt-MAX_TASK_IDS c = rw (le-ltb c.slot.result 64 c.if-slot-lt-MAX_TASK_IDS.false) (shows_far _ (c.sound_at.ensures.true_is c.if-sound_at.true) _ (omega arith))
