-- The mark at the task's slot goes where it has the task's id; the table stays as it is where there is none.
use Rattle.std.proofs.Common.{refl, arith}
use Rattle.irqwait.proofs.Returns.{takes_far, takes_not, takes}
use Rattle.irqwait.proofs.take_pending_in.Goals as goal
use Rattle.irqwait.proofs.take_pending_in.Goals.{else-s-lt-MAX_TASK_IDS-via-then-s-lt-MAX_TASK_IDS+else-is_marked, else-s-lt-MAX_TASK_IDS-via-else-s-lt-MAX_TASK_IDS}

pub returns-then-is_marked : goal.returns-then-is_marked
returns-then-is_marked c = takes _ c.requires _ (omega arith) _ c.is_marked.ensures c.if-is_marked.true _ _ c.slot-s.ensures refl

pub returns-else-s-lt-MAX_TASK_IDS : goal.returns-else-s-lt-MAX_TASK_IDS
returns-else-s-lt-MAX_TASK_IDS c =
    elim c.else-s-lt-MAX_TASK_IDS.branch [
      | else-s-lt-MAX_TASK_IDS-via-then-s-lt-MAX_TASK_IDS+else-is_marked w ↦
          takes_not _ c.requires _ (omega arith) _ w.is_marked.ensures w.if-is_marked.false
      | else-s-lt-MAX_TASK_IDS-via-else-s-lt-MAX_TASK_IDS w ↦ takes_far _ c.requires _ (omega arith)
    ]
