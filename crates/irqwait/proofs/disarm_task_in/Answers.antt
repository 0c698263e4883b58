-- The loop frees every entry of the task and touches nothing else.
use Rattle.std.proofs.Common.{refl, arith}
use Rattle.irqwait.proofs.Returns.{disarming_start, disarming_same, disarming_hit, disarms}
use Rattle.irqwait.proofs.disarm_task_in.Goals as goal
use Rattle.irqwait.proofs.disarm_task_in.Goals.{then-is_for, else-is_for}

pub loop-e-init : goal.loop-e-init
loop-e-init c = disarming_start _ _ c.requires

pub loop-e-preserved : goal.loop-e-preserved
loop-e-preserved c =
    elim c.if-is_for.branch [
      | then-is_for w ↦ rw w.waiters-is (disarming_hit _ _ c.requires _ _ c.loop-e.invariant (omega arith) _ c.is_for.ensures w.if-is_for.true _ refl)
      | else-is_for w ↦ rw w.waiters-is (disarming_same _ _ c.requires _ _ c.loop-e.invariant (omega arith) _ c.is_for.ensures w.if-is_for.false _ refl)
    ]

pub returns : goal.returns
returns c = disarms _ _ c.requires _ _ c.loop-e.invariant (omega arith)
