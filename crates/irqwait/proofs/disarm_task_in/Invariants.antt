-- The loop frees every entry of the task and touches nothing else.
use Rattle.irqwait.proofs.Returns.{Disarming}
use Rattle.irqwait.proofs.disarm_task_in.Given as goal

abbrev pub invariant-loop-e : goal.invariant-loop-e
invariant-loop-e l = Disarming l.fn.waiters l.task l.e-index l.waiters
