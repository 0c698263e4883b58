-- By what is asked: the call did what its contract says, and the printer wrote its answer.
use Rattle.irqwait.specs.Calls as wait
use Rattle.output.proofs.Arms.{played}
use Rattle.script.proofs.on_waits.Goals as goal

pub returns-in-Arm : goal.returns-in-Arm
unfolding wait.step
returns-in-Arm c = rw c.in-Arm.is (played _ _ _ _ _ _ _ _ _ _ c.arm_in-answer.ensures c.line.ensures)

pub returns-in-Disarm : goal.returns-in-Disarm
unfolding wait.step
returns-in-Disarm c = rw c.in-Disarm.is (played _ _ _ _ _ _ _ _ _ _ c.disarm_task_in-answer.ensures c.line-in-Disarm.ensures)

pub returns-in-Signal : goal.returns-in-Signal
unfolding wait.step
returns-in-Signal c = rw c.in-Signal.is (played _ _ _ _ _ _ _ _ _ _ c.signal_in-answer.ensures c.line-in-Signal.ensures)

pub returns-in-Take : goal.returns-in-Take
unfolding wait.step
returns-in-Take c = rw c.in-Take.is (played _ _ _ _ _ _ _ _ _ _ c.take_pending_in-answer.ensures c.line-in-Take.ensures)
