-- By what is asked: the call did what its contract says, and the printer wrote its answer.
use Rattle.parktime.specs.Calls as deadline
use Rattle.output.proofs.Arms.{played}
use Rattle.script.proofs.on_deadlines.Goals as goal

pub returns-in-Arm : goal.returns-in-Arm
unfolding deadline.step
returns-in-Arm c = rw c.in-Arm.is (played _ _ _ _ _ _ _ _ _ _ c.arm_in.ensures c.line.ensures)

pub returns-in-Disarm : goal.returns-in-Disarm
unfolding deadline.step
returns-in-Disarm c = rw c.in-Disarm.is (played _ _ _ _ _ _ _ _ _ _ c.disarm_in.ensures c.line-in-Disarm.ensures)
