-- By what is asked: the call did what its contract says, and the printer wrote its answer.
use Rattle.model.specs.Calls as task
use Rattle.output.proofs.Arms.{played}
use Rattle.script.proofs.on_tasks.Goals as goal

pub returns-in-Start : goal.returns-in-Start
unfolding task.step
returns-in-Start c = rw c.in-Start.is (played _ _ _ _ _ _ _ _ _ _ c.start_in.ensures.1 c.line.ensures)

pub returns-in-Start1 : goal.returns-in-Start1
unfolding task.step
returns-in-Start1 c = rw c.in-Start1.is (played _ _ _ _ _ _ _ _ _ _ c.start_cpu_in.ensures.1 c.line-in-Start1.ensures)

pub returns-in-Admit : goal.returns-in-Admit
unfolding task.step
returns-in-Admit c = rw c.in-Admit.is (played _ _ _ _ _ _ _ _ _ _ c.admit_on_in.ensures.1 c.line-in-Admit.ensures)

pub returns-in-Switch : goal.returns-in-Switch
unfolding task.step
returns-in-Switch c = rw c.in-Switch.is (played _ _ _ _ _ _ _ _ _ _ c.switch_on_in-answer.ensures.1 c.line-in-Switch.ensures)

pub returns-in-Mark : goal.returns-in-Mark
unfolding task.step
returns-in-Mark c = rw c.in-Mark.is (played _ _ _ _ _ _ _ _ _ _ c.set_stealeable_in-answer.ensures.1 c.line-in-Mark.ensures)

pub returns-in-Steal : goal.returns-in-Steal
unfolding task.step
returns-in-Steal c = rw c.in-Steal.is (played _ _ _ _ _ _ _ _ _ _ c.try_steal_into_in-answer.ensures.1 c.line-in-Steal.ensures)

pub returns-in-Wake : goal.returns-in-Wake
unfolding task.step
returns-in-Wake c = rw c.in-Wake.is (played _ _ _ _ _ _ _ _ _ _ c.wake_in.ensures.1 c.line-in-Wake.ensures)

pub returns-in-Collect : goal.returns-in-Collect
unfolding task.step
returns-in-Collect c = rw c.in-Collect.is (played _ _ _ _ _ _ _ _ _ _ c.collect_in.ensures.1 c.line-in-Collect.ensures)
