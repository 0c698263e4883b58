-- By what is asked: the call did what its contract says, and the printer wrote its answer.
use Rattle.wake.specs.Calls as token
use Rattle.output.proofs.Arms.{played}
use Rattle.script.proofs.on_wakes.Goals as goal

pub returns-in-Push : goal.returns-in-Push
unfolding token.step
returns-in-Push c = rw c.in-Push.is (played _ _ _ _ _ _ _ _ _ _ c.push_in-answer.ensures c.line.ensures)

pub returns-in-Pop : goal.returns-in-Pop
unfolding token.step
returns-in-Pop c = rw c.in-Pop.is (played _ _ _ _ _ _ _ _ _ _ c.pop_in-answer.ensures c.line-in-Pop.ensures)
