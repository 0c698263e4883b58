-- The four tables of the product side by side, on paper, and the calls on them: every call that changes a table and every
-- call that reads one.
use Rattle.std.specs.Prelude.{List, [], ◌∷◌, ℕ}
use Rattle.answers.specs.Contract.{Step, put}
use Rattle.model.specs.Model as tasks
use Rattle.model.specs.Calls as task
use Rattle.irqwait.specs.Waits.{Waits}
use Rattle.irqwait.specs.Steps as waits
use Rattle.irqwait.specs.Calls as wait
use Rattle.parktime.specs.Deadlines.{Deadlines}
use Rattle.parktime.specs.Steps as deadlines
use Rattle.parktime.specs.Calls as deadline
use Rattle.wake.specs.Queue.{Queue}
use Rattle.wake.specs.Steps as tokens
use Rattle.wake.specs.Calls as token

pub record Tables : Type 0 where
  pub tasks : tasks.Model
  pub waits : Waits
  pub deadlines : Deadlines
  pub wakes : Queue
  -- the output that the last poll was lent, as it came back
  pub out : List ℕ

abbrev pub fresh : ℕ → ℕ → Tables
fresh n c = record { tasks = tasks.fresh n; waits = waits.fresh; deadlines = deadlines.fresh; wakes = tokens.fresh c; out = [] }

pub data Call : Type 0 where
  on_tasks : task.Call → Call
  on_waits : wait.Call → Call
  on_deadlines : deadline.Call → Call
  on_wakes : token.Call → Call

-- ONE TABLE CHANGED, THE OTHERS AS THEY WERE

abbrev pub with_tasks : Tables → tasks.Model → Tables
with_tasks t m = record { tasks = m; waits = t.waits; deadlines = t.deadlines; wakes = t.wakes; out = t.out }

abbrev pub with_waits : Tables → Waits → Tables
with_waits t w = record { tasks = t.tasks; waits = w; deadlines = t.deadlines; wakes = t.wakes; out = t.out }

abbrev pub with_deadlines : Tables → Deadlines → List ℕ → Tables
with_deadlines t d o = record { tasks = t.tasks; waits = t.waits; deadlines = d; wakes = t.wakes; out = o }

abbrev pub with_wakes : Tables → Queue → Tables
with_wakes t q = record { tasks = t.tasks; waits = t.waits; deadlines = t.deadlines; wakes = q; out = t.out }

-- WHAT A CALL ANSWERS AND LEAVES

-- a poll is lent an output, and hands it back
abbrev pub deadline_step : Tables → deadline.Call → Step Tables
deadline_step t (deadline.arm id at) = put (λ d. with_deadlines t d t.out) (deadlines.arm_step t.deadlines id at)
deadline_step t (deadline.disarm id) = put (λ d. with_deadlines t d t.out) (deadlines.disarm_step t.deadlines id)
deadline_step t (deadline.poll now out) = put (λ p. with_deadlines t p.0 p.1) (deadlines.poll_step (t.deadlines, out) now)

unfoldable pub step : Tables → Call → Step Tables
step t (on_tasks k) = put (with_tasks t) (task.step t.tasks k)
step t (on_waits k) = put (with_waits t) (wait.step t.waits k)
step t (on_deadlines k) = deadline_step t k
step t (on_wakes k) = put (with_wakes t) (token.step t.wakes k)

-- THE CALLS OF A RUN ON ONE TABLE

unfoldable pub task_calls : List Call → List task.Call
task_calls [] = []
task_calls (on_tasks k ∷ ks) = k ∷ task_calls ks
task_calls (on_waits k ∷ ks) = task_calls ks
task_calls (on_deadlines k ∷ ks) = task_calls ks
task_calls (on_wakes k ∷ ks) = task_calls ks

unfoldable pub wake_calls : List Call → List token.Call
wake_calls [] = []
wake_calls (on_tasks k ∷ ks) = wake_calls ks
wake_calls (on_waits k ∷ ks) = wake_calls ks
wake_calls (on_deadlines k ∷ ks) = wake_calls ks
wake_calls (on_wakes k ∷ ks) = k ∷ wake_calls ks
