-- The four tables in memory, and what the contracts of the calls on them admit.
use Rattle.std.specs.Prelude.{◌≡◌, List, [], ℕ}
use Rattle.answers.specs.Reply.{Reply, done}
use Rattle.answers.specs.Contract.{Kind, Makes, Meets, lent}
use Rattle.answers.specs.Run.{CallMeets}
use Rattle.model.specs.Steps as tasks
use Rattle.model.specs.Calls as task
use Rattle.memory.specs.declared.Tasks.{Tasks}
use Rattle.memory.specs.View as tasks-kind
use Rattle.irqwait.specs.declared.WaitTable.{WaitTable}
use Rattle.irqwait.specs.Waits as waits-kind
use Rattle.irqwait.specs.Steps as waits
use Rattle.irqwait.specs.Calls as wait
use Rattle.parktime.specs.declared.Table.{Table}
use Rattle.parktime.specs.Deadlines as deadlines-kind
use Rattle.parktime.specs.Steps as deadlines
use Rattle.parktime.specs.Calls as deadline
use Rattle.wake.specs.declared.WakeQueue.{WakeQueue}
use Rattle.wake.specs.Queue as wakes-kind
use Rattle.wake.specs.Steps as tokens
use Rattle.wake.specs.Calls as token
use Rattle.runs.specs.Tables.{Tables, Call, on_tasks, on_waits, on_deadlines, on_wakes}

pub record Memory : Type 0 where
  pub tasks : Tasks
  pub waits : WaitTable
  pub deadlines : Table
  pub wakes : WakeQueue
  pub out : List ℕ

pub record AllSound (t : Memory) : Type 0 where
  pub tasks : tasks-kind.Sound t.tasks
  pub waits : waits-kind.Sound t.waits
  pub deadlines : deadlines-kind.Sound t.deadlines
  pub wakes : wakes-kind.Sound t.wakes

abbrev pub view : Memory → Tables
view t =
    record {
      tasks = tasks-kind.view t.tasks;
      waits = waits-kind.view t.waits;
      deadlines = deadlines-kind.view t.deadlines;
      wakes = wakes-kind.view t.wakes;
      out = t.out;
    }

abbrev pub tables : Kind
tables = record { Memory = Memory; Plain = Tables; Sound = AllSound; view = view }

-- the four makers were called with N and C, and none refused: so N and C are listed
pub record Made (n c : ℕ) (t : Memory) : Type 0 where
  pub tasks : Makes tasks-kind.table t.tasks done (tasks.new_step n)
  pub waits : Makes waits-kind.waits t.waits done waits.new_step
  pub deadlines : Makes deadlines-kind.deadlines t.deadlines done deadlines.new_step
  pub wakes : Makes wakes-kind.wakes t.wakes done (tokens.new_step c)
  pub out : t.out ≡ []

-- one table changed, the others as they were
abbrev pub tasks_to : Memory → Tasks → Memory
tasks_to t u = record { tasks = u; waits = t.waits; deadlines = t.deadlines; wakes = t.wakes; out = t.out }

abbrev pub waits_to : Memory → WaitTable → Memory
waits_to t u = record { tasks = t.tasks; waits = u; deadlines = t.deadlines; wakes = t.wakes; out = t.out }

abbrev pub deadlines_to : Memory → Table → List ℕ → Memory
deadlines_to t u o = record { tasks = t.tasks; waits = t.waits; deadlines = u; wakes = t.wakes; out = o }

abbrev pub wakes_to : Memory → WakeQueue → Memory
wakes_to t u = record { tasks = t.tasks; waits = t.waits; deadlines = t.deadlines; wakes = u; out = t.out }

-- the contract of a call on the deadlines, between the table before it and the table and the output after it
abbrev pub DeadlineMeets : Memory → deadline.Call → Reply → Table → List ℕ → Type 0
DeadlineMeets t (deadline.arm id at) got u o = Meets deadlines-kind.deadlines t.deadlines u got (deadlines.arm_step (deadlines-kind.view t.deadlines) id at) × (o ≡ t.out)
DeadlineMeets t (deadline.disarm id) got u o = Meets deadlines-kind.deadlines t.deadlines u got (deadlines.disarm_step (deadlines-kind.view t.deadlines) id) × (o ≡ t.out)
DeadlineMeets t (deadline.poll now out) got u o = Meets (lent deadlines-kind.deadlines) (t.deadlines, out) (u, o) got (deadlines.poll_step (deadlines-kind.view t.deadlines, out) now)

-- the contract of a call admits an outcome; the tables that the call is not about stay with the caller
abbrev pub Admits : Memory → Call → Reply → Memory → Type 0
Admits t (on_tasks k) got u = CallMeets tasks-kind.table task.step t.tasks k got u.tasks × (u ≡ tasks_to t u.tasks)
Admits t (on_waits k) got u = CallMeets waits-kind.waits wait.step t.waits k got u.waits × (u ≡ waits_to t u.waits)
Admits t (on_deadlines k) got u = DeadlineMeets t k got u.deadlines u.out × (u ≡ deadlines_to t u.deadlines u.out)
Admits t (on_wakes k) got u = CallMeets wakes-kind.wakes token.step t.wakes k got u.wakes × (u ≡ wakes_to t u.wakes)
