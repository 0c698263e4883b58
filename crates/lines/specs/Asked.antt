-- What a line of a script asks for, on paper, and which of these each answer of the code's reader is.
use Rattle.std.specs.Prelude.{replicate, ℕ, Option, Some, None}
use Rattle.model.specs.Calls as task
use Rattle.irqwait.specs.Calls as wait
use Rattle.parktime.specs.Deadlines.{PLACES}
use Rattle.parktime.specs.Calls as deadline
use Rattle.wake.specs.Calls as token
use Rattle.runs.specs.Tables.{Call, on_tasks, on_waits, on_deadlines, on_wakes}
use Rattle.switch.specs.Decisions.{kind_of}
use Rattle.lines.specs.declared.TaskCall.{TaskCall}
use Rattle.lines.specs.declared.TaskCall.TheVariants as task-of
use Rattle.lines.specs.declared.WaitCall.{WaitCall}
use Rattle.lines.specs.declared.WaitCall.TheVariants as wait-of
use Rattle.lines.specs.declared.DeadlineCall.{DeadlineCall}
use Rattle.lines.specs.declared.DeadlineCall.TheVariants as deadline-of
use Rattle.lines.specs.declared.WakeCall.{WakeCall}
use Rattle.lines.specs.declared.WakeCall.TheVariants as token-of
use Rattle.lines.specs.declared.Line.{Line}
use Rattle.lines.specs.declared.Line.TheVariants as Line-of

pub data Asked : Type 0 where
  -- all tables afresh
  afresh : ℕ → Asked
  -- a call on one of them
  calls : Call → Asked
  unreadable : Asked

-- a script's polls are lent an output of sixteen places
abbrev pub poll_at : ℕ → deadline.Call
poll_at now = deadline.poll now (replicate PLACES 0)

-- THE CODE'S ENUMS

abbrev pub task_call : TaskCall → task.Call
task_call task-of.Start = task.start
task_call task-of.Start1 = task.start1
task_call (task-of.Admit c) = task.admit c
task_call (task-of.Switch c k) = task.switch c (kind_of k)
task_call (task-of.Mark id b) = task.mark id b
task_call (task-of.Steal c) = task.steal c
task_call (task-of.Wake id) = task.wake id
task_call task-of.Collect = task.collect

abbrev pub wait_call : WaitCall → wait.Call
wait_call (wait-of.Arm c id) = wait.arm c.0 id
wait_call (wait-of.Disarm id) = wait.disarm id
wait_call (wait-of.Signal c) = wait.signal c.0
wait_call (wait-of.Take id) = wait.take id

abbrev pub deadline_call : DeadlineCall → deadline.Call
deadline_call (deadline-of.Arm id at) = deadline.arm id at
deadline_call (deadline-of.Disarm id) = deadline.disarm id

abbrev pub wake_call : WakeCall → token.Call
wake_call (token-of.Push t) = token.push t.0
wake_call token-of.Pop = token.pop

abbrev pub line_of : Option Line → Asked
line_of None = unreadable
line_of (Some (Line-of.New n)) = afresh n
line_of (Some (Line-of.Tasks k)) = calls (on_tasks (task_call k))
line_of (Some (Line-of.Waits k)) = calls (on_waits (wait_call k))
line_of (Some (Line-of.Deadlines k)) = calls (on_deadlines (deadline_call k))
line_of (Some (Line-of.Poll now)) = calls (on_deadlines (poll_at now))
line_of (Some (Line-of.Wakes k)) = calls (on_wakes (wake_call k))
