-- The numbers of the calls, for whoever writes calls down: 0 to 7 change the task table, 16 to 29 read it, 32 to 36 are on the interrupt
-- waits, 48 to 50 on the deadlines, 64 to 67 on the wake queue, and no other number is a call's. A number once given keeps its
-- meaning.
use Rattle.std.specs.Prelude.{ℕ}
use Rattle.model.specs.Calls as task
use Rattle.irqwait.specs.Calls as wait
use Rattle.parktime.specs.Calls as deadline
use Rattle.wake.specs.Calls as token
use Rattle.runs.specs.Tables.{Call, on_tasks, on_waits, on_deadlines, on_wakes}

abbrev pub read_no : task.Read → ℕ
read_no (task.current c) = 16
read_no (task.idler c) = 17
read_no (task.ready c) = 18
read_no task.started1 = 19
read_no (task.state id) = 20
read_no (task.home id) = 21
read_no (task.live s) = 22
read_no (task.stealeable id) = 23
read_no (task.can_steal t) = 24
read_no task.overwrites = 25
read_no task.blocked = 26
read_no task.block_events = 27
read_no task.live_count = 28
read_no task.peak = 29

abbrev pub task_no : task.Call → ℕ
task_no task.start = 0
task_no task.start1 = 1
task_no (task.admit c) = 2
task_no (task.switch c kind) = 3
task_no (task.mark id b) = 4
task_no (task.steal t) = 5
task_no (task.wake id) = 6
task_no task.collect = 7
task_no (task.read r) = read_no r

abbrev pub wait_no : wait.Call → ℕ
wait_no (wait.arm c id) = 32
wait_no (wait.disarm id) = 33
wait_no (wait.signal c) = 34
wait_no (wait.take id) = 35
wait_no (wait.pending id) = 36

abbrev pub deadline_no : deadline.Call → ℕ
deadline_no (deadline.arm id at) = 48
deadline_no (deadline.disarm id) = 49
deadline_no (deadline.poll now out) = 50

abbrev pub token_no : token.Call → ℕ
token_no (token.push t) = 64
token_no token.pop = 65
token_no token.drops = 66
token_no token.empty = 67

abbrev pub call_no : Call → ℕ
call_no (on_tasks k) = task_no k
call_no (on_waits k) = wait_no k
call_no (on_deadlines k) = deadline_no k
call_no (on_wakes k) = token_no k
