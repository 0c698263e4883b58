-- The calls on a task table, for lists of calls: those that change it, and those that only read it.
use Rattle.std.specs.Prelude.{Bool, ℕ}
use Rattle.ids.specs.declared.TaskId.{TaskId}
use Rattle.answers.specs.Reply.{Reply}
use Rattle.answers.specs.Contract.{Step}
use Rattle.model.specs.Model.{Model}
use Rattle.model.specs.Steps.{start_step, start_cpu_step, admit_step, mark_step, wake_step, collect_step}
use Rattle.model.specs.Switch.{Kind, try_steal_step, switch_step}
use Rattle.model.specs.Reads.{current_reply, idle_reply, ready_reply, started_reply, state_reply, home_reply, live_reply, stealeable_reply, can_steal_reply, overwrites_reply, blocked_reply, block_events_reply, live_count_reply, peak_reply}

pub data Read : Type 0 where
  current : ℕ → Read
  idler : ℕ → Read
  ready : ℕ → Read
  -- whether CPU 1 is started
  started1 : Read
  state : TaskId → Read
  home : TaskId → Read
  live : ℕ → Read
  stealeable : TaskId → Read
  can_steal : ℕ → Read
  overwrites : Read
  blocked : Read
  block_events : Read
  live_count : Read
  peak : Read

unfoldable pub tells : Model → Read → Reply
tells m (current c) = current_reply m c
tells m (idler c) = idle_reply m c
tells m (ready c) = ready_reply m c
tells m started1 = started_reply m 1
tells m (state id) = state_reply m id
tells m (home id) = home_reply m id
tells m (live s) = live_reply m s
tells m (stealeable id) = stealeable_reply m id
tells m (can_steal t) = can_steal_reply m t
tells m overwrites = overwrites_reply m
tells m blocked = blocked_reply m
tells m block_events = block_events_reply m
tells m live_count = live_count_reply m
tells m peak = peak_reply m

pub data Call : Type 0 where
  start : Call
  -- the start of CPU 1
  start1 : Call
  admit : ℕ → Call
  switch : ℕ → Kind → Call
  mark : TaskId → Bool → Call
  steal : ℕ → Call
  wake : TaskId → Call
  collect : Call
  read : Read → Call

-- a read leaves the table
unfoldable pub step : Model → Call → Step Model
step m start = start_step m
step m start1 = start_cpu_step m 1
step m (admit c) = admit_step m c
step m (switch c k) = switch_step m c k
step m (mark id b) = mark_step m id b
step m (steal t) = try_steal_step m t
step m (wake id) = wake_step m id
step m collect = collect_step m
step m (read r) = record { reply = tells m r; after = m }
