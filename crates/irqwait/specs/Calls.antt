-- The calls on the wait table, for lists of calls.
use Rattle.std.specs.Prelude.{ℕ}
use Rattle.ids.specs.declared.TaskId.{TaskId}
use Rattle.answers.specs.Contract.{Step}
use Rattle.irqwait.specs.Waits.{Waits}
use Rattle.irqwait.specs.Steps.{arm_step, disarm_step, signal_step, take_step, pending_reply}

pub data Call : Type 0 where
  arm : ℕ → TaskId → Call
  disarm : TaskId → Call
  signal : ℕ → Call
  take : TaskId → Call
  pending : TaskId → Call

unfoldable pub step : Waits → Call → Step Waits
step w (arm c id) = arm_step w c id
step w (disarm id) = disarm_step w id
step w (signal c) = signal_step w c
step w (take id) = take_step w id
step w (pending id) = record { reply = pending_reply w id; after = w }
