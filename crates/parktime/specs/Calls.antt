-- The calls on the deadlines, for lists of calls. A poll is lent an output of its own.
use Rattle.std.specs.Prelude.{List, ℕ}
use Rattle.ids.specs.declared.TaskId.{TaskId}
use Rattle.answers.specs.Contract.{Step}
use Rattle.parktime.specs.Deadlines.{Deadlines}
use Rattle.parktime.specs.Steps.{arm_step, disarm_step, poll_step}

pub data Call : Type 0 where
  arm : TaskId → ℕ → Call
  disarm : TaskId → Call
  poll : ℕ → List ℕ → Call

unfoldable pub step : Deadlines → Call → Step Deadlines
step ds (arm id at) = arm_step ds id at
step ds (disarm id) = disarm_step ds id
step ds (poll now out) = record { reply = (poll_step (ds, out) now).reply; after = (poll_step (ds, out) now).after.0 }
