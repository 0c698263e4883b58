-- The calls on a ring, for lists of calls.
use Rattle.std.specs.Prelude.{ℕ, Option}
use Rattle.ids.specs.declared.TaskId.{TaskId}
use Rattle.answers.specs.Contract.{Step}
use Rattle.runqueue.specs.Ring.{Ring}
use Rattle.runqueue.specs.Steps.{enqueue_step, dequeue_step, after_yield_step, capacity_reply, len_reply, empty_reply, full_reply, front_reply, ready_at_reply}

pub data Call : Type 0 where
  enqueue : TaskId → Call
  dequeue : Call
  after_yield : Option TaskId → Call
  capacity len empty full front : Call
  ready_at : ℕ → Call

unfoldable pub step : Ring → Call → Step Ring
step q (enqueue id) = enqueue_step q id
step q dequeue = dequeue_step q
step q (after_yield id) = after_yield_step q id
step q capacity = record { reply = capacity_reply q; after = q }
step q len = record { reply = len_reply q; after = q }
step q empty = record { reply = empty_reply q; after = q }
step q full = record { reply = full_reply q; after = q }
step q front = record { reply = front_reply q; after = q }
step q (ready_at i) = record { reply = ready_at_reply q i; after = q }
