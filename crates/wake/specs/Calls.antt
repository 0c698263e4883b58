-- The calls on the wake queue, for lists of calls.
use Rattle.std.specs.Prelude.{ℕ}
use Rattle.answers.specs.Contract.{Step}
use Rattle.wake.specs.Queue.{Queue}
use Rattle.wake.specs.Steps.{push_step, pop_step, drops_reply, empty_reply}

pub data Call : Type 0 where
  push : ℕ → Call
  pop : Call
  drops : Call
  empty : Call

unfoldable pub step : Queue → Call → Step Queue
step q (push t) = push_step q t
step q pop = pop_step q
step q drops = record { reply = drops_reply q; after = q }
step q empty = record { reply = empty_reply q; after = q }
