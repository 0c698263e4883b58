-- Rows that compute: every call on a ring of two places, from empty to full and back.
use Rattle.std.specs.Prelude.{Some, None}
use mathlib.Core.Path.{◌≡◌, refl}
use mathlib.Core.Bool.{true}
use mathlib.Core.List.{[], ◌∷◌}
use Prim.Native.Nat.{ℕ}
use Rattle.ids.specs.declared.TaskId.{TaskId}
use Rattle.answers.specs.Reply.{refused, done, told, number, named}
use Rattle.answers.specs.Run.{replies}
use Rattle.runqueue.specs.Steps.{ring_of, enqueue_step, dequeue_of, after_yield_step}
use Rattle.runqueue.specs.Calls.{enqueue, dequeue, after_yield, capacity, len, empty, full, front, ready_at, step}

abbrev id : ℕ → TaskId
id s = record { slot = s; epoch = 0 }

-- it holds two, first in first out; where both are held, one that would go on is refused before the head could make room
pub two-places : replies step (ring_of 2 []) (empty ∷ enqueue (id 1) ∷ enqueue (id 2) ∷ full ∷ enqueue (id 3) ∷ after_yield (Some (id 3)) ∷ front ∷ ready_at 1 ∷ ready_at 2 ∷ dequeue ∷ len ∷ after_yield (Some (id 3)) ∷ after_yield None ∷ dequeue ∷ capacity ∷ []) ≡ told true ∷ done ∷ done ∷ told true ∷ refused 11 ∷ refused 11 ∷ named (Some (id 1)) ∷ named (Some (id 2)) ∷ named None ∷ named (Some (id 1)) ∷ number 1 ∷ named (Some (id 2)) ∷ named (Some (id 3)) ∷ named None ∷ number 2 ∷ []
unfolding replies step enqueue_step dequeue_of after_yield_step
two-places = refl
