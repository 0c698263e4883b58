-- Rows that compute: the smallest queue, the wrap of the counter, and what it counts. A8 stands with the bench sheet in the crate `runs`.
use Rattle.std.specs.Prelude.{Some, None}
use Rattle.std.proofs.Common.{◌≡◌, true, false, [], ◌∷◌, refl}
use Rattle.answers.specs.Reply.{told, number, value}
use Rattle.answers.specs.Run.{replies, times}
use Rattle.wake.specs.Steps.{fresh, queue_of, push_step, pop_of}
use Rattle.wake.specs.Calls.{push, pop, drops, empty, step}
use Rattle.wake.specs.History.{failures}

-- the smallest queue holds one, first in first out, and tells whether it is empty
pub smallest : replies step (fresh 2) (empty ∷ push 7 ∷ push 8 ∷ empty ∷ pop ∷ push 9 ∷ pop ∷ pop ∷ []) ≡ told true ∷ told true ∷ told false ∷ told false ∷ value (Some 7) ∷ told true ∷ value (Some 9) ∷ value None ∷ []
unfolding replies step push_step pop_of
smallest = refl

-- the counter goes from its largest value to 0
pub wraps : replies step (queue_of 2 (7 ∷ []) 4294967295) (push 8 ∷ drops ∷ []) ≡ told false ∷ number 0 ∷ []
unfolding replies step push_step
wraps = refl

-- a push that is dropped is counted, one that is held is not
pub counted : failures (fresh 2) (push 1 ∷ push 2 ∷ pop ∷ push 3 ∷ push 4 ∷ []) ≡ 2
unfolding times step push_step pop_of
counted = refl
