-- The rules of the wait table, computed on the model. A9 stands with the bench sheet in the crate `runs`.
use Rattle.std.specs.Prelude.{Option, Some, None}
use mathlib.Core.Path.{◌≡◌, refl}
use mathlib.Core.Bool.{true, false}
use mathlib.Core.List.{List, [], ◌∷◌, ◌++◌}
use Prim.Native.Nat.{ℕ}
use lib.ListN.{get_or}
use Rattle.lists.specs.Search.{first_at}
use Rattle.lists.specs.Entries.{freed}
use Rattle.ids.specs.declared.TaskId.{TaskId}
use Rattle.answers.specs.Reply.{refused, done, told, named}
use Rattle.answers.specs.Run.{replies, left}
use Rattle.irqwait.specs.Waits.{Wait}
use Rattle.irqwait.specs.Steps.{fresh, walk, arm_at, arm_by, arm_step, disarm_step, signal_at, signal_step, take_step}
use Rattle.irqwait.specs.Calls.{Call, arm, disarm, signal, take, pending, step}

-- slot / epoch
abbrev pub id : ℕ → ℕ → TaskId
id s e = record { slot = s; epoch = e }

-- what stands at a place after calls on a fresh table
abbrev pub stands : List Call → ℕ → Option Wait
stands calls i = get_or (left step fresh calls).waiters i None

-- WHO IS REFUSED

-- an entry with both: the cookie is tested before the task
pub cookie-first : replies step fresh (arm 30 (id 2 0) ∷ arm 30 (id 2 0) ∷ []) ≡ done ∷ refused 9 ∷ []
unfolding replies step arm_step arm_by arm_at walk first_at
cookie-first = refl

-- another tenant of the slot is another task
pub whole-id : replies step fresh (arm 30 (id 2 0) ∷ arm 31 (id 2 1) ∷ []) ≡ done ∷ done ∷ []
unfolding replies step arm_step arm_by arm_at walk first_at
whole-id = refl

-- slot 63 has a mark and slot 64 has none, which is said before the cookie is looked at
pub last_slot : replies step fresh (arm 1 (id 63 0) ∷ arm 1 (id 64 0) ∷ []) ≡ done ∷ refused 8 ∷ []
unfolding replies step arm_step arm_by arm_at walk first_at
last_slot = refl

abbrev pub eight : List Call
eight = arm 0 (id 2 0) ∷ arm 1 (id 3 0) ∷ arm 2 (id 4 0) ∷ arm 3 (id 5 0) ∷ arm 4 (id 6 0) ∷ arm 5 (id 7 0) ∷ arm 6 (id 8 0) ∷ arm 7 (id 9 0) ∷ []

-- eight can wait and the ninth can't, until one of them is signalled
pub ninth : replies step fresh (eight ++ (arm 8 (id 10 0) ∷ signal 3 ∷ arm 8 (id 10 0) ∷ []))
    ≡ done ∷ done ∷ done ∷ done ∷ done ∷ done ∷ done ∷ done ∷ refused 11 ∷ named (Some (id 5 0)) ∷ done ∷ []
unfolding replies step arm_step arm_by arm_at walk first_at signal_step signal_at
ninth = refl

-- THE LOWEST FREE PLACE

-- place 1 is free after a signal though place 2 is taken, and it is the next to be taken
pub signal_frees : stands (arm 1 (id 2 0) ∷ arm 2 (id 3 0) ∷ arm 3 (id 4 0) ∷ signal 2 ∷ []) 1 ≡ None
unfolding left step arm_step arm_by arm_at walk first_at signal_step signal_at
signal_frees = refl

pub signalled_again : stands (arm 1 (id 2 0) ∷ arm 2 (id 3 0) ∷ arm 3 (id 4 0) ∷ signal 2 ∷ arm 4 (id 5 0) ∷ []) 1 ≡ Some (record { cookie = 4; id = id 5 0 })
unfolding left step arm_step arm_by arm_at walk first_at signal_step signal_at
signalled_again = refl

-- and so after a disarm
pub disarm_frees : stands (arm 1 (id 2 0) ∷ arm 2 (id 3 0) ∷ disarm (id 2 0) ∷ []) 0 ≡ None
unfolding left step arm_step arm_by arm_at walk first_at disarm_step freed
disarm_frees = refl

pub disarmed_again : stands (arm 1 (id 2 0) ∷ arm 2 (id 3 0) ∷ disarm (id 2 0) ∷ arm 4 (id 5 0) ∷ []) 0 ≡ Some (record { cookie = 4; id = id 5 0 })
unfolding left step arm_step arm_by arm_at walk first_at disarm_step freed
disarmed_again = refl

-- a disarm is of the whole id, and of no cookie
pub disarm-other : stands (arm 1 (id 2 0) ∷ disarm (id 2 1) ∷ disarm (id 1 0) ∷ []) 0 ≡ Some (record { cookie = 1; id = id 2 0 })
unfolding left step arm_step arm_by arm_at walk first_at disarm_step freed
disarm-other = refl

-- MARKS

-- a signal names who waited, once, and leaves a mark that is taken once
pub mark-once : replies step fresh (arm 1 (id 2 0) ∷ signal 1 ∷ signal 1 ∷ pending (id 2 0) ∷ take (id 2 0) ∷ take (id 2 0) ∷ [])
    ≡ done ∷ named (Some (id 2 0)) ∷ named None ∷ told true ∷ told true ∷ told false ∷ []
unfolding replies step arm_step arm_by arm_at walk first_at signal_step signal_at take_step
mark-once = refl

-- a mark is not the next tenant's, who leaves it where it is
pub mark-stays : replies step fresh (arm 1 (id 2 0) ∷ signal 1 ∷ pending (id 2 1) ∷ take (id 2 1) ∷ take (id 2 0) ∷ [])
    ≡ done ∷ named (Some (id 2 0)) ∷ told false ∷ told false ∷ told true ∷ []
unfolding replies step arm_step arm_by arm_at walk first_at signal_step signal_at take_step
mark-stays = refl

-- a signal for another tenant of the slot replaces the mark
pub mark_replaced : replies step fresh (arm 1 (id 2 0) ∷ signal 1 ∷ arm 1 (id 2 1) ∷ signal 1 ∷ take (id 2 0) ∷ take (id 2 1) ∷ [])
    ≡ done ∷ named (Some (id 2 0)) ∷ done ∷ named (Some (id 2 1)) ∷ told false ∷ told true ∷ []
unfolding replies step arm_step arm_by arm_at walk first_at signal_step signal_at take_step
mark_replaced = refl

-- a slot past the marks has none
pub far_unmarked : replies step fresh (pending (id 64 0) ∷ take (id 64 0) ∷ []) ≡ told false ∷ told false ∷ []
unfolding replies step take_step
far_unmarked = refl
