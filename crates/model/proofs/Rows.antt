-- Rows that compute: the inputs of docs/DIFFERENCES.md on which comment and code of the Rust differ, and the smallest table.
-- The bench sheet's rows stand in the crate `runs`.
use Rattle.std.specs.Prelude.{Some, None}
use mathlib.Core.Path.{◌≡◌, refl}
use mathlib.Core.Bool.{true, false}
use mathlib.Core.List.{[], ◌∷◌}
use Prim.Native.Nat.{ℕ}
use Rattle.lists.specs.Tab.{tab}
use Rattle.lists.specs.Search.{first_at, count_of, any_of}
use Rattle.ids.specs.declared.TaskId.{TaskId}
use Rattle.answers.specs.Reply.{Reply, refused, done, told, number, named, value, stays, switched}
use Rattle.answers.specs.Run.{replies, left}
use Rattle.model.specs.Model.{fresh, free_slot, queue_of, mark_of}
use Rattle.model.specs.Steps.{new_step, claimed, start_step, start_cpu_step, admitted, admit_step, mark_step, woken, wake_step, collect_step}
use Rattle.model.specs.Switch.{yield, preempt, block, exit, loot_at, stolen, can_steal, stealing, try_steal_step, leaves, enters, parks, chooses, turn, pulls, switch_on, switch_step}
use Rattle.model.specs.Calls.{start, start1, admit, switch, mark, steal, wake, collect, read, home, overwrites, peak, tells, step}

abbrev id : ℕ → ℕ → TaskId
id s e = record { slot = s; epoch = e }

abbrev gives : ℕ → ℕ → Reply
gives s e = named (Some (id s e))

-- STARTS

-- D1: a mark set on an Empty slot is cleared when CPU 1 starts there
pub claimed_unmarked : mark_of (left step (fresh 2) (start ∷ mark (id 1 0) true ∷ start1 ∷ [])) 1 ≡ false
unfolding left step start_step start_cpu_step claimed free_slot first_at count_of any_of tab mark_step
claimed_unmarked = refl

-- C1: started again it names the same task
pub started_again : replies step (fresh 2) (start ∷ start1 ∷ start1 ∷ []) ≡ done ∷ gives 1 0 ∷ gives 1 0 ∷ []
unfolding replies step start_step start_cpu_step claimed free_slot first_at count_of tab
started_again = refl

-- one slot: no id for CPU 1 nor for a task, and every switch stays
pub one_slot : replies step (fresh 1) (start ∷ start1 ∷ admit 0 ∷ switch 0 yield ∷ []) ≡ done ∷ named None ∷ named None ∷ stays ∷ []
unfolding replies step start_step start_cpu_step claimed admit_step free_slot first_at count_of tab switch_step switch_on pulls can_steal stealing loot_at turn leaves chooses enters parks
one_slot = refl

pub sizes : ((new_step 0).reply ≡ refused 2) × ((new_step 1).reply ≡ done) × ((new_step 64).reply ≡ done) × ((new_step 65).reply ≡ refused 2)
unfolding new_step
sizes = (refl, refl, refl, refl)

-- TASKS

-- C2: idle is queued when it yields
pub idle-queued : queue_of (left step (fresh 2) (start ∷ admit 0 ∷ switch 0 yield ∷ [])) 0 ≡ id 0 0 ∷ []
unfolding left step start_step claimed admit_step admitted free_slot first_at count_of tab switch_step switch_on pulls turn leaves chooses enters parks
idle-queued = refl

-- C3: the only Empty slot is the parked one, and its next tenant has the next epoch; the peak was two
pub parked-kept : replies step (fresh 2) (start ∷ admit 0 ∷ switch 0 yield ∷ switch 0 exit ∷ admit 0 ∷ collect ∷ admit 0 ∷ read peak ∷ []) ≡ done ∷ gives 1 0 ∷ switched (id 0 0) (id 1 0) None ∷ switched (id 1 0) (id 0 0) None ∷ named None ∷ gives 1 0 ∷ gives 1 1 ∷ number 2 ∷ []
unfolding replies step tells start_step claimed admit_step admitted free_slot first_at count_of tab switch_step switch_on pulls turn leaves chooses enters parks collect_step
parked-kept = refl

-- C4 and C5: an Empty slot has a home, and takes a mark
pub empty-known : replies step (fresh 2) (start ∷ read (home (id 1 0)) ∷ mark (id 1 0) true ∷ mark (id 1 1) true ∷ []) ≡ done ∷ value (Some 0) ∷ told true ∷ told false ∷ []
unfolding replies step tells start_step claimed mark_step any_of
empty-known = refl

-- C9: with no collect between two exits the first leaver is displaced
pub displaced-counted : replies step (fresh 3) (start ∷ admit 0 ∷ admit 0 ∷ switch 0 yield ∷ switch 0 exit ∷ switch 0 exit ∷ read overwrites ∷ []) ≡ done ∷ gives 1 0 ∷ gives 2 0 ∷ switched (id 0 0) (id 1 0) None ∷ switched (id 1 0) (id 2 0) None ∷ switched (id 2 0) (id 0 0) (Some (id 1 0)) ∷ number 1 ∷ []
unfolding replies step tells start_step claimed admit_step admitted free_slot first_at count_of tab switch_step switch_on pulls turn leaves chooses enters parks
displaced-counted = refl

-- a wake is for the whole id, and for a Blocked task alone
pub woken-once : replies step (fresh 2) (start ∷ admit 0 ∷ switch 0 yield ∷ switch 0 block ∷ wake (id 1 1) ∷ wake (id 1 0) ∷ wake (id 1 0) ∷ []) ≡ done ∷ gives 1 0 ∷ switched (id 0 0) (id 1 0) None ∷ switched (id 1 0) (id 0 0) None ∷ told false ∷ told true ∷ told false ∷ []
unfolding replies step start_step claimed admit_step admitted free_slot first_at count_of tab switch_step switch_on pulls turn leaves chooses enters parks wake_step woken
woken-once = refl

-- STEALS

-- C10: a preempt by idle steals first, then stays
pub preempt-steals : replies step (fresh 3) (start ∷ start1 ∷ admit 0 ∷ mark (id 2 0) true ∷ switch 1 preempt ∷ read (home (id 2 0)) ∷ []) ≡ done ∷ gives 1 0 ∷ gives 2 0 ∷ told true ∷ stays ∷ value (Some 1) ∷ []
unfolding replies step tells start_step start_cpu_step claimed admit_step admitted free_slot first_at count_of any_of tab mark_step can_steal stealing loot_at stolen switch_step switch_on pulls
preempt-steals = refl

-- C11: CPU 1 may steal before its start, and then no slot is left for its idle task
pub early_thief : replies step (fresh 2) (start ∷ admit 0 ∷ mark (id 1 0) true ∷ steal 1 ∷ start1 ∷ steal 1 ∷ []) ≡ done ∷ gives 1 0 ∷ told true ∷ told true ∷ named None ∷ told false ∷ []
unfolding replies step start_step start_cpu_step claimed admit_step admitted free_slot first_at count_of any_of tab mark_step try_steal_step can_steal stealing loot_at stolen
early_thief = refl

-- the first stealeable entry goes; the one passed stands behind the other
pub passed_to_tail : queue_of (left step (fresh 4) (start ∷ admit 0 ∷ admit 0 ∷ admit 0 ∷ mark (id 2 0) true ∷ mark (id 3 0) true ∷ steal 1 ∷ [])) 0 ≡ id 3 0 ∷ id 1 0 ∷ []
unfolding left step start_step claimed admit_step admitted free_slot first_at count_of any_of tab mark_step try_steal_step can_steal stealing loot_at stolen
passed_to_tail = refl
