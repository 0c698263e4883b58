-- Rows that compute, beside the theorems: what the definitions count.
use mathlib.Core.Path.{◌≡◌, refl}
use mathlib.Core.Bool.{true}
use mathlib.Core.List.{List, [], ◌∷◌}
use Prim.Native.Nat.{ℕ, ◌+◌}
use Rattle.lists.specs.Tab.{tab}
use Rattle.lists.specs.Search.{first_at, count_of, any_of}
use Rattle.ids.specs.declared.TaskId.{TaskId}
use Rattle.answers.specs.Run.{left}
use Rattle.model.specs.Model.{Model, fresh, free_slot}
use Rattle.model.specs.Steps.{claimed, start_step, start_cpu_step, admitted, admit_step, mark_step}
use Rattle.model.specs.Switch.{yield, preempt, block, exit, loot_at, stolen, can_steal, stealing, try_steal_step, leaves, enters, parks, chooses, turn, pulls, switch_on, switch_step}
use Rattle.model.specs.Calls.{Call, start, start1, admit, switch, mark, steal, step}
use Rattle.fair.specs.Fair as fair

abbrev id : ℕ → TaskId
id s = record { slot = s; epoch = 0 }

abbrev at : ℕ → List Call → Model
at n ks = left step (fresh n) ks

abbrev seen : ℕ → ℕ → List TaskId → fair.End → fair.Watch
seen t s l e = record { turns = t; steals = s; others = l; end = e }

-- N 4, a task at the head, two more behind it, the first of them marked and stolen: the task stands behind the other
abbrev robbed-first : List Call
robbed-first = admit 0 ∷ admit 0 ∷ mark (id 2) true ∷ steal 1 ∷ switch 0 yield ∷ []

pub waits-through : fair.watch (at 4 (start ∷ admit 0 ∷ [])) 0 (id 1) robbed-first ≡ seen 1 1 (id 3 ∷ []) fair.still
unfolding left fair.watch step start_step claimed admit_step admitted free_slot first_at count_of any_of tab mark_step try_steal_step can_steal stealing loot_at stolen switch_step switch_on pulls turn leaves chooses enters parks
waits-through = refl

-- and one turn later it is chosen: at turn k + 1 + m (N - 3), so the bound is met, and N - 4 would be too small
pub meets_bound : fair.watch (at 4 (start ∷ admit 0 ∷ [])) 0 (id 1) (admit 0 ∷ admit 0 ∷ mark (id 2) true ∷ steal 1 ∷ switch 0 yield ∷ switch 0 yield ∷ []) ≡ seen (fair.bound 4 0 1 + 1) 1 (id 3 ∷ []) fair.chosen
unfolding left fair.watch step start_step claimed admit_step admitted free_slot first_at count_of any_of tab mark_step try_steal_step can_steal stealing loot_at stolen switch_step switch_on pulls turn leaves chooses enters parks
meets_bound = refl

-- without steals: two ahead, one of them idle, and chosen at the third turn; a refused switch and a stay are no turns
pub idle_counts : fair.watch (at 4 (start ∷ admit 0 ∷ switch 0 yield ∷ admit 0 ∷ admit 0 ∷ [])) 0 (id 3) (switch 1 yield ∷ switch 0 preempt ∷ switch 0 preempt ∷ switch 0 block ∷ switch 0 yield ∷ switch 0 exit ∷ []) ≡ seen 3 0 (id 0 ∷ id 2 ∷ []) fair.chosen
unfolding left fair.watch step start_step claimed admit_step admitted free_slot first_at count_of any_of tab switch_step switch_on pulls turn leaves chooses enters parks
idle_counts = refl

-- a turn earlier it waits still, and those two were chosen
pub waits-still : fair.watch (at 4 (start ∷ admit 0 ∷ switch 0 yield ∷ admit 0 ∷ admit 0 ∷ [])) 0 (id 3) (switch 0 preempt ∷ switch 0 yield ∷ []) ≡ seen 2 0 (id 0 ∷ id 2 ∷ []) fair.still
unfolding left fair.watch step start_step claimed admit_step admitted free_slot first_at count_of any_of tab switch_step switch_on pulls turn leaves chooses enters parks
waits-still = refl

-- a yield by idle is a turn
pub idle-turns : fair.watch (at 4 (start ∷ admit 0 ∷ admit 0 ∷ [])) 0 (id 2) (switch 0 yield ∷ switch 0 exit ∷ []) ≡ seen 2 0 (id 1 ∷ []) fair.chosen
unfolding left fair.watch step start_step claimed admit_step admitted free_slot first_at count_of any_of tab switch_step switch_on pulls turn leaves chooses enters parks
idle-turns = refl

-- a preempt by idle on the other CPU steals, and that is counted
pub switch-steals : fair.watch (at 5 (start ∷ start1 ∷ admit 0 ∷ admit 0 ∷ mark (id 3) true ∷ [])) 0 (id 2) (switch 1 preempt ∷ switch 0 yield ∷ []) ≡ seen 1 1 [] fair.chosen
unfolding left fair.watch step start_step start_cpu_step claimed admit_step admitted free_slot first_at count_of any_of tab mark_step can_steal stealing loot_at stolen switch_step switch_on pulls turn leaves chooses enters parks
switch-steals = refl

-- a task that is stolen itself
pub is_stolen : fair.watch (at 4 (start ∷ admit 0 ∷ mark (id 1) true ∷ [])) 0 (id 1) (steal 1 ∷ switch 0 yield ∷ []) ≡ seen 0 0 [] fair.stolen
unfolding left fair.watch step start_step claimed admit_step admitted free_slot first_at count_of any_of tab mark_step try_steal_step can_steal stealing loot_at stolen
is_stolen = refl
