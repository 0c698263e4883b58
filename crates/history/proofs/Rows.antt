-- Rows that compute, beside the theorems: what the definitions count.
use mathlib.Core.Path.{◌≡◌, refl}
use mathlib.Core.Bool.{true, false}
use mathlib.Core.List.{List, [], ◌∷◌, ◌++◌}
use Prim.Native.Nat.{ℕ}
use Rattle.lists.specs.Tab.{tab}
use Rattle.lists.specs.Search.{first_at, count_of, any_of}
use Rattle.ids.specs.declared.TaskId.{TaskId}
use Rattle.answers.specs.Run.{left, times}
use Rattle.model.specs.Model.{fresh, free_slot, known, occupied, with_epoch}
use Rattle.model.specs.Sound.{Sound}
use Rattle.model.specs.Steps.{claimed, start_step, start_cpu_step, admitted, admit_step, woken, wake_step, collect_step}
use Rattle.model.specs.Switch.{yield, block, exit, loot_at, can_steal, stealing, leaves, enters, parks, chooses, turn, pulls, switch_on, switch_step}
use Rattle.model.specs.Calls.{Call, start, start1, admit, switch, wake, collect, step}
use Rattle.model.proofs.SoundRows.{begun, last_epoch}
use Rattle.history.specs.History.{highest, arrivals, departures, exits_of, blocks, displacements}

abbrev id : ℕ → ℕ → TaskId
id s e = record { slot = s; epoch = e }

-- N 4: both CPUs start, one of them twice; two tasks come, one blocks, both leave with no collect between; one finds no slot
abbrev day : List Call
day = start ∷ start ∷ start1 ∷ start1 ∷ admit 0 ∷ admit 0 ∷ admit 0 ∷ switch 0 yield ∷ switch 0 block ∷ switch 0 exit ∷ wake (id 2 0) ∷ switch 0 block ∷ switch 0 yield ∷ switch 0 exit ∷ []

pub day_arrivals : arrivals (fresh 4) day ≡ 4
unfolding times step start_step start_cpu_step claimed admit_step admitted free_slot first_at count_of any_of tab switch_step switch_on pulls can_steal stealing loot_at turn leaves chooses enters parks wake_step woken
day_arrivals = refl

pub day_departures : departures (fresh 4) day ≡ 2
unfolding times step start_step start_cpu_step claimed admit_step admitted free_slot first_at count_of any_of tab switch_step switch_on pulls can_steal stealing loot_at turn leaves chooses enters parks wake_step woken
day_departures = refl

pub day_blocks : blocks (fresh 4) day ≡ 1
unfolding times step start_step start_cpu_step claimed admit_step admitted free_slot first_at count_of any_of tab switch_step switch_on pulls can_steal stealing loot_at turn leaves chooses enters parks wake_step woken
day_blocks = refl

pub day_displacements : displacements (fresh 4) day ≡ 1
unfolding times step start_step start_cpu_step claimed admit_step admitted free_slot first_at count_of any_of tab switch_step switch_on pulls can_steal stealing loot_at turn leaves chooses enters parks wake_step woken
day_displacements = refl

pub day_highest : (highest (fresh 4) day ≡ 4) × (occupied (left step (fresh 4) day) ≡ 2)
unfolding left highest step start_step start_cpu_step claimed admit_step admitted free_slot first_at count_of any_of tab switch_step switch_on pulls can_steal stealing loot_at turn leaves chooses enters parks wake_step woken
day_highest = (refl, refl)

-- a tenant of slot 1 comes and leaves: its id is not known then, and its slot has had one exit
abbrev visit : List Call
visit = admit 0 ∷ switch 0 yield ∷ switch 0 exit ∷ collect ∷ []

pub visited : (exits_of 1 (fresh 2) (start ∷ visit ++ visit) ≡ 2) × (known (left step (fresh 2) (start ∷ visit)) (id 1 0) ≡ false) × (known (left step (fresh 2) (start ∷ visit)) (id 1 1) ≡ true)
unfolding left times step start_step claimed admit_step admitted free_slot first_at count_of tab switch_step switch_on pulls turn leaves chooses enters parks collect_step
visited = (refl, refl, refl)

-- a sound table with a slot at its last epoch: after one exit more an id of epoch 0 is known
pub revived : Sound (with_epoch begun 1 65535) × (known (left step (with_epoch begun 1 65535) visit) (id 1 0) ≡ true)
unfolding left step start_step claimed admit_step admitted free_slot first_at count_of tab switch_step switch_on pulls turn leaves chooses enters parks collect_step
revived = (last_epoch, refl)
