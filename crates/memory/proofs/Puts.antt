-- Stores, said of the whole table: a table that a function leaves is a composition of these, by computation.
use mathlib.Core.List.{List}
use Prim.Native.Nat.{ℕ}
use lib.ListN.{set}
use Rattle.ids.specs.declared.TaskId.{TaskId}
use Rattle.memory.specs.declared.Small.{Small}
use Rattle.memory.specs.declared.Tasks.{Tasks}

-- THE SMALL PART

-- heads and lengths of the rings
abbrev pub small_rings : Small → List ℕ → List ℕ → Small
small_rings s h l = record { n = s.n; heads = h; lens = l; currents = s.currents; idles = s.idles; parked = s.parked; parked_id = s.parked_id; overwrites = s.overwrites; block_events = s.block_events; peak = s.peak }

-- who runs on the CPUs, and who is idle there
abbrev pub small_cpus : Small → List TaskId → List TaskId → Small
small_cpus s k i = record { n = s.n; heads = s.heads; lens = s.lens; currents = k; idles = i; parked = s.parked; parked_id = s.parked_id; overwrites = s.overwrites; block_events = s.block_events; peak = s.peak }

-- the parked id and the counters
abbrev pub small_rest : Small → ℕ → TaskId → ℕ → ℕ → ℕ → Small
small_rest s p i o b k = record { n = s.n; heads = s.heads; lens = s.lens; currents = s.currents; idles = s.idles; parked = p; parked_id = i; overwrites = o; block_events = b; peak = k }

-- THE TABLE

abbrev pub put_small : Tasks → Small → Tasks
put_small t s = record { small = s; states = t.states; epochs = t.epochs; homes = t.homes; marks = t.marks; ring_slots = t.ring_slots; ring_epochs = t.ring_epochs }

-- what slots have: states, epochs, homes, marks
abbrev pub put_slots : Tasks → List ℕ → List ℕ → List ℕ → List ℕ → Tasks
put_slots t s e h k = record { small = t.small; states = s; epochs = e; homes = h; marks = k; ring_slots = t.ring_slots; ring_epochs = t.ring_epochs }

-- what rings have: the two arrays, heads and lengths
abbrev pub put_rings : Tasks → List ℕ → List ℕ → List ℕ → List ℕ → Tasks
put_rings t s e h l = record { small = small_rings t.small h l; states = t.states; epochs = t.epochs; homes = t.homes; marks = t.marks; ring_slots = s; ring_epochs = e }

abbrev pub put_cpus : Tasks → List TaskId → List TaskId → Tasks
put_cpus t k i = put_small t (small_cpus t.small k i)

abbrev pub put_rest : Tasks → ℕ → TaskId → ℕ → ℕ → ℕ → Tasks
put_rest t p i o b k = put_small t (small_rest t.small p i o b k)

abbrev pub put_state : Tasks → ℕ → ℕ → Tasks
put_state t i v = put_slots t (set t.states i v) t.epochs t.homes t.marks

abbrev pub put_epoch : Tasks → ℕ → ℕ → Tasks
put_epoch t i v = put_slots t t.states (set t.epochs i v) t.homes t.marks

abbrev pub put_home : Tasks → ℕ → ℕ → Tasks
put_home t i v = put_slots t t.states t.epochs (set t.homes i v) t.marks

abbrev pub put_mark : Tasks → ℕ → ℕ → Tasks
put_mark t i v = put_slots t t.states t.epochs t.homes (set t.marks i v)

-- an id at an index of the rings, and a new length for CPU c
abbrev pub put_tail : Tasks → ℕ → ℕ → ℕ → TaskId → Tasks
put_tail t c i l x = put_rings t (set t.ring_slots i x.slot) (set t.ring_epochs i x.epoch) t.small.heads (set t.small.lens c l)

-- a new head and a new length for CPU c
abbrev pub put_head : Tasks → ℕ → ℕ → ℕ → Tasks
put_head t c h l = put_rings t t.ring_slots t.ring_epochs (set t.small.heads c h) (set t.small.lens c l)

abbrev pub put_current : Tasks → ℕ → TaskId → Tasks
put_current t c x = put_cpus t (set t.small.currents c x) t.small.idles

-- x runs on CPU c and is idle there
abbrev pub put_owner : Tasks → ℕ → TaskId → Tasks
put_owner t c x = put_cpus t (set t.small.currents c x) (set t.small.idles c x)
