-- Document 01, "When a task table is sound", clause by clause. That entries are Ready and homed there, that no slot stands
-- twice and that every Ready slot is queued is one count for each slot and CPU; proofs/Literal.antt shows that the count
-- says just that, and that an idle as it is said here is its CPU's current or in its queue.
use Rattle.std.specs.Prelude.{◌≡◌, Bool, true, false, ◌&&◌, ◌⊎◌, List, [], ◌∷◌, ℕ, ◌+◌, ◌≤◌, ◌<◌, length, eqb}
use Rattle.lists.specs.Search.{one_if}
use Rattle.lists.specs.Entries.{Holds}
use Rattle.ids.specs.declared.TaskId.{TaskId}
use Rattle.ids.specs.Id.{EPOCHS, idle}
use Rattle.model.specs.Model.{Model, MOST, CPUS, STATES, EMPTY, READY, RUNNING, state_of, epoch_of, home_of, mark_of, queue_of, current_of, idle_of, started_on, occupied, bump, fresh}

-- how often slot i stands in a queue
unfoldable pub occ : ℕ → List TaskId → ℕ
occ i [] = 0
occ i (e ∷ l) = one_if (eqb e.slot i) + occ i l

-- N listed, and as many places in each list
pub record Shape (m : Model) : Type 0 where
  pub some : 1 ≤ m.n
  pub most : m.n ≤ MOST
  pub states : length m.states ≡ m.n
  pub epochs : length m.epochs ≡ m.n
  pub homes : length m.homes ≡ m.n
  pub marks : length m.marks ≡ m.n
  pub cpus : length m.cpus ≡ CPUS

-- an id is known
pub record Known (m : Model) (id : TaskId) : Type 0 where
  pub slot : id.slot < m.n
  pub epoch : epoch_of m id.slot ≡ id.epoch

-- every entry of a queue has a known id
unfoldable pub AllKnown : Model → List TaskId → Type 0
AllKnown m [] = Unit {0}
AllKnown m (e ∷ l) = Known m e × AllKnown m l

-- Ready, and homed on a CPU
abbrev pub ready_on : Model → ℕ → ℕ → Bool
ready_on m c i = eqb (state_of m i) READY && eqb (home_of m i) c

pub record SlotOk (m : Model) (i : ℕ) : Type 0 where
  -- state codes known; homes are 0 or 1; an epoch has 16 bits
  pub state : state_of m i < STATES
  pub home : home_of m i < CPUS
  pub epoch : epoch_of m i < EPOCHS
  -- queue entries are Ready and homed there, no slot twice; every Ready slot is queued
  pub queued : (c : ℕ) → c < CPUS → occ i (queue_of m c) ≡ one_if (ready_on m c i)
  -- Running slots are exactly the currents of started CPUs ..
  pub running : state_of m i ≡ RUNNING → (started_on m (home_of m i) ≡ true) × ((current_of m (home_of m i)).slot ≡ i)

-- Ready or Running
abbrev pub Active : ℕ → Type 0
Active s = (s ≡ READY) ⊎ (s ≡ RUNNING)

-- a CPU that has been started
pub record OnOk (m : Model) (c : ℕ) : Type 0 where
  -- .. their ids known, each homed there
  pub current : Known m (current_of m c)
  pub runs : state_of m (current_of m c).slot ≡ RUNNING
  pub current_home : home_of m (current_of m c).slot ≡ c
  -- its idle is its current or in its queue, homed there and not marked stealeable
  pub idle : Known m (idle_of m c)
  pub idle_active : Active (state_of m (idle_of m c).slot)
  pub idle_home : home_of m (idle_of m c).slot ≡ c
  pub idle_mark : mark_of m (idle_of m c).slot ≡ false

-- a CPU that has not: current and idle are 0/0
pub record OffOk (m : Model) (c : ℕ) : Type 0 where
  pub current : current_of m c ≡ idle
  pub idle : idle_of m c ≡ idle

pub record CpuOk (m : Model) (c : ℕ) : Type 0 where
  pub entries : AllKnown m (queue_of m c)
  pub on : started_on m c ≡ true → OnOk m c
  pub off : started_on m c ≡ false → OffOk m c

-- a parked id has an Empty slot other than 0 and the epoch just before the slot's
pub record ParkedOk (m : Model) (p : TaskId) : Type 0 where
  pub slot : p.slot < m.n
  pub other : p.slot ≡ 0 → ⊥
  pub state : state_of m p.slot ≡ EMPTY
  pub fits : p.epoch < EPOCHS
  pub epoch : bump p.epoch ≡ epoch_of m p.slot

pub record Live (m : Model) : Type 0 where
  -- started: slot 0 not Empty
  pub on : state_of m 0 ≡ EMPTY → ⊥
  pub slots : (i : ℕ) → i < m.n → SlotOk m i
  pub cpus : (c : ℕ) → c < CPUS → CpuOk m c
  -- idle 0 is 0/0 with home 0 (its home by `cpus`); idle 1 has another slot by its home
  pub first : idle_of m 0 ≡ idle
  pub parked : Holds (ParkedOk m) m.parked
  -- peak is between occupied slots and N
  pub low : occupied m ≤ m.peak
  pub high : m.peak ≤ m.n

-- either equal to a table just made, or started
pub record Sound (m : Model) : Type 0 where
  pub shape : Shape m
  pub either : (m ≡ fresh m.n) ⊎ Live m
