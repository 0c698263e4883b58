-- What each part of the soundness test tells, said of the arrays that it is lent. A slot's note is the state that the queues
-- and the currents ask of it: Ready where it is queued, Running where it is a current, and else Empty, which stands for
-- Blocked too.
use Rattle.std.specs.Prelude.{◌≡◌, ℕ, ◌+◌, ◌*◌, ◌<◌, ◌≤◌, Bool, true, false, cond, not, List, get_or, length, replicate, ◌==◌, ◌≢◌, slice_index, slice_index_or, slice_set, Option, is_some, IfSome}
use Rattle.lists.specs.Flags.{FLAGS}
use Rattle.lists.specs.Tells.{Tells}
use Rattle.lists.specs.Tab.{tab}
use Rattle.lists.specs.Search.{count_of}
use Rattle.ids.specs.declared.TaskId.{TaskId}
use Rattle.ids.specs.Id.{EPOCHS, same_id, idle}
use Rattle.runqueue.specs.Ring.{placed, id_at}
use Rattle.model.specs.Model.{MOST, CPUS, STATES, EMPTY, READY, RUNNING, BLOCKED, bump}
use Rattle.model.specs.Sound.{Active}
use Rattle.memory.specs.declared.Small.{Small}
use Rattle.memory.specs.declared.Tasks.{Tasks}
use Rattle.memory.specs.View.{SPAN}
use Rattle.checks.specs.Walk.{notes_at, Passes}

-- N listed; head and length of each ring
pub record RingsFit (n : ℕ) (heads lens : List ℕ) : Type 0 where
  pub some : 1 ≤ n
  pub most : n ≤ MOST
  pub head : (c : ℕ) → c < CPUS → slice_index heads c < n
  pub len : (c : ℕ) → c < CPUS → slice_index lens c ≤ n

-- NOTES

abbrev pub no_notes : List ℕ
no_notes = replicate MOST EMPTY

abbrev pub noted : ℕ → TaskId → List ℕ → List ℕ
noted state id want = slice_set want id.slot state

-- an id is known, and its slot is homed on CPU c
pub record Homed (epochs homes : List ℕ) (n c : ℕ) (id : TaskId) : Type 0 where
  pub slot : id.slot < n
  pub epoch : get_or epochs id.slot 0 ≡ id.epoch
  pub home : get_or homes id.slot 0 ≡ c

-- besides, nothing is noted of it
pub record Free (epochs homes : List ℕ) (n c : ℕ) (id : TaskId) (want : List ℕ) : Type 0 where
  pub homed : Homed epochs homes n c id
  pub free : get_or want id.slot 0 ≡ EMPTY

-- QUEUES

-- the entries of CPU c's ring, from a head on
abbrev pub entry_at : List ℕ → List ℕ → ℕ → ℕ → ℕ → ℕ → TaskId
entry_at slots tenures n c head j = id_at slots tenures (c * SPAN + placed n (head + j))

abbrev pub entries : List ℕ → List ℕ → ℕ → List ℕ → ℕ → ℕ → TaskId
entries slots tenures n heads c = entry_at slots tenures n c (slice_index heads c)

-- each entry of a queue in its turn is free, and noted as Ready
abbrev pub QueueFits : List ℕ → List ℕ → ℕ → ℕ → (ℕ → TaskId) → ℕ → List ℕ → Type 0
QueueFits epochs homes n c q len want = Passes (λ j. Free epochs homes n c (q j)) (λ j. noted READY (q j)) len want

abbrev pub queue_notes : (ℕ → TaskId) → ℕ → List ℕ → List ℕ
queue_notes q len want = notes_at (λ j. noted READY (q j)) len want

-- the queues of the first k CPUs
abbrev pub QueuesFit : List ℕ → List ℕ → ℕ → (ℕ → ℕ → TaskId) → List ℕ → ℕ → List ℕ → Type 0
QueuesFit epochs homes n q lens k want =
    Passes (λ c. QueueFits epochs homes n c (q c) (slice_index lens c)) (λ c. queue_notes (q c) (slice_index lens c)) k want

abbrev pub queues_notes : (ℕ → ℕ → TaskId) → List ℕ → ℕ → List ℕ → List ℕ
queues_notes q lens k want = notes_at (λ c. queue_notes (q c) (slice_index lens c)) k want

-- CPUS

-- CPU 0 is started with the table, another once it has an idle of its own
abbrev pub is_on : ℕ → TaskId → Bool
is_on c own = cond (c == 0) true (not (same_id own idle))

pub record IdleFits (states epochs homes marks : List ℕ) (n c : ℕ) (id : TaskId) : Type 0 where
  pub homed : Homed epochs homes n c id
  pub mark : get_or marks id.slot 0 ≡ 0
  pub active : Active (slice_index states id.slot)

-- a started CPU: its current is free, and noted as Running
pub record OnFits (states epochs homes marks : List ℕ) (n c : ℕ) (who own : TaskId) (want : List ℕ) : Type 0 where
  pub current : Free epochs homes n c who want
  pub idle : IdleFits states epochs homes marks n c own

-- one that is not started has no current
pub record CpuFits (states epochs homes marks : List ℕ) (n c : ℕ) (who own : TaskId) (want : List ℕ) : Type 0 where
  pub first : c ≡ 0 → own ≡ idle
  pub on : is_on c own ≡ true → OnFits states epochs homes marks n c who own want
  pub off : is_on c own ≡ false → who ≡ idle

abbrev pub cpu_notes : ℕ → TaskId → TaskId → List ℕ → List ℕ
cpu_notes c who own want = cond (is_on c own) (noted RUNNING who want) want

-- the first k CPUs
abbrev pub CpusFit : List ℕ → List ℕ → List ℕ → List ℕ → ℕ → List TaskId → List TaskId → ℕ → List ℕ → Type 0
CpusFit states epochs homes marks n currents idles k want =
    Passes (λ c. CpuFits states epochs homes marks n c (slice_index_or currents c idle) (slice_index_or idles c idle)) (λ c. cpu_notes c (slice_index_or currents c idle) (slice_index_or idles c idle)) k want

abbrev pub cpus_notes : List TaskId → List TaskId → ℕ → List ℕ → List ℕ
cpus_notes currents idles k want = notes_at (λ c. cpu_notes c (slice_index_or currents c idle) (slice_index_or idles c idle)) k want

-- SLOTS

-- the note that a state asks
abbrev pub asked : ℕ → ℕ
asked state = cond (state == BLOCKED) EMPTY state

pub record SlotFits (s h m w : ℕ) : Type 0 where
  pub state : s < STATES
  pub home : h < CPUS
  pub mark : m < FLAGS
  pub note : w ≡ asked s

-- r counts what is wrong with it
pub record Misfits (s h m w r : ℕ) : Type 0 where
  pub tells : Tells (r == 0) (SlotFits s h m w)
  pub most : r ≤ 4

-- how many of the first n slots are not Empty
abbrev pub occupied_in : List ℕ → ℕ → ℕ
occupied_in states n = count_of (λ s. not (s == EMPTY)) (tab n (λ i. slice_index states i))

-- r: none where some slot does not fit
pub record SlotsFit (states homes marks want : List ℕ) (n : ℕ) (r : Option ℕ) : Type 0 where
  pub tells : Tells (is_some r) ((i : ℕ) → i < n → SlotFits (slice_index states i) (slice_index homes i) (slice_index marks i) (slice_index want i))
  pub used : IfSome r (λ u. u ≡ occupied_in states n)

-- THE REST

pub record ParkedFits (states epochs : List ℕ) (n : ℕ) (id : TaskId) : Type 0 where
  pub slot : id.slot < n
  pub other : id.slot ≡ 0 → ⊥
  pub state : get_or states id.slot 0 ≡ EMPTY
  pub epoch : bump id.epoch ≡ slice_index epochs id.slot

-- a flag, and a parked id where it is set
pub record ParkFits (states epochs : List ℕ) (n parked : ℕ) (id : TaskId) : Type 0 where
  pub flag : parked < FLAGS
  pub fits : (parked ≢ 0) → ParkedFits states epochs n id

-- a table that is started: its parts fit one after another, each on the notes of those before it
pub record LiveFits (states epochs homes marks slots tenures : List ℕ) (t : Small) : Type 0 where
  pub queues : QueuesFit epochs homes t.n (entries slots tenures t.n t.heads) t.lens CPUS no_notes
  pub cpus : CpusFit states epochs homes marks t.n t.currents t.idles CPUS (queues_notes (entries slots tenures t.n t.heads) t.lens CPUS no_notes)
  pub each : (i : ℕ) → i < t.n → SlotFits (slice_index states i) (slice_index homes i) (slice_index marks i) (slice_index (cpus_notes t.currents t.idles CPUS (queues_notes (entries slots tenures t.n t.heads) t.lens CPUS no_notes)) i)
  pub parked : ParkFits states epochs t.n t.parked t.parked_id
  pub low : occupied_in states t.n ≤ t.peak
  pub high : t.peak ≤ t.n

-- A TABLE JUST MADE

pub record SlotBlank (states epochs homes marks : List ℕ) (i : ℕ) : Type 0 where
  pub state : get_or states i 0 ≡ EMPTY
  pub epoch : get_or epochs i 0 ≡ 0
  pub home : get_or homes i 0 ≡ 0
  pub mark : get_or marks i 0 ≡ 0

pub record CpuBlank (lens : List ℕ) (currents idles : List TaskId) (c : ℕ) : Type 0 where
  pub len : get_or lens c 0 ≡ 0
  pub current : get_or currents c idle ≡ idle
  pub idle : get_or idles c idle ≡ idle

-- of a table whose arrays are these
pub record FreshFits (states epochs homes marks : List ℕ) (t : Small) : Type 0 where
  pub slots : (i : ℕ) → i < t.n → SlotBlank states epochs homes marks i
  pub cpus : (c : ℕ) → c < CPUS → CpuBlank t.lens t.currents t.idles c
  pub parked : t.parked ≡ 0
  pub overwrites : t.overwrites ≡ 0
  pub events : t.block_events ≡ 0
  pub peak : t.peak ≡ 0

-- THE TABLE AS A WHOLE

-- the sizes of the arrays, and that an epoch has 16 bits
pub record Typed (t : Tasks) : Type 0 where
  pub states : length t.states ≡ MOST
  pub epochs : length t.epochs ≡ MOST
  pub homes : length t.homes ≡ MOST
  pub marks : length t.marks ≡ MOST
  pub slots : length t.ring_slots ≡ CPUS * SPAN
  pub tenures : length t.ring_epochs ≡ CPUS * SPAN
  pub heads : length t.small.heads ≡ CPUS
  pub lens : length t.small.lens ≡ CPUS
  pub currents : length t.small.currents ≡ CPUS
  pub idles : length t.small.idles ≡ CPUS
  pub epoch : (i : ℕ) → slice_index t.epochs i < EPOCHS
  pub last : t.small.parked_id.epoch < EPOCHS
