-- The task table on paper: a list for each thing that a slot has, and for each CPU a queue, head first, with the task that
-- runs there and the one that is idle there.
use Rattle.std.specs.Prelude.{Bool, false, ◌&&◌, not, cond, List, [], ◌∷◌, ◌++◌, ℕ, ◌+◌, ◌-◌, ◌%◌, ◌^◌, min, max, get_or, set, replicate, eqb, ltb, Option, None}
use Rattle.answers.specs.Sizes as sizes
use Rattle.lists.specs.Tab.{tab}
use Rattle.lists.specs.Search.{first_at, count_of, any_of}
use Rattle.lists.specs.Entries.{taken}
use Rattle.ids.specs.declared.TaskId.{TaskId}
use Rattle.ids.specs.Id.{EPOCHS, same_id, idle}

pub record Cpu : Type 0 where
  pub queue : List TaskId
  pub current : TaskId
  pub idle : TaskId

pub record Model : Type 0 where
  pub n : ℕ
  pub states : List ℕ
  pub epochs : List ℕ
  pub homes : List ℕ
  -- whether another CPU may steal the slot's task
  pub marks : List Bool
  pub cpus : List Cpu
  -- the last leaver, until its stack is collected
  pub parked : Option TaskId
  pub overwrites : ℕ
  pub block_events : ℕ
  pub peak : ℕ

-- NUMBERS

-- the largest table
abbrev pub MOST : ℕ
MOST = sizes.MOST

abbrev pub CPUS : ℕ
CPUS = 2

-- the end of a counter that stops there
abbrev pub TOP : ℕ
TOP = 2 ^ 32 - 1

-- a counter raised by one, at most to its end
abbrev pub capped : ℕ → ℕ
capped v = min (v + 1) TOP

-- a slot's next epoch: 0 after the last
abbrev pub bump : ℕ → ℕ
bump e = (e + 1) % EPOCHS

-- state codes
abbrev pub EMPTY : ℕ
EMPTY = 0

abbrev pub READY : ℕ
READY = 1

abbrev pub RUNNING : ℕ
RUNNING = 2

abbrev pub BLOCKED : ℕ
BLOCKED = 3

abbrev pub STATES : ℕ
STATES = 4

-- READING

abbrev pub no_cpu : Cpu
no_cpu = record { queue = []; current = idle; idle = idle }

abbrev pub state_of : Model → ℕ → ℕ
state_of m i = get_or m.states i EMPTY

abbrev pub epoch_of : Model → ℕ → ℕ
epoch_of m i = get_or m.epochs i 0

abbrev pub home_of : Model → ℕ → ℕ
home_of m i = get_or m.homes i 0

abbrev pub mark_of : Model → ℕ → Bool
mark_of m i = get_or m.marks i false

abbrev pub cpu_of : Model → ℕ → Cpu
cpu_of m c = get_or m.cpus c no_cpu

abbrev pub queue_of : Model → ℕ → List TaskId
queue_of m c = (cpu_of m c).queue

abbrev pub current_of : Model → ℕ → TaskId
current_of m c = (cpu_of m c).current

abbrev pub idle_of : Model → ℕ → TaskId
idle_of m c = (cpu_of m c).idle

-- the id of the task that a slot has, or would have
abbrev pub tenant : Model → ℕ → TaskId
tenant m s = record { slot = s; epoch = epoch_of m s }

-- an id is known when its slot is below N and its epoch equals the slot's
abbrev pub known : Model → TaskId → Bool
known m id = ltb id.slot m.n && eqb (epoch_of m id.slot) id.epoch

abbrev pub is_idle : Model → TaskId → Bool
is_idle m id = any_of (λ (k : Cpu). same_id id k.idle) m.cpus

-- the table is started once slot 0 has its task; another CPU once it has an idle of its own
abbrev pub started : Model → Bool
started m = not (eqb (state_of m 0) EMPTY)

abbrev pub started_on : Model → ℕ → Bool
started_on m c = cond (eqb c 0) (started m) (not (same_id (idle_of m c) idle))

abbrev pub occupied : Model → ℕ
occupied m = count_of (λ s. not (eqb s EMPTY)) m.states

abbrev pub blocked : Model → ℕ
blocked m = count_of (λ s. eqb s BLOCKED) m.states

-- a slot that a new task can have: Empty, and not the parked one
abbrev pub vacant : Model → ℕ → Bool
vacant m s = eqb (state_of m s) EMPTY && not (taken (λ (p : TaskId). eqb p.slot s) m.parked)

-- the lowest of them, or N where there is none
unfoldable pub free_slot : Model → ℕ
free_slot m = first_at (vacant m) (tab m.n (λ s. s))

-- CHANGING

abbrev pub slots_to : Model → List ℕ → List ℕ → List ℕ → List Bool → Model
slots_to m s e h k = record { n = m.n; states = s; epochs = e; homes = h; marks = k; cpus = m.cpus; parked = m.parked; overwrites = m.overwrites; block_events = m.block_events; peak = m.peak }

abbrev pub cpus_to : Model → List Cpu → Model
cpus_to m cs = record { n = m.n; states = m.states; epochs = m.epochs; homes = m.homes; marks = m.marks; cpus = cs; parked = m.parked; overwrites = m.overwrites; block_events = m.block_events; peak = m.peak }

abbrev pub rest_to : Model → Option TaskId → ℕ → ℕ → ℕ → Model
rest_to m p o b k = record { n = m.n; states = m.states; epochs = m.epochs; homes = m.homes; marks = m.marks; cpus = m.cpus; parked = p; overwrites = o; block_events = b; peak = k }

abbrev pub with_state : Model → ℕ → ℕ → Model
with_state m i v = slots_to m (set m.states i v) m.epochs m.homes m.marks

abbrev pub with_epoch : Model → ℕ → ℕ → Model
with_epoch m i v = slots_to m m.states (set m.epochs i v) m.homes m.marks

abbrev pub with_home : Model → ℕ → ℕ → Model
with_home m i v = slots_to m m.states m.epochs (set m.homes i v) m.marks

abbrev pub with_mark : Model → ℕ → Bool → Model
with_mark m i v = slots_to m m.states m.epochs m.homes (set m.marks i v)

abbrev pub with_cpu : Model → ℕ → Cpu → Model
with_cpu m c k = cpus_to m (set m.cpus c k)

abbrev pub set_queue : Cpu → List TaskId → Cpu
set_queue k l = record { queue = l; current = k.current; idle = k.idle }

abbrev pub with_queue : Model → ℕ → List TaskId → Model
with_queue m c l = with_cpu m c (set_queue (cpu_of m c) l)

-- one more at the tail of a CPU's queue
abbrev pub pushed : Model → ℕ → TaskId → Model
pushed m c id = with_queue m c (queue_of m c ++ (id ∷ []))

abbrev pub with_parked : Model → Option TaskId → Model
with_parked m p = rest_to m p m.overwrites m.block_events m.peak

-- the largest number of occupied slots so far
abbrev pub noted : Model → Model
noted m = rest_to m m.parked m.overwrites m.block_events (max m.peak (occupied m))

-- a table just made
abbrev pub fresh : ℕ → Model
fresh n =
    record {
      n = n;
      states = replicate n EMPTY;
      epochs = replicate n 0;
      homes = replicate n 0;
      marks = replicate n false;
      cpus = replicate CPUS no_cpu;
      parked = None;
      overwrites = 0;
      block_events = 0;
      peak = 0;
    }
