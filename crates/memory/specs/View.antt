-- From the table in memory to the model: arrays cut to N, each ring read from head to tail, flags as true or false.
use Rattle.std.specs.Prelude.{◌≡◌, cond, map, ℕ, ◌*◌, ◌≤◌, ◌<◌, length, get_or, take, Some, None}
use Rattle.lists.specs.Flags.{FLAGS, is_set}
use Rattle.lists.specs.Tab.{tab}
use Rattle.ids.specs.Id.{idle}
use Rattle.answers.specs.Contract.{Kind}
use Rattle.runqueue.specs.Ring.{queue_at}
use Rattle.model.specs.Model.{Model, Cpu, MOST, CPUS}
use Rattle.model.specs.Sound as plain
use Rattle.memory.specs.declared.Tasks.{Tasks}

-- how far apart the rings stand
abbrev pub SPAN : ℕ
SPAN = 64

abbrev pub head_of : Tasks → ℕ → ℕ
head_of t c = get_or t.small.heads c 0

abbrev pub len_of : Tasks → ℕ → ℕ
len_of t c = get_or t.small.lens c 0

unfoldable pub cpu_at : Tasks → ℕ → Cpu
cpu_at t c =
    record {
      queue = queue_at t.ring_slots t.ring_epochs t.small.n (c * SPAN) (head_of t c) (len_of t c);
      current = get_or t.small.currents c idle;
      idle = get_or t.small.idles c idle;
    }

unfoldable pub view : Tasks → Model
view t =
    record {
      n = t.small.n;
      states = take t.small.n t.states;
      epochs = take t.small.n t.epochs;
      homes = take t.small.n t.homes;
      marks = map is_set (take t.small.n t.marks);
      cpus = tab CPUS (cpu_at t);
      parked = cond (is_set t.small.parked) (Some t.small.parked_id) None;
      overwrites = t.small.overwrites;
      block_events = t.small.block_events;
      peak = t.small.peak;
    }

-- Document 01: queue heads below N, lengths at most N
pub record RingIs (t : Tasks) (c : ℕ) : Type 0 where
  pub head : head_of t c < t.small.n
  pub len : len_of t c ≤ t.small.n

-- what the view rests on: N listed, the sizes of the arrays, where the rings start, flags that are known
pub record Rep (t : Tasks) : Type 0 where
  pub some : 1 ≤ t.small.n
  pub most : t.small.n ≤ MOST
  pub states : length t.states ≡ MOST
  pub epochs : length t.epochs ≡ MOST
  pub homes : length t.homes ≡ MOST
  pub marks : length t.marks ≡ MOST
  pub slots : length t.ring_slots ≡ CPUS * SPAN
  pub tenures : length t.ring_epochs ≡ CPUS * SPAN
  pub heads : length t.small.heads ≡ CPUS
  pub lens : length t.small.lens ≡ CPUS
  pub currents : length t.small.currents ≡ CPUS
  pub idles : length t.small.idles ≡ CPUS
  pub rings : (c : ℕ) → c < CPUS → RingIs t c
  pub flags : (i : ℕ) → i < t.small.n → get_or t.marks i 0 < FLAGS
  pub flag : t.small.parked < FLAGS

pub record Sound (t : Tasks) : Type 0 where
  pub rep : Rep t
  pub model : plain.Sound (view t)

abbrev pub table : Kind
table = record { Memory = Tasks; Plain = Model; Sound = Sound; view = view }
