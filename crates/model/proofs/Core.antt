-- The part of soundness that every move keeps, also in the middle of a switch, when one CPU is between two tasks. What is
-- left of `Live` (idles Ready or Running, the parked id, the peak) is added back where a call ends.
use mathlib.Core.Path.{◌≡◌, sym, ◌∙◌, ap}
use mathlib.Core.Bool.{Bool, true, false, not, cond}
use Prim.Native.Nat.{ℕ, ◌≤◌, ◌<◌}
use native.Mathlib.Omega.{arith}
use lib.Dec.{eqb}
use borrow.Author.Tests.{ne_eqb}
use Rattle.lists.specs.Search.{one_if}
use Rattle.lists.specs.Entries.{Holds}
use Rattle.ids.specs.declared.TaskId.{TaskId}
use Rattle.ids.specs.Id.{EPOCHS, same_id, idle}
use Rattle.model.specs.Model.{Model, Cpu, CPUS, STATES, EMPTY, RUNNING, state_of, epoch_of, home_of, mark_of, cpu_of, queue_of, current_of, idle_of, started_on, occupied}
use Rattle.model.specs.Sound.{occ, ready_on, Shape, Known, AllKnown, Active, SlotOk, OnOk, OffOk, CpuOk, ParkedOk, Live}

-- a CPU is started, in a table that is
abbrev pub lit_by : ℕ → Cpu → Bool
lit_by c x = cond (eqb c 0) true (not (same_id x.idle idle))

abbrev pub lit : Model → ℕ → Bool
lit m c = lit_by c (cpu_of m c)

pub lit_is : (m : Model) → (state_of m 0 ≡ EMPTY → ⊥) → (c : ℕ) → started_on m c ≡ lit m c
lit_is m on c = rw (ne_eqb (state_of m 0) EMPTY on)

-- it goes by the idle
pub lit-by : (m w : Model) (c : ℕ) → idle_of w c ≡ idle_of m c → lit w c ≡ lit m c
lit-by m w c e = ap (λ (i : TaskId). cond (eqb c 0) true (not (same_id i idle))) e

-- the slots, where CPU h is between two tasks (none is when h is CPUS)
pub record SlotCore (m : Model) (h i : ℕ) : Type 0 where
  pub state : state_of m i < STATES
  pub home : home_of m i < CPUS
  pub epoch : epoch_of m i < EPOCHS
  pub queued : (c : ℕ) → c < CPUS → occ i (queue_of m c) ≡ one_if (ready_on m c i)
  pub running : state_of m i ≡ RUNNING → (home_of m i ≡ h → ⊥) × (lit m (home_of m i) ≡ true) × ((current_of m (home_of m i)).slot ≡ i)

-- the current of a CPU that is not between two tasks
pub record Runs (m : Model) (c : ℕ) : Type 0 where
  pub current : Known m (current_of m c)
  pub runs : state_of m (current_of m c).slot ≡ RUNNING
  pub home : home_of m (current_of m c).slot ≡ c

-- the idle of a CPU, whatever its state
pub record Rests (m : Model) (c : ℕ) : Type 0 where
  pub idle : Known m (idle_of m c)
  pub home : home_of m (idle_of m c).slot ≡ c
  pub mark : mark_of m (idle_of m c).slot ≡ false

pub record CpuCore (m : Model) (h c : ℕ) : Type 0 where
  pub entries : AllKnown m (queue_of m c)
  pub current : lit m c ≡ true → (c ≡ h → ⊥) → Runs m c
  pub rests : lit m c ≡ true → Rests m c
  pub off : lit m c ≡ false → OffOk m c

pub record Core (m : Model) (h : ℕ) : Type 0 where
  pub shape : Shape m
  pub on : state_of m 0 ≡ EMPTY → ⊥
  pub slots : (i : ℕ) → i < m.n → SlotCore m h i
  pub cpus : (c : ℕ) → c < CPUS → CpuCore m h c
  pub first : idle_of m 0 ≡ idle

-- every started CPU's idle is Ready or Running
pub record Awake (m : Model) : Type 0 where
  pub idles : (c : ℕ) → c < CPUS → lit m c ≡ true → Active (state_of m (idle_of m c).slot)

-- the rest of soundness
pub record Ends (m : Model) : Type 0 where
  pub awake : Awake m
  pub parked : Holds (ParkedOk m) m.parked
  pub low : occupied m ≤ m.peak
  pub high : m.peak ≤ m.n

-- the same of an id that the current or the idle equals
pub runs_by : (m : Model) (c : ℕ) (x : TaskId) → current_of m c ≡ x → Known m x → state_of m x.slot ≡ RUNNING → home_of m x.slot ≡ c → Runs m c
runs_by m c x e k r h = record { current = rw e k; runs = rw e r; home = rw e h }

pub rests_by : (m : Model) (c : ℕ) (x : TaskId) → idle_of m c ≡ x → Known m x → home_of m x.slot ≡ c → mark_of m x.slot ≡ false → Rests m c
rests_by m c x e k h b = record { idle = rw e k; home = rw e h; mark = rw e b }

pub off_by : (m w : Model) (c : ℕ) → current_of w c ≡ current_of m c → idle_of w c ≡ idle_of m c → OffOk m c → OffOk w c
off_by m w c a b o = record { current = a ∙ o.current; idle = b ∙ o.idle }

module _ (m : Model) where
  pub live_core : Shape m → Live m → Core m CPUS
  live_core s v = record { shape = s; on = v.on; slots = slot; cpus = cpu; first = v.first }
    where
      is : (c : ℕ) → started_on m c ≡ lit m c
      is c = lit_is m v.on c

      slot : (i : ℕ) → i < m.n → SlotCore m CPUS i
      slot i h =
          let o = v.slots i h in
          record {
            state = o.state;
            home = o.home;
            epoch = o.epoch;
            queued = o.queued;
            running = λ r. (λ e. omega (arith, o.home), sym (is (home_of m i)) ∙ (o.running r).0, (o.running r).1);
          }

      cpu : (c : ℕ) → c < CPUS → CpuCore m CPUS c
      cpu c h =
          let o = v.cpus c h in
          record {
            entries = o.entries;
            current = λ l _. let k = o.on (is c ∙ l) in record { current = k.current; runs = k.runs; home = k.current_home };
            rests = λ l. let k = o.on (is c ∙ l) in record { idle = k.idle; home = k.idle_home; mark = k.idle_mark };
            off = λ l. o.off (is c ∙ l);
          }

  pub live-ends : Live m → Ends m
  live-ends v =
      record {
        awake = record { idles = λ c h l. ((v.cpus c h).on (lit_is m v.on c ∙ l)).idle_active };
        parked = v.parked;
        low = v.low;
        high = v.high;
      }

  pub core_live : Core m CPUS → Ends m → Live m
  core_live k z = record { on = k.on; slots = slot; cpus = cpu; first = k.first; parked = z.parked; low = z.low; high = z.high }
    where
      is : (c : ℕ) → started_on m c ≡ lit m c
      is c = lit_is m k.on c

      slot : (i : ℕ) → i < m.n → SlotOk m i
      slot i h =
          let o = k.slots i h in
          record {
            state = o.state;
            home = o.home;
            epoch = o.epoch;
            queued = o.queued;
            running = λ r. (is (home_of m i) ∙ (o.running r).1, (o.running r).2);
          }

      cpu : (c : ℕ) → c < CPUS → CpuOk m c
      cpu c h =
          let o = k.cpus c h in
          let on : started_on m c ≡ true → OnOk m c =
          λ s.
          let l = sym (is c) ∙ s in
          let r = o.current l (λ e. omega arith) in
          let d = o.rests l in
          record {
            current = r.current;
            runs = r.runs;
            current_home = r.home;
            idle = d.idle;
            idle_active = z.awake.idles c h l;
            idle_home = d.home;
            idle_mark = d.mark;
          }
          in
          record { entries = o.entries; on = on; off = λ s. o.off (sym (is c) ∙ s) }

  pub finish : Core m CPUS → Ends m → Shape m × Live m
  finish k z = (k.shape, core_live k z)
