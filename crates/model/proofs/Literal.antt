-- The document's own words for a started table, and that they say what `Live` says: places instead of counts, Running slots
-- and currents both ways, an idle that is the current or stands in the queue.
use mathlib.Core.Path.{◌≡◌, refl, sym, ◌∙◌, ap, subst}
use mathlib.Core.Logic.{◌⊎◌, inl, inr, ⊎_elim}
use mathlib.Core.Bool.{Bool, true, false}
use mathlib.Core.List.{List, [], ◌∷◌}
use Prim.Native.Nat.{ℕ, zero, suc, ◌≤◌, ◌<◌, suc-le-suc, zero-le}
use native.Mathlib.Omega.{arith}
use native.Mathlib.Decide.{ℕ_discrete}
use lib.ListN.{length, get_or}
use lib.Dec.{eqb}
use borrow.Author.Tests.{eq-eqb, ne_eqb, eqb-true}
use Rattle.lists.specs.Search.{one_if}
use Rattle.lists.specs.Entries.{Holds}
use Rattle.lists.proofs.Basics.{not_both, both_true}
use Rattle.ids.specs.declared.TaskId.{TaskId}
use Rattle.ids.specs.Id.{EPOCHS, idle}
use Rattle.model.specs.Model.{Model, CPUS, STATES, EMPTY, READY, RUNNING, state_of, epoch_of, home_of, mark_of, queue_of, current_of, idle_of, started_on, occupied}
use Rattle.model.specs.Sound.{occ, ready_on, Known, AllKnown, SlotOk, OnOk, OffOk, ParkedOk, Live}
use Rattle.model.proofs.Counting.{one_if-most, ready-there, known-nil, known-cons}
use Rattle.model.proofs.Facts.{known_one, entry_known, idle_apart}

-- a place of a queue, and that an id stands there
abbrev pub slot_at : List TaskId → ℕ → ℕ
slot_at l k = (get_or l k idle).slot

abbrev pub Stands : TaskId → List TaskId → Type 0
Stands x l = (k : ℕ) × (k < length l) × (get_or l k idle ≡ x)

-- entries are known, Ready and homed there; no slot twice; every Ready slot is queued at its home
pub record QueueWritten (m : Model) (c : ℕ) : Type 0 where
  pub known : (k : ℕ) → k < length (queue_of m c) → Known m (get_or (queue_of m c) k idle)
  pub ready : (k : ℕ) → k < length (queue_of m c) → (state_of m (slot_at (queue_of m c) k) ≡ READY) × (home_of m (slot_at (queue_of m c) k) ≡ c)
  pub once : (j k : ℕ) → j < k → k < length (queue_of m c) → slot_at (queue_of m c) j ≡ slot_at (queue_of m c) k → ⊥
  pub all : (i : ℕ) → i < m.n → state_of m i ≡ READY → home_of m i ≡ c → (k : ℕ) × (k < length (queue_of m c)) × (slot_at (queue_of m c) k ≡ i)

pub record Codes (m : Model) (i : ℕ) : Type 0 where
  pub state : state_of m i < STATES
  pub home : home_of m i < CPUS
  pub epoch : epoch_of m i < EPOCHS

pub record CurrentWritten (m : Model) (c : ℕ) : Type 0 where
  pub known : Known m (current_of m c)
  pub runs : state_of m (current_of m c).slot ≡ RUNNING
  pub home : home_of m (current_of m c).slot ≡ c

pub record IdleWritten (m : Model) (c : ℕ) : Type 0 where
  pub place : (idle_of m c ≡ current_of m c) ⊎ Stands (idle_of m c) (queue_of m c)
  pub home : home_of m (idle_of m c).slot ≡ c
  pub mark : mark_of m (idle_of m c).slot ≡ false

pub record Written (m : Model) : Type 0 where
  pub on : state_of m 0 ≡ EMPTY → ⊥
  pub codes : (i : ℕ) → i < m.n → Codes m i
  pub queues : (c : ℕ) → c < CPUS → QueueWritten m c
  -- Running slots are exactly the currents of started CPUs
  pub running : (i : ℕ) → i < m.n → state_of m i ≡ RUNNING → (c : ℕ) × (c < CPUS) × (started_on m c ≡ true) × ((current_of m c).slot ≡ i)
  pub currents : (c : ℕ) → c < CPUS → started_on m c ≡ true → CurrentWritten m c
  pub idles : (c : ℕ) → c < CPUS → started_on m c ≡ true → IdleWritten m c
  pub off : (c : ℕ) → c < CPUS → started_on m c ≡ false → OffOk m c
  pub first : idle_of m 0 ≡ idle
  pub apart : (c d : ℕ) → c < CPUS → d < CPUS → started_on m c ≡ true → started_on m d ≡ true → (idle_of m c).slot ≡ (idle_of m d).slot → c ≡ d
  pub parked : Holds (ParkedOk m) m.parked
  pub low : occupied m ≤ m.peak
  pub high : m.peak ≤ m.n

-- COUNTS AND PLACES

-- a slot that is counted stands somewhere
pub counted : (i : ℕ) (l : List TaskId) → 0 < occ i l → (k : ℕ) × (k < length l) × (slot_at l k ≡ i)
unfolding occ
counted i [] h = absurd (omega arith)
counted i (e ∷ l) h =
    elim (ℕ_discrete e.slot i) [
      | yes p ↦ (0, suc-le-suc zero-le, p)
      | no p ↦ let r = counted i l (omega (arith, rw (ne_eqb e.slot i p) at h)) in (suc r.0, suc-le-suc r.1, r.2)
    ]

pub counts : (i : ℕ) (l : List TaskId) (k : ℕ) → k < length l → slot_at l k ≡ i → 0 < occ i l
unfolding occ
counts i [] k h p = absurd (omega arith)
counts i (e ∷ l) zero h p = rw (eq-eqb e.slot i p) (omega arith)
counts i (e ∷ l) (suc k) h p = omega (arith, counts i l k (omega arith) p)

pub counts_two : (i : ℕ) (l : List TaskId) (j k : ℕ) → j < k → k < length l → slot_at l j ≡ i → slot_at l k ≡ i → 2 ≤ occ i l
unfolding occ
counts_two i [] j k a h p q = absurd (omega arith)
counts_two i (e ∷ l) zero zero a h p q = absurd (omega arith)
counts_two i (e ∷ l) zero (suc k) a h p q = rw (eq-eqb e.slot i p) (omega (arith, counts i l k (omega arith) q))
counts_two i (e ∷ l) (suc j) zero a h p q = absurd (omega arith)
counts_two i (e ∷ l) (suc j) (suc k) a h p q = omega (arith, counts_two i l j k (omega arith) (omega arith) p q)

-- no slot twice: none is counted twice
pub counts_once : (i : ℕ) (l : List TaskId) → ((j k : ℕ) → j < k → k < length l → slot_at l j ≡ slot_at l k → ⊥) → occ i l ≤ 1
unfolding occ
counts_once i [] f = omega arith
counts_once i (e ∷ l) f =
    let r = counts_once i l (λ j k a h p. f (suc j) (suc k) (suc-le-suc a) (suc-le-suc h) p) in
    elim (ℕ_discrete e.slot i) [
      | yes p ↦
          elim (ℕ_discrete (occ i l) 0) [
            | yes z ↦ rw (eq-eqb e.slot i p) (omega (arith, z))
            | no z ↦ let w = counted i l (omega arith) in absurd (f 0 (suc w.0) (suc-le-suc zero-le) (suc-le-suc w.1) (p ∙ sym w.2))
          ]
      | no p ↦ rw (ne_eqb e.slot i p) (omega arith)
    ]

all_known : (m : Model) (l : List TaskId) → ((k : ℕ) → k < length l → Known m (get_or l k idle)) → AllKnown m l
all_known m [] f = known-nil m
all_known m (x ∷ l) f = known-cons m x l (f 0 (suc-le-suc zero-le)) (all_known m l (λ k h. f (suc k) (suc-le-suc h)))

-- FROM THE COUNT

module _ (m : Model) (v : Live m) where
  pub queue_written : (c : ℕ) → c < CPUS → QueueWritten m c
  queue_written c hc =
      let q = queue_of m c in
      let here : (k : ℕ) → k < length q → Known m (get_or q k idle) = λ k h. entry_known m q k h (v.cpus c hc).entries in
      let count : (k : ℕ) → k < length q → occ (slot_at q k) q ≡ one_if (ready_on m c (slot_at q k)) = λ k h. (v.slots (slot_at q k) (here k h).slot).queued c hc in
      record {
        known = here;
        ready = λ k h. ready-there m c (slot_at q k) (count k h) (counts (slot_at q k) q k h refl);
        once = λ j k a h p. omega (arith, counts_two (slot_at q k) q j k a h p refl, count k h, one_if-most (ready_on m c (slot_at q k)));
        all = λ i hi p e. counted i q (rw ((v.slots i hi).queued c hc, eq-eqb (state_of m i) READY p, eq-eqb (home_of m i) c e) (omega arith));
      }

  idle_written : (c : ℕ) → c < CPUS → started_on m c ≡ true → IdleWritten m c
  idle_written c hc on =
      let o = (v.cpus c hc).on on in
      let s = (idle_of m c).slot in
      let waits : state_of m s ≡ READY → Stands (idle_of m c) (queue_of m c) =
      λ r.
      let k = (queue_written c hc).all s o.idle.slot r o.idle_home in
      (k.0, k.1, known_one m (get_or (queue_of m c) k.0 idle) (idle_of m c) ((queue_written c hc).known k.0 k.1) o.idle k.2)
      in
      let runs : state_of m s ≡ RUNNING → idle_of m c ≡ current_of m c =
      λ r.
      let a = ((v.slots s o.idle.slot).running r).1 in
      known_one m (idle_of m c) (current_of m c) o.idle o.current (sym a ∙ ap (λ d. (current_of m d).slot) o.idle_home)
      in
      record {
        place = ⊎_elim (λ (r : state_of m s ≡ READY). inr (waits r)) (λ (r : state_of m s ≡ RUNNING). inl (runs r)) o.idle_active;
        home = o.idle_home;
        mark = o.idle_mark;
      }

  pub live_written : Written m
  live_written =
      record {
        on = v.on;
        codes = λ i hi. let o = v.slots i hi in record { state = o.state; home = o.home; epoch = o.epoch };
        queues = queue_written;
        running = λ i hi r. let o = v.slots i hi in (home_of m i, o.home, (o.running r).0, (o.running r).1);
        currents = λ c hc on. let o = (v.cpus c hc).on on in record { known = o.current; runs = o.runs; home = o.current_home };
        idles = idle_written;
        off = λ c hc. (v.cpus c hc).off;
        first = v.first;
        apart = idle_apart m v;
        parked = v.parked;
        low = v.low;
        high = v.high;
      }

-- AND BACK

module _ (m : Model) (w : Written m) where
  pub written_count : (c : ℕ) → c < CPUS → (i : ℕ) → i < m.n → occ i (queue_of m c) ≡ one_if (ready_on m c i)
  written_count c hc i hi = go (ready_on m c i) refl
    where
      q : QueueWritten m c
      q = w.queues c hc

      go : (b : Bool) → ready_on m c i ≡ b → occ i (queue_of m c) ≡ one_if (ready_on m c i)
      go true e =
          let a = both_true (eqb (state_of m i) READY) (eqb (home_of m i) c) e in
          let k = q.all i hi (eqb-true (state_of m i) READY a.0) (eqb-true (home_of m i) c a.1) in
          rw e (omega (arith, counts i (queue_of m c) k.0 k.1 k.2, counts_once i (queue_of m c) q.once))
      go false e =
          elim (ℕ_discrete (occ i (queue_of m c)) 0) [
            | yes z ↦ rw e z
            | no z ↦
                let k = counted i (queue_of m c) (omega arith) in
                let r = q.ready k.0 k.1 in
                let s : state_of m i ≡ READY = ap (λ x. state_of m x) (sym k.2) ∙ r.0 in
                let h : home_of m i ≡ c = ap (λ x. home_of m x) (sym k.2) ∙ r.1 in
                absurd (not_both (rw (eq-eqb (state_of m i) READY s, eq-eqb (home_of m i) c h)) e)
          ]

  written_slot : (i : ℕ) → i < m.n → SlotOk m i
  written_slot i hi =
      let o = w.codes i hi in
      record {
        state = o.state;
        home = o.home;
        epoch = o.epoch;
        queued = λ c hc. written_count c hc i hi;
        running = λ r.
            let a = w.running i hi r in
            let home : home_of m i ≡ a.0 = ap (λ x. home_of m x) (sym a.3) ∙ (w.currents a.0 a.1 a.2).home in
            rw home (a.2, a.3);
      }

  written_on : (c : ℕ) → c < CPUS → started_on m c ≡ true → OnOk m c
  written_on c hc on =
      let k = w.currents c hc on in
      let d = w.idles c hc on in
      let q = w.queues c hc in
      record {
        current = k.known;
        runs = k.runs;
        current_home = k.home;
        idle =
            ⊎_elim (λ (e : idle_of m c ≡ current_of m c). subst (λ x. Known m x) (sym e) k.known)
            (λ (e : Stands (idle_of m c) (queue_of m c)). subst (λ x. Known m x) e.2 (q.known e.0 e.1))
            d.place;
        idle_active =
            ⊎_elim (λ (e : idle_of m c ≡ current_of m c). inr (subst (λ x. state_of m x.slot ≡ RUNNING) (sym e) k.runs))
            (λ (e : Stands (idle_of m c) (queue_of m c)). inl (subst (λ x. state_of m x.slot ≡ READY) e.2 (q.ready e.0 e.1).0))
            d.place;
        idle_home = d.home;
        idle_mark = d.mark;
      }

  pub written_live : Live m
  written_live =
      record {
        on = w.on;
        slots = written_slot;
        cpus = λ c hc. record { entries = all_known m (queue_of m c) (w.queues c hc).known; on = written_on c hc; off = w.off c hc };
        first = w.first;
        parked = w.parked;
        low = w.low;
        high = w.high;
      }
