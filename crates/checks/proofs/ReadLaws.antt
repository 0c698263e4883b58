-- From the arrays that the test is lent to the model and back: ids, queues, whether a CPU is started, the parked id.
use Rattle.std.specs.Prelude.{Some, None}
use Rattle.std.proofs.Common.{◌≡◌, ℕ, zero, suc, ◌<◌, ◌≤◌, Bool, true, false, cond, not, eqb, List, length, get_or, take, sym, refl, ap, ◌∙◌, suc-le-suc, zero-le, arith, length-take-le, get_or-take, ext_get_or, eq-eqb, ne_eqb, eqb-true}
use native.Mathlib.Decide.{ℕ_discrete}
use borrow.Author.Tests.{not-false}
use Rattle.lists.specs.Tab.{tab}
use Rattle.lists.specs.Search.{count_of, one_if}
use Rattle.lists.specs.Entries.{Holds}
use Rattle.lists.proofs.Basics.{not_both, both_true}
use Rattle.lists.proofs.TabLaws.{length-tab, get_or-tab}
use Rattle.lists.specs.Flags.{FLAGS, is_set}
use Rattle.lists.proofs.FlagLaws.{set-off, set_on}
use Rattle.ids.specs.declared.TaskId.{TaskId}
use Rattle.ids.specs.Id.{EPOCHS, same_id, idle}
use Rattle.ids.proofs.IdLaws.{same_eq}
use Rattle.runqueue.specs.Ring.{around}
use Rattle.model.specs.Model.{Model, CPUS, EMPTY, READY, state_of, home_of, queue_of, started_on, occupied}
use Rattle.model.specs.Sound.{Known, AllKnown, ready_on, ParkedOk}
use Rattle.memory.specs.declared.Tasks.{Tasks}
use Rattle.memory.specs.View.{view}
use Rattle.memory.proofs.ViewLaws.{view_n, view-state, view-epoch, view-home, view-idle}
use Rattle.memory.proofs.RingStores.{view-queue}
use Rattle.checks.specs.Parts.{Homed, entries, is_on, occupied_in, ParkFits}

-- TESTS OF THE MODEL

-- a CPU that is not started has no idle
pub off-idle : (c : ℕ) (own : TaskId) → is_on c own ≡ false → own ≡ idle
off-idle c own e =
    elim (ℕ_discrete c 0) [
      | yes z ↦ absurd (not_both (rw (eq-eqb c 0 z)) e)
      | no z ↦ same_eq own idle (not-false (same_id own idle) (rw (ne_eqb c 0 z) at e))
    ]

pub ready_is : (m : Model) (c i : ℕ) → 0 < one_if (ready_on m c i) → (state_of m i ≡ READY) × (home_of m i ≡ c)
ready_is m c i h = go (ready_on m c i) refl h
  where
    go : (b : Bool) → ready_on m c i ≡ b → 0 < one_if b → (state_of m i ≡ READY) × (home_of m i ≡ c)
    go true e g = let a = both_true (eqb (state_of m i) READY) (eqb (home_of m i) c) e in (eqb-true (state_of m i) READY a.0, eqb-true (home_of m i) c a.1)
    go false e g = absurd (omega arith)

-- QUEUES AS LISTS

module _ (m : Model) where
  pub known-all : (k : ℕ) (q : ℕ → TaskId) → ((j : ℕ) → j < k → Known m (q j)) → AllKnown m (tab k q)
  unfolding AllKnown tab
  known-all zero q f = tt
  known-all (suc k) q f = (f zero (suc-le-suc zero-le), known-all k (λ j. q (suc j)) (λ j h. f (suc j) (suc-le-suc h)))

  pub known-each : (k : ℕ) (q : ℕ → TaskId) → AllKnown m (tab k q) → (j : ℕ) → j < k → Known m (q j)
  unfolding AllKnown tab
  known-each zero q a j h = absurd (omega arith)
  known-each (suc k) q a zero h = a.0
  known-each (suc k) q a (suc j) h = known-each k (λ j. q (suc j)) a.1 j (omega arith)

take-tab : {A : Type 0} (n : ℕ) (l : List A) (d : A) → n ≤ length l → take n l ≡ tab n (λ i. get_or l i d)
take-tab {A} n l d h =
    let k = length-take-le n l h in
    let f : ℕ → A = λ i. get_or l i d in
    ext_get_or d (take n l) (tab n f) (k ∙ sym (length-tab n f))
    (λ i p. let q : i < n = rw k at p in get_or-take n l i d q ∙ sym (get_or-tab n f i d q))

-- READING

module _ (t : Tasks) where
  pub queue-tab : (c : ℕ) → c < CPUS → queue_of (view t) c ≡ tab (get_or t.small.lens c 0) (entries t.ring_slots t.ring_epochs t.small.n t.small.heads c)
  unfolding around
  queue-tab c h = view-queue t c h

  pub homed-known : (c : ℕ) (id : TaskId) → Homed t.epochs t.homes t.small.n c id → Known (view t) id
  homed-known c id h = record { slot = rw (view_n t) h.slot; epoch = view-epoch t id.slot h.slot ∙ h.epoch }

  pub homed-home : (c : ℕ) (id : TaskId) → Homed t.epochs t.homes t.small.n c id → home_of (view t) id.slot ≡ c
  homed-home c id h = view-home t id.slot h.slot ∙ h.home

  pub known-homed : (c : ℕ) (id : TaskId) → Known (view t) id → home_of (view t) id.slot ≡ c → Homed t.epochs t.homes t.small.n c id
  known-homed c id k h =
      let s : id.slot < t.small.n = rw (view_n t) at k.slot in
      record { slot = s; epoch = sym (view-epoch t id.slot s) ∙ k.epoch; home = sym (view-home t id.slot s) ∙ h }

  -- the occupied slots, counted one by one
  pub occupied_is : t.small.n ≤ length t.states → occupied (view t) ≡ occupied_in t.states t.small.n
  unfolding view
  occupied_is h = ap (count_of (λ s. not (eqb s EMPTY))) (take-tab t.small.n t.states 0 h)

  -- in a started table a CPU is started as its idle says
  pub started_is : 1 ≤ t.small.n → (get_or t.states 0 0 ≡ EMPTY → ⊥) → (c : ℕ) → c < CPUS → started_on (view t) c ≡ is_on c (get_or t.small.idles c idle)
  started_is least on c h =
      rw (ne_eqb (state_of (view t) 0) EMPTY (λ e. on (sym (view-state t 0 least) ∙ e)), view-idle t c h)

-- THE PARKED ID

module _ (t : Tasks) (id : TaskId) where
  pub parked_ok : (b : ℕ) → id.epoch < EPOCHS → ParkFits t.states t.epochs t.small.n b id → Holds (ParkedOk (view t)) (cond (is_set b) (Some id) None)
  parked_ok b last f =
      elim (ℕ_discrete b 0) [
        | yes e ↦ rw (set-off b e) tt
        | no e ↦
            let p = f.fits e in
            rw (set_on b e)
            (record { slot = rw (view_n t) p.slot; other = p.other; state = view-state t id.slot p.slot ∙ p.state; fits = last; epoch = p.epoch ∙ sym (view-epoch t id.slot p.slot) })
      ]

  pub parked-fits : (b : ℕ) → b < FLAGS → Holds (ParkedOk (view t)) (cond (is_set b) (Some id) None) → ParkFits t.states t.epochs t.small.n b id
  parked-fits b l o =
      record {
        flag = l;
        fits = λ e.
            let p = rw (set_on b e) at o in
            let h : id.slot < t.small.n = rw (view_n t) at p.slot in
            record { slot = h; other = p.other; state = sym (view-state t id.slot h) ∙ p.state; epoch = p.epoch ∙ view-epoch t id.slot h };
      }
