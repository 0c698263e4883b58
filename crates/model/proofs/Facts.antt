-- What a caller can use of a sound table, each fact by its name.
use Rattle.std.specs.Prelude.{Some}
use mathlib.Core.Path.{◌≡◌, refl, sym, ◌∙◌, ap, ap₂}
use mathlib.Core.Logic.{inr, ⊎_elim}
use mathlib.Core.Bool.{Bool, true, false, ◌||◌, not, cond}
use mathlib.Core.List.{List, [], ◌∷◌}
use Prim.Native.Nat.{ℕ, zero, suc, ◌+◌, ◌-◌, ◌<◌}
use native.Mathlib.Omega.{arith}
use lib.ListN.{length, get_or}
use lib.Dec.{eqb, ltb}
use borrow.Author.Tests.{eq-eqb, ne_eqb, eqb-true, eqb-false, ltb-true, lt-ltb, not-true}
use Rattle.lists.specs.Tab.{tab}
use Rattle.lists.specs.Search.{first_at, any_of}
use Rattle.lists.specs.Entries.{taken}
use Rattle.lists.proofs.Basics.{not_both, not_so, both_true, get_or-all}
use Rattle.lists.proofs.TabLaws.{length-tab, get_or-tab}
use Rattle.lists.proofs.SearchLaws.{first_is}
use Rattle.ids.specs.declared.TaskId.{TaskId}
use Rattle.ids.specs.Id.{EPOCHS, same_id, idle}
use Rattle.ids.proofs.IdLaws.{same_self, same_eq}
use Rattle.answers.specs.Contract.{Step, refusing}
use Rattle.model.specs.Model.{Model, Cpu, CPUS, EMPTY, READY, RUNNING, no_cpu, state_of, epoch_of, home_of, queue_of, current_of, idle_of, tenant, known, is_idle, started, started_on, vacant, free_slot, bump, fresh}
use Rattle.model.specs.Sound.{occ, Known, AllKnown, OnOk, ParkedOk, Shape, Live, Sound}
use Rattle.model.specs.Steps.{when_started}
use Rattle.model.proofs.Counting.{occ-nil, occ-cons, ready-there, known-head, known-tail}
use Rattle.model.proofs.Core.{Core, Awake}
use Rattle.model.proofs.SlotMoves.{Quiet, IdleOnly}

-- KNOWN IDS

module _ (m : Model) where
  pub known_is : (id : TaskId) → known m id ≡ true → Known m id
  known_is id e =
      let a = both_true (ltb id.slot m.n) (eqb (epoch_of m id.slot) id.epoch) e in
      record { slot = ltb-true id.slot m.n a.0; epoch = eqb-true (epoch_of m id.slot) id.epoch a.1 }

  pub known_true : (id : TaskId) → Known m id → known m id ≡ true
  known_true id k = rw (lt-ltb id.slot m.n k.slot, eq-eqb (epoch_of m id.slot) id.epoch k.epoch)

  -- a slot has one known id
  pub known-tenant : (id : TaskId) → Known m id → tenant m id.slot ≡ id
  known-tenant id k = ap (λ e. record { slot = id.slot; epoch = e }) k.epoch

  pub known_one : (a b : TaskId) → Known m a → Known m b → a.slot ≡ b.slot → a ≡ b
  known_one a b ka kb p =
      ap₂ (λ s e. record { slot = s; epoch = e }) p (sym ka.epoch ∙ ap (λ i. epoch_of m i) p ∙ kb.epoch)

  pub entry_known : (l : List TaskId) (j : ℕ) → j < length l → AllKnown m l → Known m (get_or l j idle)
  entry_known [] j h ks = absurd (omega arith)
  entry_known (x ∷ l) zero h ks = known-head m x l ks
  entry_known (x ∷ l) (suc j) h ks = entry_known l j (omega arith) (known-tail m x l ks)

-- STARTED OR FRESH

pub fresh-off : (n : ℕ) → started (fresh n) ≡ false
fresh-off n = rw (get_or-all n 0 EMPTY)

module _ (m : Model) where
  pub live-started : Live m → started m ≡ true
  live-started v = rw (ne_eqb (state_of m 0) EMPTY v.on)

  -- a sound table that is started is live
  pub live : Sound m → started m ≡ true → Live m
  live s on = ⊎_elim (λ (e : m ≡ fresh m.n). absurd (not_both on (ap started e ∙ fresh-off m.n))) (λ (v : Live m). v) s.either

  -- and one that is not is as it was made
  pub unstarted : Sound m → started m ≡ false → m ≡ fresh m.n
  unstarted s off = ⊎_elim (λ (e : m ≡ fresh m.n). e) (λ (v : Live m). absurd (not_both (live-started v) off)) s.either

-- OF A LIVE TABLE

module _ (m : Model) (v : Live m) where
  pub on_facts : (c : ℕ) → c < CPUS → started_on m c ≡ true → OnOk m c
  on_facts c h on = (v.cpus c h).on on

  pub current-slot : (c : ℕ) → c < CPUS → started_on m c ≡ true → (current_of m c).slot < m.n
  current-slot c h on = ((v.cpus c h).on on).current.slot

  pub idle-slot : (c : ℕ) → c < CPUS → started_on m c ≡ true → (idle_of m c).slot < m.n
  idle-slot c h on = ((v.cpus c h).on on).idle.slot

  pub queue-known : (c j : ℕ) → c < CPUS → j < length (queue_of m c) → Known m (get_or (queue_of m c) j idle)
  queue-known c j h l = entry_known m (queue_of m c) j l (v.cpus c h).entries

  pub head-known : (c : ℕ) (x : TaskId) (l : List TaskId) → c < CPUS → queue_of m c ≡ x ∷ l → Known m x
  head-known c x l h e = known-head m x l (rw e at (v.cpus c h).entries)

  pub head-ready : (c : ℕ) (x : TaskId) (l : List TaskId) → c < CPUS → queue_of m c ≡ x ∷ l → (state_of m x.slot ≡ READY) × (home_of m x.slot ≡ c)
  head-ready c x l h e =
      let one : occ x.slot (queue_of m c) ≡ 1 + occ x.slot l = ap (λ q. occ x.slot q) e ∙ occ-cons x.slot x l ∙ rw (eq-eqb x.slot x.slot refl) in
      ready-there m c x.slot ((v.slots x.slot (head-known c x l h e).slot).queued c h) (omega arith)

  -- the head is not the task that runs
  pub head-other : (c : ℕ) (x : TaskId) (l : List TaskId) → c < CPUS → started_on m c ≡ true → queue_of m c ≡ x ∷ l → same_id x (current_of m c) ≡ false
  head-other c x l h on e =
      not_so (same_id x (current_of m c))
      (λ p. omega (arith, (head-ready c x l h e).0, ((v.cpus c h).on on).runs, ap (λ (y : TaskId). state_of m y.slot) (same_eq x (current_of m c) p)))

  pub home-cpu : (i : ℕ) → i < m.n → home_of m i < CPUS
  home-cpu i h = (v.slots i h).home

  -- where another task than the idle runs, the idle is queued
  pub busy-queue : (c : ℕ) → c < CPUS → started_on m c ≡ true → same_id (current_of m c) (idle_of m c) ≡ false → queue_of m c ≡ [] → ⊥
  busy-queue c h on busy empty = ⊎_elim waits runs o.idle_active
    where
      o : OnOk m c
      o = (v.cpus c h).on on

      runs : state_of m (idle_of m c).slot ≡ RUNNING → ⊥
      runs r =
          let a = ((v.slots (idle_of m c).slot o.idle.slot).running r).1 in
          let same = known_one m (current_of m c) (idle_of m c) o.current o.idle (ap (λ d. (current_of m d).slot) (sym o.idle_home) ∙ a) in
          not_both (ap (λ x. same_id x (idle_of m c)) same ∙ same_self (idle_of m c)) busy

      waits : state_of m (idle_of m c).slot ≡ READY → ⊥
      waits r =
          let i = (idle_of m c).slot in
          let one : occ i (queue_of m c) ≡ 1 = (v.slots i o.idle.slot).queued c h ∙ rw (eq-eqb (state_of m i) READY r, eq-eqb (home_of m i) c o.idle_home) in
          omega (arith, one, ap (λ l. occ i l) empty, occ-nil i)

  -- idles of two started CPUs have two slots
  pub idle_apart : (c d : ℕ) → c < CPUS → d < CPUS → started_on m c ≡ true → started_on m d ≡ true → (idle_of m c).slot ≡ (idle_of m d).slot → c ≡ d
  idle_apart c d hc hd onc ond p = sym ((v.cpus c hc).on onc).idle_home ∙ ap (λ i. home_of m i) p ∙ ((v.cpus d hd).on ond).idle_home

-- EPOCHS

-- the last is followed by 0, and no epoch by itself
pub bump_last : bump (EPOCHS - 1) ≡ 0
bump_last = refl

pub bump-fits : (e : ℕ) → bump e < EPOCHS
bump-fits e = omega arith

pub bump_moves : (e : ℕ) → e < EPOCHS → bump e ≡ e → ⊥
bump_moves e h p = omega arith

-- so an id that is parked is not known any more
pub parked_unknown : (m : Model) (x : TaskId) → ParkedOk m x → known m x ≡ false
parked_unknown m x o =
    not_so (known m x) (λ e. bump_moves x.epoch o.fits (o.epoch ∙ (known_is m x e).epoch))

-- IDLES

or_false : (a b : Bool) → (a || b) ≡ false → (a ≡ false) × (b ≡ false)
or_false true b e = absurd (not_both refl e)
or_false false b e = (refl, e)

-- where a test holds of none, it does not hold of one
pub any_not : {A : Type 0} (p : A → Bool) (l : List A) (i : ℕ) (d : A) → i < length l → any_of p l ≡ false → p (get_or l i d) ≡ false
unfolding any_of
any_not p [] i d h e = absurd (omega arith)
any_not p (x ∷ l) zero d h e = (or_false (p x) (any_of p l) e).0
any_not p (x ∷ l) (suc i) d h e = any_not p l i d (omega arith) (or_false (p x) (any_of p l) e).1

module _ (m : Model) (h : ℕ) (k : Core m h) where
  -- a known id that is no idle's has a slot that is no idle's
  pub no_idle : (id : TaskId) → Known m id → is_idle m id ≡ false → IdleOnly m id.slot CPUS
  no_idle id ki e d hd l p =
      let r = (k.cpus d hd).rests l in
      let differ = any_not (λ (x : Cpu). same_id id x.idle) m.cpus d no_cpu (omega (arith, k.shape.cpus)) e in
      absurd (not_both (ap (λ x. same_id id x) (known_one m (idle_of m d) id r.idle ki p) ∙ same_self id) differ)

  -- nor is a slot that is neither Ready nor Running
  pub quiet_idle : Awake m → (s : ℕ) → Quiet m s → IdleOnly m s CPUS
  quiet_idle a s quiet d hd l p =
      ⊎_elim (λ (r : state_of m (idle_of m d).slot ≡ READY). absurd (quiet.0 (ap (λ i. state_of m i) (sym p) ∙ r)))
      (λ (r : state_of m (idle_of m d).slot ≡ RUNNING). absurd (quiet.1 (ap (λ i. state_of m i) (sym p) ∙ r)))
      (a.idles d hd l)

-- A FREE SLOT

pub record Vacant (m : Model) (s : ℕ) : Type 0 where
  pub empty : state_of m s ≡ EMPTY
  pub other : (x : TaskId) → m.parked ≡ Some x → x.slot ≡ s → ⊥

pub vacant_is : (m : Model) (s : ℕ) → vacant m s ≡ true → Vacant m s
vacant_is m s e =
    let a = both_true (eqb (state_of m s) EMPTY) (not (taken (λ (p : TaskId). eqb p.slot s) m.parked)) e in
    record {
      empty = eqb-true (state_of m s) EMPTY a.0;
      other = λ x p. eqb-false x.slot s (sym (ap (λ o. taken (λ (p : TaskId). eqb p.slot s) o) p) ∙ not-true (taken (λ (p : TaskId). eqb p.slot s) m.parked) a.1);
    }

-- the slot that the next task gets
pub free-vacant : (m : Model) → free_slot m < m.n → Vacant m (free_slot m)
unfolding free_slot
free-vacant m h =
    let s = first_at (vacant m) (tab m.n (λ i. i)) in
    let at : get_or (tab m.n (λ i. i)) s 0 ≡ s = get_or-tab m.n (λ i. i) s 0 h in
    let found = first_is (vacant m) (tab m.n (λ i. i)) 0 (rw (length-tab m.n (λ (i : ℕ). i)) h) in
    vacant_is m s (ap (vacant m) (sym at) ∙ found)

-- STEPS

-- what is chosen by a test is as each of the two is
pub by_test : {A : Type 0} (P : A → Type 0) (b : Bool) (x y : A) → (b ≡ true → P x) → (b ≡ false → P y) → P (cond b x y)
by_test P true x y f g = f refl
by_test P false x y f g = g refl

pub step_if : (b : Bool) (x y : Step Model) → (b ≡ true → Sound x.after) → (b ≡ false → Sound y.after) → Sound (cond b x y).after
step_if b x y f g = by_test (λ (z : Step Model). Sound z.after) b x y f g

pub step-started : (m : Model) (x : Step Model) → Sound m → (Live m → Sound x.after) → Sound (when_started m x).after
step-started m x s f = step_if (started m) x (refusing 3 m) (λ on. f (live m s on)) (λ _. s)

pub sound-live : (m : Model) → Shape m × Live m → Sound m
sound-live m a = record { shape = a.0; either = inr a.1 }
