-- Counting: how often a slot stands in a queue, which queues have room, and how many slots a test holds of.
use mathlib.Core.Path.{◌≡◌, refl, sym, ◌∙◌, ap}
use mathlib.Core.Bool.{Bool, true, false, ◌&&◌, not, cond}
use mathlib.Core.List.{List, [], ◌∷◌, ◌++◌}
use Prim.Native.Nat.{ℕ, zero, suc, ◌+◌, ◌≤◌, ◌<◌}
use native.Mathlib.Omega.{arith}
use native.Mathlib.Decide.{ℕ_discrete}
use lib.ListN.{length, get_or, set, replicate, get_or-map}
use lib.Seq.{map-set_same}
use lib.Dec.{eqb}
use borrow.Author.Tests.{eq-eqb, ne_eqb, eqb-true}
use Rattle.lists.specs.Search.{count_of, one_if}
use Rattle.lists.proofs.Basics.{both_true}
use Rattle.ids.specs.declared.TaskId.{TaskId}
use Rattle.model.specs.Model.{Model, CPUS, EMPTY, READY, state_of, epoch_of, home_of, queue_of, current_of, started_on, occupied, with_state, fresh}
use Rattle.model.specs.Sound.{occ, Known, AllKnown, ready_on, Shape, Live}

-- what is the same of the new value at a place as of the old is the same everywhere
pub get_or-set-kept : {A B : Type 0} (f : A → B) (l : List A) (i : ℕ) (y d : A) → f y ≡ f (get_or l i d) → (j : ℕ) → f (get_or (set l i y) j d) ≡ f (get_or l j d)
get_or-set-kept f l i y d e j =
    sym (get_or-map f (set l i y) j d) ∙ ap (λ r. get_or r j (f d)) (map-set_same f l i y d e) ∙ get_or-map f l j d

pub one_if-most : (b : Bool) → one_if b ≤ 1
one_if-most true = omega arith
one_if-most false = omega arith

-- HOW OFTEN A SLOT STANDS IN A QUEUE

pub occ-nil : (i : ℕ) → occ i [] ≡ 0
unfolding occ
occ-nil i = refl

pub occ-cons : (i : ℕ) (e : TaskId) (l : List TaskId) → occ i (e ∷ l) ≡ one_if (eqb e.slot i) + occ i l
unfolding occ
occ-cons i e l = refl

pub occ-append : (i : ℕ) (a b : List TaskId) → occ i (a ++ b) ≡ occ i a + occ i b
unfolding occ
occ-append i [] b = omega arith
occ-append i (x ∷ a) b = omega (arith, occ-append i a b)

pub occ-snoc : (i : ℕ) (l : List TaskId) (e : TaskId) → occ i (l ++ (e ∷ [])) ≡ one_if (eqb e.slot i) + occ i l
occ-snoc i l e = omega (arith, occ-append i l (e ∷ []), occ-cons i e [], occ-nil i)

-- ENTRIES

module _ (m : Model) where
  pub known-nil : AllKnown m []
  unfolding AllKnown
  known-nil = tt

  pub known-cons : (e : TaskId) (l : List TaskId) → Known m e → AllKnown m l → AllKnown m (e ∷ l)
  unfolding AllKnown
  known-cons e l k ks = (k, ks)

  pub known-head : (e : TaskId) (l : List TaskId) → AllKnown m (e ∷ l) → Known m e
  unfolding AllKnown
  known-head e l ks = ks.0

  pub known-tail : (e : TaskId) (l : List TaskId) → AllKnown m (e ∷ l) → AllKnown m l
  unfolding AllKnown
  known-tail e l ks = ks.1

  pub known-append : (a b : List TaskId) → AllKnown m a → AllKnown m b → AllKnown m (a ++ b)
  unfolding AllKnown
  known-append [] b ks ls = ls
  known-append (x ∷ a) b ks ls = (ks.0, known-append a b ks.1 ls)

  pub known-left : (a b : List TaskId) → AllKnown m (a ++ b) → AllKnown m a
  unfolding AllKnown
  known-left [] b ks = tt
  known-left (x ∷ a) b ks = (ks.0, known-left a b ks.1)

  pub known_right : (a b : List TaskId) → AllKnown m (a ++ b) → AllKnown m b
  unfolding AllKnown
  known_right [] b ks = ks
  known_right (x ∷ a) b ks = known_right a b ks.1

  pub known-snoc : (l : List TaskId) (e : TaskId) → AllKnown m l → Known m e → AllKnown m (l ++ (e ∷ []))
  known-snoc l e ks k = known-append l (e ∷ []) ks (known-cons e [] k known-nil)

  -- an id stays known while its slot's epoch does not change
  pub known_as : (w : Model) (x : TaskId) → w.n ≡ m.n → epoch_of w x.slot ≡ epoch_of m x.slot → Known m x → Known w x
  known_as w x n e k = record { slot = rw n k.slot; epoch = e ∙ k.epoch }

  -- and so do entries
  pub known_kept : (w : Model) (l : List TaskId) → w.n ≡ m.n → ((i : ℕ) → 0 < occ i l → epoch_of w i ≡ epoch_of m i) → AllKnown m l → AllKnown w l
  unfolding AllKnown occ
  known_kept w [] n f ks = tt
  known_kept w (e ∷ l) n f ks =
      (known_as w e n (f e.slot (rw (eq-eqb e.slot e.slot refl) (omega arith))) ks.0, known_kept w l n (λ i h. f i (omega arith)) ks.1)

-- ROOM

-- the sum of the counts of the slots below k, of a queue and of one entry
total : ℕ → List TaskId → ℕ
total zero l = 0
total (suc k) l = occ k l + total k l

hits : ℕ → ℕ → ℕ
hits zero s = 0
hits (suc k) s = one_if (eqb s k) + hits k s

hits_past : (k s : ℕ) → k ≤ s → hits k s ≡ 0
unfolding hits
hits_past zero s h = refl
hits_past (suc k) s h = rw (ne_eqb s k (λ e. omega arith)) (omega (arith, hits_past k s (omega arith)))

hits_one : (k s : ℕ) → s < k → hits k s ≡ 1
unfolding hits
hits_one zero s h = omega arith
hits_one (suc k) s h =
    elim (ℕ_discrete s k) [
      | yes e ↦ rw (eq-eqb s k e) (omega (arith, hits_past k s (omega arith)))
      | no e ↦ rw (ne_eqb s k e) (omega (arith, hits_one k s (omega arith)))
    ]

total_nil : (k : ℕ) → total k [] ≡ 0
unfolding total occ
total_nil zero = refl
total_nil (suc k) = omega (arith, total_nil k)

total_cons : (k : ℕ) (e : TaskId) (l : List TaskId) → total k (e ∷ l) ≡ hits k e.slot + total k l
unfolding total occ hits
total_cons zero e l = refl
total_cons (suc k) e l = omega (arith, total_cons k e l)

-- of known entries each is counted once
total_length : (m : Model) (l : List TaskId) → AllKnown m l → total m.n l ≡ length l
unfolding AllKnown
total_length m [] ks = total_nil m.n
total_length m (e ∷ l) ks = omega (arith, total_cons m.n e l, hits_one m.n e.slot ks.0.slot, total_length m l ks.1)

total_most : (k : ℕ) (l : List TaskId) → ((i : ℕ) → i < k → occ i l ≤ 1) → total k l ≤ k
unfolding total
total_most zero l h = omega arith
total_most (suc k) l h = omega (arith, h k (omega arith), total_most k l (λ i p. h i (omega arith)))

total_less : (k : ℕ) (l : List TaskId) (j : ℕ) → ((i : ℕ) → i < k → occ i l ≤ 1) → j < k → occ j l ≡ 0 → total k l < k
unfolding total
total_less zero l j h p z = omega arith
total_less (suc k) l j h p z =
    elim (ℕ_discrete j k) [
      | yes e ↦ let here : occ k l ≡ 0 = rw e at z in omega (arith, total_most k l (λ i q. h i (omega arith)))
      | no e ↦ omega (arith, h k (omega arith), total_less k l j (λ i q. h i (omega arith)) (omega arith) z)
    ]

-- of a state and a home: Ready on one CPU alone
pub ready_here : (v g c : ℕ) → (v ≡ READY → g ≡ c) → one_if (eqb v READY && eqb g c) ≡ one_if (eqb v READY)
ready_here v g c f =
    elim (ℕ_discrete v READY) [ yes p ↦ rw (eq-eqb v READY p, eq-eqb g c (f p)) | no p ↦ rw (ne_eqb v READY p) ]

pub ready_else : (v g d : ℕ) → (v ≡ READY → g ≡ d → ⊥) → one_if (eqb v READY && eqb g d) ≡ 0
ready_else v g d f =
    elim (ℕ_discrete v READY) [ yes p ↦ rw (eq-eqb v READY p, ne_eqb g d (f p)) | no p ↦ rw (ne_eqb v READY p) ]

-- a slot that is not Ready on a CPU is not in its queue
pub absent : (m : Model) (c i : ℕ) → occ i (queue_of m c) ≡ one_if (ready_on m c i) → (state_of m i ≡ READY → home_of m i ≡ c → ⊥) → occ i (queue_of m c) ≡ 0
absent m c i e f = e ∙ ready_else (state_of m i) (home_of m i) c f

-- and one that is counted there is Ready and homed there
pub ready-there : (m : Model) (c i : ℕ) → occ i (queue_of m c) ≡ one_if (ready_on m c i) → 0 < occ i (queue_of m c) → (state_of m i ≡ READY) × (home_of m i ≡ c)
ready-there m c i e h = go (ready_on m c i) refl
  where
    go : (b : Bool) → ready_on m c i ≡ b → (state_of m i ≡ READY) × (home_of m i ≡ c)
    go true p =
        let a = both_true (eqb (state_of m i) READY) (eqb (home_of m i) c) p in
        (eqb-true (state_of m i) READY a.0, eqb-true (home_of m i) c a.1)
    go false p = let z : one_if (ready_on m c i) ≡ 0 = rw p in absurd (omega arith)

-- the task that runs on CPU 0 is in no queue, so each queue has room for one more
pub room : (m : Model) → Shape m → Live m → (c : ℕ) → c < CPUS → length (queue_of m c) < m.n
room m s v c h =
    let on : started_on m 0 ≡ true = rw (ne_eqb (state_of m 0) EMPTY v.on) in
    let k = (v.cpus 0 (omega arith)).on on in
    let i = (current_of m 0).slot in
    let here = absent m c i ((v.slots i k.current.slot).queued c h) (λ p _. omega (arith, k.runs, p)) in
    omega (
      arith,
      total_length m (queue_of m c) (v.cpus c h).entries,
      total_less m.n (queue_of m c) i (λ j l. rw ((v.slots j l).queued c h) (one_if-most (ready_on m c j))) k.current.slot here,
    )

-- HOW MANY SLOTS A TEST HOLDS OF

module _ {A : Type 0} (p : A → Bool) where
  pub count-cons : (x : A) (l : List A) → count_of p (x ∷ l) ≡ one_if (p x) + count_of p l
  unfolding count_of
  count-cons x l = go (p x)
    where
      go : (b : Bool) → cond b (suc (count_of p l)) (count_of p l) ≡ one_if b + count_of p l
      go true = omega arith
      go false = omega arith

  -- one place changed: what it counted is taken, and what it counts now is added
  pub count_set : (l : List A) (i : ℕ) (v d : A) → i < length l → count_of p (set l i v) + one_if (p (get_or l i d)) ≡ count_of p l + one_if (p v)
  count_set [] i v d h = absurd (omega arith)
  count_set (x ∷ l) zero v d h = rw (count-cons x l, count-cons v l) (omega arith)
  count_set (x ∷ l) (suc i) v d h = rw (count-cons x l, count-cons x (set l i v)) (omega (arith, count_set l i v d (omega arith)))

  pub count_none : (n : ℕ) (a : A) → p a ≡ false → count_of p (replicate n a) ≡ 0
  unfolding count_of
  count_none zero a h = refl
  count_none (suc n) a h = rw h (count_none n a h)

-- by how many the occupied slots change with one state
pub occupied-set : (m : Model) → Shape m → (i v : ℕ) → i < m.n
    → occupied (with_state m i v) + one_if (not (eqb (state_of m i) EMPTY)) ≡ occupied m + one_if (not (eqb v EMPTY))
occupied-set m s i v h = count_set (λ v. not (eqb v EMPTY)) m.states i v EMPTY (omega (arith, s.states))

pub occupied-fresh : (n : ℕ) → occupied (fresh n) ≡ 0
occupied-fresh n = count_none (λ v. not (eqb v EMPTY)) n EMPTY refl
