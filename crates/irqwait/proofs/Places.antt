-- Laws of places, each free or taken: what a test or a statement says of one, and when an entry may be put.
use Rattle.std.specs.Prelude.{Option, Some, None}
use mathlib.Core.Path.{◌≡◌, refl, ◌∙◌}
use mathlib.Core.Bool.{Bool, true, false, cond}
use mathlib.Core.Logic.{◌⊎◌, inl, inr, ⊎_elim}
use mathlib.Core.List.{List, map}
use Prim.Native.Nat.{ℕ, ◌+◌, ◌<◌, ◌≤◌}
use native.Mathlib.Decide.{ℕ_discrete}
use native.Mathlib.Numerals.{one-add}
use native.Mathlib.Omega.{arith}
use lib.ListN.{length, get_or, set, replicate, length-set, get_or-eq_default}
use lib.Seq.{get_or-set_same, get_or-set_other}
use borrow.Author.Tests.{ltb-true, ltb-false}
use lib.Dec.{ltb}
use Rattle.std.specs.List.{position, position_or_len}
use Rattle.std.proofs.lemmas.List.Recursion.{is_position_or_len}
use Rattle.lists.specs.Search.{first_at}
use Rattle.lists.specs.Entries.{taken, alike, Distinct, Holds, freed}
use Rattle.lists.proofs.Basics.{lt_or_ge, not_both, set_holds, get_or-all}
use Rattle.lists.proofs.EntriesLaws.{distinct_put, get_or-freed}

-- ONE PLACE

module _ {A : Type 0} (p : A → Bool) (e : Option A) where
  pub taken-off : e ≡ None → false ≡ taken p e
  taken-off h = rw h

  pub taken-on : {x : A} → e ≡ Some x → p x ≡ taken p e
  taken-on h = rw h

module _ {A : Type 0} (Q : A → Type 0) (e : Option A) where
  pub holds-off : e ≡ None → Holds Q e
  holds-off h = rw h tt

  pub holds_on : {x : A} → e ≡ Some x → Q x → Holds Q e
  holds_on h q = rw h q

  pub holds_of : {x : A} → e ≡ Some x → Holds Q e → Q x
  holds_of h q = rw h at q

pub holds_if : {A : Type 0} (Q : A → Type 0) (b : Bool) (x : A) → (b ≡ true → Q x) → Holds Q (cond b (Some x) None)
holds_if Q true x h = h refl
holds_if Q false x h = tt

-- A SEARCH FROM THE FRONT, of what a list in memory is on paper

lowest_some : (n k i : ℕ) → cond (ltb n k) (Some n) None ≡ Some i → (i ≡ n) × (i < k)
lowest_some n k i e = go (ltb n k) refl e
  where
    go : (b : Bool) → ltb n k ≡ b → cond b (Some n) None ≡ Some i → (i ≡ n) × (i < k)
    go true t f = let same : i ≡ n = cc in (same, rw same (ltb-true n k t))
    go false t f = let z : ◌≡◌ {A = ℕ} 0 1 = cc in absurd (omega arith)

lowest_none : (n k : ℕ) → cond (ltb n k) (Some n) None ≡ None → k ≤ n
lowest_none n k e = go (ltb n k) refl e
  where
    go : (b : Bool) → ltb n k ≡ b → cond b (Some n) None ≡ None → k ≤ n
    go true t f = let z : ◌≡◌ {A = ℕ} 0 1 = cc in absurd (omega arith)
    go false t f = ltb-false n k t

module _ {A B : Type 0} (f : A → B) (p : B → Bool) (q : A → Bool) (same : (a : A) → p (f a) ≡ q a) where
  first_from : (l : List A) → first_at p (map f l) ≡ position_or_len q l
  unfolding first_at
  first_from l = is_position_or_len (λ (k : List A). first_at p (map f k)) q refl (λ a k. rw (same a, one-add)) l

  module _ (l : List A) where
    pub searched_none : position q l ≡ None → length l ≤ first_at p (map f l)
    searched_none e = rw (first_from l) (lowest_none (position_or_len q l) (length l) e)

    pub searched_some : (i : ℕ) → position q l ≡ Some i → (i ≡ first_at p (map f l)) × (i < length l)
    searched_some i e = rw (first_from l) (lowest_some (position_or_len q l) (length l) i e)

-- EVERY PLACE

module _ {A : Type 0} (P : ℕ → A → Type 0) (es : List (Option A)) where
  -- at the first n places
  unfoldable pub Held : ℕ → Type 0
  Held n = (i : ℕ) → i < n → Holds (P i) (get_or es i None)

  pub held_none : Held 0
  unfolding Held
  held_none i h = absurd (omega arith)

  pub held_more : (n : ℕ) → Held n → Holds (P n) (get_or es n None) → Held (n + 1)
  unfolding Held
  held_more n h new i l =
      ⊎_elim (λ (b : i < n). h i b)
      (λ (g : n ≤ i).
      let same : i ≡ n = omega arith in
      rw same new)
      (lt_or_ge i n)

  -- there is nothing past the end
  pub held_all : (n : ℕ) → Held n → length es ≤ n → (i : ℕ) → Holds (P i) (get_or es i None)
  unfolding Held
  held_all n h all i =
      ⊎_elim (λ (l : i < n). h i l) (λ (g : n ≤ i). rw (get_or-eq_default es None {n = i} (omega arith)) tt) (lt_or_ge i n)

  -- where each place is free or as it was
  pub holds_thin : (fs : List (Option A)) → ((i : ℕ) → (get_or fs i None ≡ None) ⊎ (get_or fs i None ≡ get_or es i None)) → ((i : ℕ) → Holds (P i) (get_or es i None)) → (i : ℕ) → Holds (P i) (get_or fs i None)
  holds_thin fs each h i = go (each i)
    where
      go : ((get_or fs i None ≡ None) ⊎ (get_or fs i None ≡ get_or es i None)) → Holds (P i) (get_or fs i None)
      go (inl e) = rw e tt
      go (inr e) = rw e (h i)

  -- where one place is taken by an entry that it holds of
  pub holds-put : (k : ℕ) (x : A) → P k x → ((i : ℕ) → Holds (P i) (get_or es i None)) → (i : ℕ) → Holds (P i) (get_or (set es k (Some x)) i None)
  holds-put k x new h i = go (ℕ_discrete i k) (lt_or_ge k (length es))
    where
      go : Dec (i ≡ k) → ((k < length es) ⊎ (length es ≤ k)) → Holds (P i) (get_or (set es k (Some x)) i None)
      go (yes same) (inl l) = rw (same, get_or-set_same es k (Some x) None l) new
      go (yes same) (inr g) = rw (same, get_or-eq_default (set es k (Some x)) None {n = k} (rw (length-set es k (Some x)) g)) tt
      go (no other) _ = rw (get_or-set_other es k i (Some x) None other) (h i)

pub holds-fresh : {A : Type 0} (P : ℕ → A → Type 0) (n i : ℕ) → Holds (P i) (get_or (replicate n None) i None)
holds-fresh {A} P n i = rw (get_or-all {A = Option A} n i None) tt

-- a place that is freed
module _ {A : Type 0} (es : List (Option A)) where
  pub thin_set : (k i : ℕ) → (get_or (set es k None) i None ≡ None) ⊎ (get_or (set es k None) i None ≡ get_or es i None)
  thin_set k i = set_holds None (λ (e : Option A). (e ≡ None) ⊎ (e ≡ get_or es i None)) es k i None (inl refl) (inr refl)

  pub thin_freed : (p : A → Bool) (i : ℕ) → (get_or (freed p es) i None ≡ None) ⊎ (get_or (freed p es) i None ≡ get_or es i None)
  thin_freed p i = go (taken p (get_or es i None)) refl
    where
      go : (b : Bool) → taken p (get_or es i None) ≡ b → (get_or (freed p es) i None ≡ None) ⊎ (get_or (freed p es) i None ≡ get_or es i None)
      go true h = inl (get_or-freed p es i ∙ rw h)
      go false h = inr (get_or-freed p es i ∙ rw h)

-- ENTRIES THAT ARE ALIKE

module _ {A : Type 0} (t : A → A → Bool) where
  pub alike-on : (d e : Option A) {x : A} → d ≡ Some x → alike t d e ≡ taken (t x) e
  alike-on d None h = rw h
  alike-on d (Some y) h = rw h

  -- an entry that no place has the like of may be put at any
  pub distinct_add : ((a b : A) → t a b ≡ t b a) → (es : List (Option A)) (k : ℕ) (x : A) → Distinct t es → ((i : ℕ) → i < length es → taken (t x) (get_or es i None) ≡ false) → Distinct t (set es k (Some x))
  distinct_add turn es k x d new = distinct_put t es k x d (λ i l _. unlike (get_or es i None) (new i l))
    where
      unlike : (e : Option A) → taken (t x) e ≡ false → (alike t e (Some x) ≡ true → ⊥) × (alike t (Some x) e ≡ true → ⊥)
      unlike None h = (λ p. not_both p refl, λ p. not_both p refl)
      unlike (Some y) h = (λ p. not_both (turn x y ∙ p) h, λ p. not_both p h)
