-- Small laws: cases on numbers and tests, what a test tells, lists under `map` and `set`.
use mathlib.Core.Path.{◌≡◌, refl, ap}
use mathlib.Core.Bool.{Bool, true, false, ◌&&◌}
use mathlib.Core.Logic.{◌⊎◌, inl, inr, ⊎_elim}
use mathlib.Core.List.{List, [], ◌∷◌, map}
use Prim.Native.Nat.{ℕ, zero, suc, ◌+◌, ◌<◌, ◌≤◌}
use native.Mathlib.Decide.{dec_lt}
use native.Mathlib.Omega.{arith}
use lib.ListN.{get_or, set, replicate, length-replicate, get_or-replicate, get_or-eq_default}
use Rattle.lists.specs.Tells.{Tells}

pub lt_or_ge : (a b : ℕ) → (a < b) ⊎ (b ≤ a)
lt_or_ge a b = go (dec_lt a b)
  where
    go : Dec (a < b) → (a < b) ⊎ (b ≤ a)
    go (yes l) = inl l
    go (no h) = inr (omega arith)

pub true_or_false : (b : Bool) → (b ≡ true) ⊎ (b ≡ false)
true_or_false true = inl refl
true_or_false false = inr refl

pub not_both : {b : Bool} → b ≡ true → b ≡ false → ⊥
not_both p q = let z : ◌≡◌ {A = ℕ} 0 1 = cc in omega arith

pub both_true : (a b : Bool) → (a && b) ≡ true → (a ≡ true) × (b ≡ true)
both_true true b e = (refl, e)
both_true false b e = absurd (not_both e refl)

-- what is not true is false
pub not_so : (b : Bool) → (b ≡ true → ⊥) → b ≡ false
not_so true h = absurd (h refl)
not_so false h = refl

-- what holds of each below c, and of c, holds of each below c + 1
pub below_next : (P : ℕ → Type 0) (c k : ℕ) → k < c + 1 → (k < c → P k) → P c → P k
below_next P c k l f h = ⊎_elim f (λ (g : c ≤ k). let e : k ≡ c = omega arith in rw e h) (lt_or_ge k c)

pub tells_yes : {P : Type 0} → P → Tells true P
tells_yes p = record { true_is = λ _. p; false_is = λ e. absurd (not_both refl e) }

pub tells_no : {P : Type 0} → (P → ⊥) → Tells false P
tells_no f = record { true_is = λ e. absurd (not_both e refl); false_is = λ _. f }

-- a test that answers b tells what b stands for
pub tells_by : {P : Type 0} (b : Bool) → (b ≡ true → P) → (b ≡ false → P → ⊥) → Tells b P
tells_by b y n = record { true_is = y; false_is = n }

module _ {A B : Type 0} (f : A → B) where
  pub map-set : (l : List A) (i : ℕ) (a : A) → map f (set l i a) ≡ set (map f l) i (f a)
  map-set [] i a = refl
  map-set (x ∷ l) zero a = refl
  map-set (x ∷ l) (suc i) a = ap (λ (r : List B). f x ∷ r) (map-set l i a)

  pub map-replicate : (n : ℕ) (a : A) → map f (replicate n a) ≡ replicate n (f a)
  map-replicate zero a = refl
  map-replicate (suc n) a = ap (λ (r : List B). f a ∷ r) (map-replicate n a)

-- A STORE, WHATEVER THE LENGTH

module _ {A : Type 0} (d : A) where
  -- what holds of what is stored and of what was read holds of what is read
  pub set_holds : (P : A → Type 0) (l : List A) (k i : ℕ) (a : A) → P a → P (get_or l i d) → P (get_or (set l k a) i d)
  set_holds P [] k i a new old = old
  set_holds P (x ∷ l) zero zero a new old = new
  set_holds P (x ∷ l) zero (suc i) a new old = old
  set_holds P (x ∷ l) (suc k) zero a new old = old
  set_holds P (x ∷ l) (suc k) (suc i) a new old = set_holds P l k i a new old

  -- a store of what is read past the end
  pub set_default : (l : List A) (i : ℕ) → get_or (set l i d) i d ≡ d
  set_default [] i = refl
  set_default (x ∷ l) zero = refl
  set_default (x ∷ l) (suc i) = set_default l i

-- the same value at every place, also past the end
pub get_or-all : {A : Type 0} (n i : ℕ) (a : A) → get_or (replicate n a) i a ≡ a
get_or-all n i a =
    ⊎_elim (λ (l : i < n). get_or-replicate n i a a l)
    (λ (g : n ≤ i). get_or-eq_default (replicate n a) a (rw (length-replicate n a) g))
    (lt_or_ge i n)
