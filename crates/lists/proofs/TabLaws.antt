-- Laws of `tab`: its length, its values, one more at the end, one place changed.
use mathlib.Core.Path.{◌≡◌, refl, ap, ap₂}
use mathlib.Core.List.{List, [], ◌∷◌, ◌++◌}
use Prim.Native.Nat.{ℕ, zero, suc, ◌<◌, suc-le-suc, zero-le}
use native.Mathlib.Omega.{arith}
use lib.ListN.{length, get_or, set}
use Rattle.lists.specs.Tab.{tab}

module _ {A : Type 0} where
  pub length-tab : (k : ℕ) (f : ℕ → A) → length (tab k f) ≡ k
  unfolding tab
  length-tab zero f = refl
  length-tab (suc k) f = ap suc (length-tab k (λ j. f (suc j)))

  pub get_or-tab : (k : ℕ) (f : ℕ → A) (i : ℕ) (d : A) → i < k → get_or (tab k f) i d ≡ f i
  unfolding tab
  get_or-tab zero f i d h = absurd (omega arith)
  get_or-tab (suc k) f zero d h = refl
  get_or-tab (suc k) f (suc i) d h = get_or-tab k (λ j. f (suc j)) i d (omega arith)

  pub tab_ext : (k : ℕ) (f g : ℕ → A) → ((j : ℕ) → j < k → f j ≡ g j) → tab k f ≡ tab k g
  unfolding tab
  tab_ext zero f g h = refl
  tab_ext (suc k) f g h =
      ap₂ (λ (a : A) (l : List A). a ∷ l) (h zero (suc-le-suc zero-le))
      (tab_ext k (λ j. f (suc j)) (λ j. g (suc j)) (λ j l. h (suc j) (suc-le-suc l)))

  pub tab-cons : (k : ℕ) (f : ℕ → A) → tab (suc k) f ≡ f zero ∷ tab k (λ j. f (suc j))
  unfolding tab
  tab-cons k f = refl

  pub tab-snoc : (k : ℕ) (f : ℕ → A) → tab (suc k) f ≡ tab k f ++ (f k ∷ [])
  unfolding tab
  tab-snoc zero f = refl
  tab-snoc (suc k) f = ap (λ (l : List A). f zero ∷ l) (tab-snoc k (λ j. f (suc j)))

  -- g is f but at place i
  pub tab-set : (k : ℕ) (f g : ℕ → A) (i : ℕ) → ((j : ℕ) → (j ≡ i → ⊥) → g j ≡ f j) → i < k → tab k g ≡ set (tab k f) i (g i)
  unfolding tab
  tab-set zero f g i h l = absurd (omega arith)
  tab-set (suc k) f g zero h l =
      ap (λ (r : List A). g zero ∷ r) (tab_ext k (λ j. g (suc j)) (λ j. f (suc j)) (λ j _. h (suc j) (λ e. omega arith)))
  tab-set (suc k) f g (suc i) h l =
      ap₂ (λ (a : A) (r : List A). a ∷ r) (h zero (λ e. omega arith))
      (tab-set k (λ j. f (suc j)) (λ j. g (suc j)) i (λ j ne. h (suc j) (λ p. ne (omega arith))) (omega arith))
