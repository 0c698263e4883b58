-- Laws of a statement of each entry of a list.
use mathlib.Core.List.{List, [], ◌∷◌}
use Prim.Native.Nat.{ℕ, zero, suc, ◌<◌, ◌≤◌}
use native.Mathlib.Omega.{arith}
use lib.ListN.{length, get_or, set, replicate}
use Rattle.lists.specs.Each.{Each}

module _ {A : Type 0} (P : A → Type 0) where
  -- it holds at every place, also past the end where it holds of what is read there
  pub each_at : (l : List A) (i : ℕ) (d : A) → P d → Each P l → P (get_or l i d)
  unfolding Each
  each_at [] i d h e = h
  each_at (x ∷ l) zero d h e = e.0
  each_at (x ∷ l) (suc i) d h e = each_at l i d h e.1

  -- a scan that has seen it hold at every place
  pub each_seen : (l : List A) (n : ℕ) (d : A) → length l ≤ n → ((k : ℕ) → k < n → P (get_or l k d)) → Each P l
  unfolding Each
  each_seen [] n d h f = tt
  each_seen (x ∷ l) zero d h f = absurd (omega arith)
  each_seen (x ∷ l) (suc n) d h f = (f zero (omega arith), each_seen l n d (omega arith) (λ k m. f (suc k) (omega arith)))

  pub each_set : (l : List A) (i : ℕ) (a : A) → P a → Each P l → Each P (set l i a)
  unfolding Each
  each_set [] i a h e = tt
  each_set (x ∷ l) zero a h e = (h, e.1)
  each_set (x ∷ l) (suc i) a h e = (e.0, each_set l i a h e.1)

  pub each_all : (n : ℕ) (a : A) → P a → Each P (replicate n a)
  unfolding Each
  each_all zero a h = tt
  each_all (suc n) a h = (h, each_all n a h)
