-- Looking through a list from the front.
use Rattle.std.specs.Prelude.{Bool, true, false, cond, ◌||◌, List, [], ◌∷◌, ℕ, zero, suc}

-- the place of the first that p holds of, or the length where there is none
unfoldable pub first_at : {A : Type 0} → (A → Bool) → List A → ℕ
first_at p [] = zero
first_at p (x ∷ xs) = cond (p x) zero (suc (first_at p xs))

-- how many p holds of
unfoldable pub count_of : {A : Type 0} → (A → Bool) → List A → ℕ
count_of p [] = zero
count_of p (x ∷ xs) = cond (p x) (suc (count_of p xs)) (count_of p xs)

-- what a test adds to a count
abbrev pub one_if : Bool → ℕ
one_if true = 1
one_if false = 0

-- whether p holds of any
unfoldable pub any_of : {A : Type 0} → (A → Bool) → List A → Bool
any_of p [] = false
any_of p (x ∷ xs) = p x || any_of p xs
