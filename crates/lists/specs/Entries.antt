-- Tables of entries that are free or taken: a list of places, `none` at a free one.
use Rattle.std.specs.Prelude.{◌≡◌, Bool, true, false, cond, List, [], ◌∷◌, map, ℕ, ◌<◌, length, get_or, Option, Some, None}
use Rattle.lists.specs.Search.{first_at}

-- a place is free
abbrev pub free : {A : Type 0} → Option A → Bool
free None = true
free (Some x) = false

-- a place is taken
abbrev pub is_there : {A : Type 0} → Option A → Bool
is_there None = false
is_there (Some x) = true

-- by an entry that p holds of
abbrev pub taken : {A : Type 0} → (A → Bool) → Option A → Bool
taken p None = false
taken p (Some x) = p x

-- a statement holds of what a place is taken by, if it is
abbrev pub Holds : {A : Type 0} → (A → Type 0) → Option A → Type 0
Holds P None = Unit {0}
Holds P (Some x) = P x

-- the lowest free place, or the number of places where all are taken
abbrev pub lowest_free : {A : Type 0} → List (Option A) → ℕ
lowest_free es = first_at free es

-- every entry that p holds of is freed; the others stay at their places
unfoldable pub freed : {A : Type 0} → (A → Bool) → List (Option A) → List (Option A)
freed p es = map (λ e. cond (taken p e) None e) es

-- the entries that p holds of, in the order of their places
unfoldable pub taken_by : {A : Type 0} → (A → Bool) → List (Option A) → List A
taken_by p [] = []
taken_by p (None ∷ es) = taken_by p es
taken_by p (Some x ∷ es) = cond (p x) (x ∷ taken_by p es) (taken_by p es)

-- two places are taken, by entries that the test finds alike
abbrev pub alike : {A : Type 0} → (A → A → Bool) → Option A → Option A → Bool
alike t None b = false
alike t (Some x) None = false
alike t (Some x) (Some y) = t x y

-- no two places hold entries that are alike
unfoldable pub Distinct : {A : Type 0} → (A → A → Bool) → List (Option A) → Type 0
Distinct t es = (i j : ℕ) → i < j → j < length es → alike t (get_or es i None) (get_or es j None) ≡ true → ⊥
