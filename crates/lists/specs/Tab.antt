-- Lists given by their values: f 0, f 1, .. f (k - 1).
use Rattle.std.specs.Prelude.{List, [], ◌∷◌, ℕ, zero, suc}

unfoldable pub tab : {A : Type 0} → ℕ → (ℕ → A) → List A
tab zero f = []
tab (suc k) f = f zero ∷ tab k (λ j. f (suc j))
