-- The lowest Empty slot that is not below another, or n.
use Rattle.std.specs.Prelude.{◌≡◌, List, ℕ, ◌≤◌, ◌<◌, get_or}
use Rattle.model.specs.Model.{EMPTY}

pub record LowestEmpty (states : List ℕ) (from n r : ℕ) : Type 0 where
  pub least : from ≤ r
  pub most : r ≤ n
  pub before : (i : ℕ) → from ≤ i → i < r → get_or states i 0 ≡ EMPTY → ⊥
  pub there : r < n → get_or states r 0 ≡ EMPTY
