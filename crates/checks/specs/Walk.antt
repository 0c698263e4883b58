-- Walks that note what they pass: each step is tested on the notes of the steps before it, and then notes its own.
use Rattle.std.specs.Prelude.{◌≡◌, ℕ, zero, suc, Bool, true, List}
use Rattle.lists.specs.Tells.{Tells}

-- the notes after the first k steps
unfoldable pub notes_at : {W : Type 0} → (ℕ → W → W) → ℕ → W → W
notes_at f zero w = w
notes_at f (suc k) w = f k (notes_at f k w)

-- each of the first k steps passes its test
unfoldable pub Passes : {W : Type 0} → (ℕ → W → Type 0) → (ℕ → W → W) → ℕ → W → Type 0
Passes P f zero w = Unit {0}
Passes P f (suc k) w = Passes P f k w × P k (notes_at f k w)

-- a test that notes: it tells a statement, and where that holds it leaves the notes v as u
pub record Notes (r : Bool) (P : Type 0) (v u : List ℕ) : Type 0 where
  pub tells : Tells r P
  pub leaves : r ≡ true → u ≡ v
