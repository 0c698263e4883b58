-- A statement of each entry of a list.
use Rattle.std.specs.Prelude.{List, [], ◌∷◌}

unfoldable pub Each : {A : Type 0} → (A → Type 0) → List A → Type 0
Each P [] = Unit {0}
Each P (x ∷ l) = P x × Each P l
