-- What a program that calls `chunk` again and again holds between two calls: how far the script has come, how long its
-- buffer is, and tables that are sound.
use mathlib.Core.Path.{◌≡◌, sym, ◌∙◌}
use mathlib.Core.Bool.{Bool, false}
use mathlib.Core.List.{List}
use Prim.Native.Nat.{ℕ, ◌≤◌}
use lib.ListN.{length}
use lib.Dec.{ltb}
use borrow.Author.Tests.{ltb-false}
use Rattle.runs.specs.Outcomes.{AllSound}
use Rattle.output.specs.Output.{INPUT}
use Rattle.place.specs.declared.Place.{Place}
use Rattle.place.specs.Here.{tables_of}

pub record Between (size : ℕ) (text out : List ℕ) (p : Place) : Type 0 where
  pub within : p.at ≤ length text
  pub counted : p.number ≤ p.at
  pub short : length text ≤ INPUT
  pub big : length out ≡ size
  pub sound : AllSound (tables_of p)

-- a script that is not told to be too long
pub short_enough : (n : ℕ) (b : Bool) → b ≡ ltb INPUT n → b ≡ false → n ≤ INPUT
short_enough n b f g = ltb-false INPUT n (sym f ∙ g)
