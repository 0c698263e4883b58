-- A test in code tells whether a statement holds: `true` proves it and `false` refutes it.
use Rattle.std.specs.Prelude.{◌≡◌, Bool, true, false}

pub record Tells (r : Bool) (P : Type 0) : Type 0 where
  pub true_is : r ≡ true → P
  pub false_is : r ≡ false → P → ⊥
