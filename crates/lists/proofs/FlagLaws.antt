-- A flag by its byte.
use mathlib.Core.Path.{◌≡◌, refl, ap}
use mathlib.Core.Bool.{Bool, true, false, not}
use Prim.Native.Nat.{ℕ, ◌<◌}
use native.Mathlib.Omega.{arith}
use borrow.Author.Tests.{eq-eqb, ne_eqb, eqb-true, not-false}
use lib.Dec.{eqb}
use Rattle.lists.specs.Search.{one_if}
use Rattle.lists.specs.Flags.{FLAGS, is_set}

pub set-off : (b : ℕ) → b ≡ 0 → is_set b ≡ false
set-off b e = ap not (eq-eqb b 0 e)

pub set_on : (b : ℕ) → (b ≡ 0 → ⊥) → is_set b ≡ true
set_on b e = ap not (ne_eqb b 0 e)

pub off_set : (b : ℕ) → is_set b ≡ false → b ≡ 0
off_set b e = eqb-true b 0 (not-false (eqb b 0) e)

-- the byte of a flag
pub set_one_if : (b : Bool) → is_set (one_if b) ≡ b
set_one_if true = refl
set_one_if false = refl

pub one_if-flag : (b : Bool) → one_if b < FLAGS
one_if-flag true = omega arith
one_if-flag false = omega arith
