-- Numbers that name nothing, and how an answer is known to have crossed.
use Rattle.std.specs.Prelude.{None}
use mathlib.Core.Path.{◌≡◌}
use Prim.Native.Nat.{ℕ}
use native.Mathlib.Omega.{arith}
use borrow.Author.Tests.{ne_eqb, le-ltb}
use Rattle.answers.specs.Reply.{Reply}
use Rattle.numbers.specs.declared.Answer.{Answer}
use Rattle.numbers.specs.Numbers.{numbers_of, Crossed}
use Rattle.numbers.specs.Operands.{kind_named, flag_named, state_named}

pub no_kind : (n : ℕ) → (n ≡ 0 → ⊥) → (n ≡ 1 → ⊥) → (n ≡ 2 → ⊥) → (n ≡ 3 → ⊥) → None ≡ kind_named n
no_kind n a b c d = rw (ne_eqb n 0 a, ne_eqb n 1 b, ne_eqb n 2 c, ne_eqb n 3 d)

pub no_flag : (n : ℕ) → (n ≡ 0 → ⊥) → (n ≡ 1 → ⊥) → None ≡ flag_named n
no_flag n a b = rw (ne_eqb n 0 a, ne_eqb n 1 b)

pub no_state : (n : ℕ) → (n ≡ 0 → ⊥) → (n ≡ 1 → ⊥) → (n ≡ 2 → ⊥) → (n ≡ 3 → ⊥) → None ≡ state_named n
no_state n a b c d = rw (le-ltb n 4 (omega arith))

-- what the wrapped call ensures of its reply, and the conversion of the answer that it is
pub crossed : (P : Reply → Type 0) (a : Answer) (got : Reply) → a ≡ numbers_of got → P got → Crossed a P
crossed P a got e p = record { reply = got; numbers = e; holds = p }
