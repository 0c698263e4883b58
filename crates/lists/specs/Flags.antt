-- Flags in memory. A flag is a byte; in a sound table it is 0 or 1, and any other byte is damage.
use Rattle.std.specs.Prelude.{Bool, not, ℕ, eqb}

-- how many values a flag has
abbrev pub FLAGS : ℕ
FLAGS = 2

abbrev pub is_set : ℕ → Bool
is_set b = not (eqb b 0)
