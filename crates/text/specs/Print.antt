-- Numbers as text, and what a function does that writes a text into a lent buffer.
use Rattle.std.specs.Prelude.{◌≡◌, cond, List, [], ◌∷◌, ◌++◌, ℕ, zero, suc, ◌+◌, ◌/◌, ◌%◌, ◌≤◌, ltb, length, take, drop}

-- decimal digits with no leading zero: those of a tenth of the number, then its last; at most f more than one of them
unfoldable pub digits : ℕ → ℕ → List ℕ
digits zero n = (48 + n) ∷ []
digits (suc f) n = cond (ltb n 10) ((48 + n) ∷ []) (digits f (n / 10) ++ ((48 + n % 10) ∷ []))

-- 64 bits are 20 digits at most
unfoldable pub decimal : ℕ → List ℕ
decimal n = digits 19 n

-- a number below a hundred, whatever its size
abbrev pub two_digits : ℕ → List ℕ
two_digits n = (48 + n / 10) ∷ (48 + n % 10) ∷ []

-- a buffer with a text from an index on
unfoldable pub put : List ℕ → ℕ → List ℕ → List ℕ
put o at t = take at o ++ t ++ drop (at + length t) o

-- the text t was written into the buffer o from index at on: the buffer is o' now, and r is the index after the text
pub record Wrote (o : List ℕ) (at : ℕ) (t : List ℕ) (r : ℕ) (o' : List ℕ) : Type 0 where
  pub end : r ≡ at + length t
  pub fits : r ≤ length o
  pub size : length o' ≡ length o
  pub all : o' ≡ put o at t
