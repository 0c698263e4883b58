-- Texts are lists of bytes. In a script a line ends before its line feed, which the last line may
-- lack; words stand one space apart; numbers are decimal, leading zeros are allowed, and each has a largest value.
use Rattle.std.specs.Prelude.{Bool, true, false, cond, ◌&&◌, List, [], ◌∷◌, ℕ, suc, ◌+◌, ◌*◌, ◌-◌, eqb, leb, Option, Some, None}
use Prim.Native.String.{String, [] as ε, ◌∷◌ as ◌then◌}
use Prim.Native.Char.{code}

-- the bytes of a literal
abbrev pub bytes : String → List ℕ
bytes ε = []
bytes (c then s) = code c ∷ bytes s

abbrev pub SPACE : ℕ
SPACE = 32

abbrev pub SLASH : ℕ
SLASH = 47

abbrev pub FEED : ℕ
FEED = 10

-- byte for byte
unfoldable pub same : List ℕ → List ℕ → Bool
same [] [] = true
same [] (y ∷ b) = false
same (x ∷ a) [] = false
same (x ∷ a) (y ∷ b) = cond (eqb x y) (same a b) false

-- PARTS

-- the parts of a text between separators: one more than there are separators, and a part may be empty
unfoldable pub onto : ℕ → List (List ℕ) → List (List ℕ)
onto x [] = (x ∷ []) ∷ []
onto x (w ∷ ws) = (x ∷ w) ∷ ws

unfoldable pub split : ℕ → List ℕ → List (List ℕ)
split s [] = [] ∷ []
split s (x ∷ l) = cond (eqb x s) ([] ∷ split s l) (onto x (split s l))

-- a line feed at the end starts no line, so nothing is no line
unfoldable pub trim : List (List ℕ) → List (List ℕ)
trim [] = []
trim ([] ∷ []) = []
trim ((x ∷ a) ∷ []) = (x ∷ a) ∷ []
trim (a ∷ b ∷ ls) = a ∷ trim (b ∷ ls)

unfoldable pub lines : List ℕ → List (List ℕ)
lines l = trim (split FEED l)

-- how many bytes stand before the first separator
unfoldable pub up_to : ℕ → List ℕ → ℕ
up_to s [] = 0
up_to s (x ∷ l) = cond (eqb x s) 0 (suc (up_to s l))

-- NUMBERS

abbrev pub is_digit : ℕ → Bool
is_digit d = leb 48 d && leb d 57

-- the value of digits after others that are worth v
unfoldable pub value : ℕ → List ℕ → Option ℕ
value v [] = Some v
value v (d ∷ l) = cond (is_digit d) (value (v * 10 + (d - 48)) l) None

abbrev pub at_most : ℕ → Option ℕ → Option ℕ
at_most max None = None
at_most max (Some v) = cond (leb v max) (Some v) None

-- a number of one digit or more, at most max
unfoldable pub number : ℕ → List ℕ → Option ℕ
number max [] = None
number max (d ∷ l) = at_most max (value 0 (d ∷ l))
