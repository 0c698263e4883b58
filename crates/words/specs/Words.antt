-- Ids as text: a slot, one slash and an epoch, each a number of 16 bits.
use Rattle.std.specs.Prelude.{List, [], ◌∷◌, ℕ, ◌-◌, ◌^◌, Option, Some, None}
use Rattle.ids.specs.declared.TaskId.{TaskId}
use Rattle.text.specs.Text.{SLASH, split, number}

-- the largest number of so many bits
abbrev pub largest : ℕ → ℕ
largest bits = 2 ^ bits - 1

abbrev pub both : Option ℕ → Option ℕ → Option TaskId
both None e = None
both (Some s) None = None
both (Some s) (Some e) = Some (record { slot = s; epoch = e })

abbrev pub id_parts : List (List ℕ) → Option TaskId
id_parts [] = None
id_parts (a ∷ []) = None
id_parts (a ∷ b ∷ []) = both (number (largest 16) a) (number (largest 16) b)
id_parts (a ∷ b ∷ c ∷ l) = None

unfoldable pub read_id : List ℕ → Option TaskId
read_id w = id_parts (split SLASH w)
