-- What the code reads off the arrays of a table: each is the model's reading of the view (proofs/PartLaws.antt).
use Rattle.std.specs.Prelude.{Bool, ◌&&◌, not, List, ℕ, get_or, take, eqb, ltb}
use Rattle.lists.specs.Flags.{is_set}
use Rattle.lists.specs.Tab.{tab}
use Rattle.lists.specs.Search.{first_at, count_of, any_of}
use Rattle.ids.specs.declared.TaskId.{TaskId}
use Rattle.ids.specs.Id.{same_id}
use Rattle.model.specs.Model.{EMPTY, BLOCKED}

abbrev pub known_in : List ℕ → ℕ → TaskId → Bool
known_in epochs n id = ltb id.slot n && eqb (get_or epochs id.slot 0) id.epoch

unfoldable pub idle_in : List TaskId → TaskId → Bool
idle_in idles id = any_of (λ i. same_id id i) idles

abbrev pub stealeable_in : List ℕ → List ℕ → ℕ → List TaskId → TaskId → Bool
stealeable_in epochs marks n idles id = known_in epochs n id && is_set (get_or marks id.slot 0) && not (idle_in idles id)

abbrev pub vacant_in : List ℕ → ℕ → ℕ → ℕ → Bool
vacant_in states parked at s = eqb (get_or states s 0) EMPTY && not (is_set parked && eqb at s)

unfoldable pub free_in : List ℕ → ℕ → ℕ → ℕ → ℕ
free_in states parked at n = first_at (vacant_in states parked at) (tab n (λ s. s))

unfoldable pub occupied_in : List ℕ → ℕ → ℕ
occupied_in states n = count_of (λ s. not (eqb s EMPTY)) (take n states)

unfoldable pub blocked_in : List ℕ → ℕ → ℕ
blocked_in states n = count_of (λ s. eqb s BLOCKED) (take n states)
