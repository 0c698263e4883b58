-- Per script line of the program `events`: its number, its refusal number (0 for none) and its answer.
use Rattle.std.specs.Prelude.{Bool, true, false, List, [], ◌∷◌, ◌++◌, ℕ, take, Option, Some, None}
use Rattle.ids.specs.declared.TaskId.{TaskId}
use Rattle.ids.specs.Id.{unpacked}
use Rattle.answers.specs.Reply.{Reply, refused, done, told, number, named, value, stays, switched}
use Rattle.text.specs.Text.{bytes}
use Rattle.text.specs.Print.{decimal}

-- slot/epoch
unfoldable pub id_text : TaskId → List ℕ
id_text i = decimal i.slot ++ bytes "/" ++ decimal i.epoch

-- or - for none
abbrev pub id_or_none : Option TaskId → List ℕ
id_or_none None = bytes "-"
id_or_none (Some i) = id_text i

abbrev pub value_or_none : Option ℕ → List ℕ
value_or_none None = bytes "-"
value_or_none (Some v) = decimal v

abbrev pub truth : Bool → List ℕ
truth true = bytes "true"
truth false = bytes "false"

-- ids that a poll wrote, each after a space
unfoldable pub ids_text : List ℕ → List ℕ
ids_text [] = []
ids_text (raw ∷ l) = bytes " " ++ id_text (unpacked raw) ++ ids_text l

-- an answer: `out` is the output of a poll, whose count says how much of it was written
unfoldable pub answer_text : Reply → List ℕ → List ℕ
answer_text (refused n) out = decimal n
answer_text done out = bytes "0 ok"
answer_text (told b) out = bytes "0 " ++ truth b
answer_text (number k) out = bytes "0 " ++ decimal k ++ ids_text (take k out)
answer_text (named i) out = bytes "0 " ++ id_or_none i
answer_text (value v) out = bytes "0 " ++ value_or_none v
answer_text stays out = bytes "0 stay"
answer_text (switched from to release) out = bytes "0 " ++ id_text from ++ bytes " " ++ id_text to ++ bytes " " ++ id_or_none release

unfoldable pub line_text : ℕ → Reply → List ℕ → List ℕ
line_text n r out = decimal n ++ bytes " " ++ answer_text r out ++ bytes "\n"
