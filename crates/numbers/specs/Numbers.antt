-- An answer as it crosses the C boundary, where no enum can: document 01's number first, 0 for none, and then which kind of
-- answer it is and its values. What a kind does not use is 0; a flag is a byte, 0 or 1.
use Rattle.std.specs.Prelude.{◌≡◌, ℕ, Option, Some, None}
use Rattle.lists.specs.Search.{one_if}
use Rattle.lists.specs.Entries.{is_there}
use Rattle.ids.specs.declared.TaskId.{TaskId}
use Rattle.ids.specs.Id.{idle}
use Rattle.answers.specs.Reply.{Reply, refused, done, told, number, named, value, stays, switched}
use Rattle.numbers.specs.declared.Answer.{Answer}

abbrev pub id_or : Option TaskId → TaskId
id_or None = idle
id_or (Some i) = i

abbrev pub number_or : Option ℕ → ℕ
number_or None = 0
number_or (Some v) = v

abbrev pub numbers_of : Reply → Answer
numbers_of (refused n) = record { refusal = n; kind = 0; flag = 0; number = 0; first = idle; second = idle; third = idle }
numbers_of done = record { refusal = 0; kind = 0; flag = 0; number = 0; first = idle; second = idle; third = idle }
numbers_of (told b) = record { refusal = 0; kind = 1; flag = one_if b; number = 0; first = idle; second = idle; third = idle }
numbers_of (number n) = record { refusal = 0; kind = 2; flag = 0; number = n; first = idle; second = idle; third = idle }
numbers_of (named i) = record { refusal = 0; kind = 3; flag = one_if (is_there i); number = 0; first = id_or i; second = idle; third = idle }
numbers_of (value v) = record { refusal = 0; kind = 4; flag = one_if (is_there v); number = number_or v; first = idle; second = idle; third = idle }
numbers_of stays = record { refusal = 0; kind = 5; flag = 0; number = 0; first = idle; second = idle; third = idle }
numbers_of (switched from to release) = record { refusal = 0; kind = 6; flag = one_if (is_there release); number = 0; first = from; second = to; third = id_or release }

-- the numbers are those of a reply of which P holds
pub record Crossed (a : Answer) (P : Reply → Type 0) : Type 0 where
  pub reply : Reply
  pub numbers : a ≡ numbers_of reply
  pub holds : P reply
