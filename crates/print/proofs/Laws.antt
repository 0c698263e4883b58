-- How long the texts are.
use Rattle.std.proofs.Common.{Option, Some, None, Result, Ok, Err, ◌≡◌, ap, true, false, List, [], ◌∷◌, ◌++◌, ℕ, zero, suc, ◌+◌, ◌*◌, ◌^◌, ◌≤◌, ◌<◌, zero-le, arith, length, take, get_or, set, length-append, length-set}
use lib.Seq.{take-nil}
use Rattle.ids.specs.declared.TaskId.{TaskId}
use Rattle.ids.specs.Id.{unpacked}
use Rattle.answers.specs.Reply.{Reply, refused, done, told, number, named, value, stays, switched}
use Rattle.answers.specs.Answers.{refusal_no, count_reply}
use Rattle.answers.specs.declared.Refusal.{Refusal}
use Rattle.text.specs.Text.{bytes}
use Rattle.text.specs.Print.{decimal}
use Rattle.text.proofs.PrintLaws.{decimal-short, decimal-within, length_one, length_two, length_hundred}
use Rattle.print.specs.Texts.{id_text, id_or_none, ids_text, answer_text}

pub id-length : (i : TaskId) → length (id_text i) ≡ length (decimal i.slot) + 1 + length (decimal i.epoch)
unfolding id_text
id-length i = simp length-append

pub switched-length : (a b : TaskId) (r : Option TaskId)
    → length (answer_text (switched a b r) []) ≡ 2 + length (id_text a) + 1 + length (id_text b) + 1 + length (id_or_none r)
unfolding answer_text
switched-length a b r = simp length-append (omega arith)

-- a raw id of 32 bits has five digits on either side of its slash
pub raw-short : (raw : ℕ) → raw < 2 ^ 32 → length (id_text (unpacked raw)) ≤ 11
raw-short raw h =
    omega (arith, id-length (unpacked raw), decimal-within 4 (unpacked raw).slot (omega arith), decimal-within 4 (unpacked raw).epoch (omega arith))

-- any numbers of 20 digits at most
id-short : (i : TaskId) → length (id_text i) ≤ 41
id-short i = omega (arith, id-length i, decimal-short i.slot, decimal-short i.epoch)

id_or-none-short : (i : Option TaskId) → length (id_or_none i) ≤ 41
id_or-none-short None = omega arith
id_or-none-short (Some i) = id-short i

no_ids : (k : ℕ) → ids_text (take k []) ≡ []
unfolding ids_text
no_ids k = rw (take-nil k)

-- the answer to any call that is lent no output
pub answer-short : (r : Reply) → length (answer_text r []) ≤ 127
unfolding answer_text
answer-short (refused n) = omega (arith, decimal-short n)
answer-short done = omega arith
answer-short (told true) = omega arith
answer-short (told false) = omega arith
answer-short (number k) = omega (arith, decimal-short k, length-append (decimal k) (ids_text (take k [])), ap length (no_ids k))
answer-short (named i) = omega (arith, id_or-none-short i)
answer-short (value None) = omega arith
answer-short (value (Some v)) = omega (arith, decimal-short v)
answer-short stays = omega arith
answer-short (switched a b r) = omega (arith, switched-length a b r, id-short a, id-short b, id_or-none-short r)

-- the answer to a poll: a count, and twelve bytes for each raw id that it was lent
ids_short : (k : ℕ) (raws : List ℕ) → ((i : ℕ) → get_or raws i 0 < 2 ^ 32) → length (ids_text (take k raws)) ≤ 12 * length raws
unfolding ids_text
ids_short zero raws h = zero-le
ids_short (suc k) [] h = zero-le
ids_short (suc k) (raw ∷ raws) h =
    omega (arith, length-append (bytes " " ++ id_text (unpacked raw)) (ids_text (take k raws)), raw-short raw (h 0), ids_short k raws (λ i. h (suc i)))

pub poll-short : (a : Result ℕ Refusal) (raws : List ℕ) → ((i : ℕ) → get_or raws i 0 < 2 ^ 32) → length (answer_text (count_reply a) raws) ≤ 22 + 12 * length raws
unfolding answer_text
poll-short (Ok k) raws h = omega (arith, decimal-short k, length-append (decimal k) (ids_text (take k raws)), ids_short k raws h)
poll-short (Err r) raws h = omega (arith, decimal-short (refusal_no r))

-- what tells that a text has room
pub ruleset lengths = (length_one, length_two, length_hundred, length-append, decimal-short, answer-short)
