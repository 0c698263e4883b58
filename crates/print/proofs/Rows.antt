-- Rows that compute: lines, written out.
use Rattle.std.proofs.Common.{Some, None, ◌≡◌, refl, true, false, List, [], ◌∷◌, map, ℕ}
use Prim.Native.String.{String}
use Rattle.ids.specs.declared.TaskId.{TaskId}
use Rattle.answers.specs.Reply.{Reply, refused, done, told, number, named, value, stays, switched}
use Rattle.text.specs.Text.{bytes}
use Rattle.text.specs.Print.{digits, decimal}
use Rattle.print.specs.Texts.{id_text, ids_text, answer_text, line_text}

-- a line's number, its reply, what a poll wrote, and the line
pub record Row : Type 0 where
  n : ℕ
  reply : Reply
  out : List ℕ
  line : String

abbrev row : ℕ → Reply → List ℕ → String → Row
row n r out l = record { n = n; reply = r; out = out; line = l }

abbrev id : ℕ → ℕ → TaskId
id slot epoch = record { slot = slot; epoch = epoch }

-- the lines of a short script; then one row for each other kind of answer, and the ends of the numbers
abbrev rows : List Row
rows =
    row 1 done [] "1 0 ok\n"
    ∷ row 3 (named (Some (id 1 0))) [] "3 0 1/0\n"
    ∷ row 4 (switched (id 0 0) (id 1 0) None) [] "4 0 0/0 1/0 -\n"
    ∷ row 5 (switched (id 1 0) (id 0 0) None) [] "5 0 1/0 0/0 -\n"
    ∷ row 6 (switched (id 2 0) (id 0 0) (Some (id 1 0))) [] "6 0 2/0 0/0 1/0\n"
    ∷ row 7 (refused 12) [] "7 12\n"
    ∷ row 8 stays [] "8 0 stay\n"
    ∷ row 9 (told true) [] "9 0 true\n"
    ∷ row 10 (told false) [] "10 0 false\n"
    ∷ row 11 (named None) [] "11 0 -\n"
    ∷ row 12 (value None) [] "12 0 -\n"
    ∷ row 13 (value (Some 4294967295)) [] "13 0 4294967295\n"
    ∷ row 14 (number 2) (1 ∷ 3 ∷ 65538 ∷ []) "14 0 2 1/0 3/0\n"
    ∷ row 15 (number 0) (1 ∷ 3 ∷ []) "15 0 0\n"
    ∷ row 16 (number 1) (4294967295 ∷ []) "16 0 1 65535/65535\n"
    ∷ row 65536 (number 1) (131075 ∷ []) "65536 0 1 3/2\n"
    ∷ []

pub every_row : map (λ (w : Row). line_text w.n w.reply w.out) rows ≡ map (λ (w : Row). bytes w.line) rows
unfolding digits decimal id_text ids_text answer_text line_text
every_row = refl
