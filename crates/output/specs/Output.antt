-- Document 01, "The program `events`": the whole output for a whole input.
use Rattle.std.specs.Prelude.{cond, List, [], ◌∷◌, ◌++◌, ℕ, ◌+◌, ◌-◌, ltb, length}
use Rattle.answers.specs.Reply.{done, refused}
use Rattle.answers.specs.Contract.{Step, refusing}
use Rattle.answers.specs.Sizes.{listed}
use Rattle.model.specs.Model.{occupied}
use Rattle.runs.specs.Tables.{Tables, fresh, with_deadlines, step}
use Rattle.text.specs.Text.{bytes, lines}
use Rattle.text.specs.Print.{decimal}
use Rattle.lines.specs.Asked.{Asked, afresh, calls, unreadable}
use Rattle.lines.specs.Lines.{read_line}
use Rattle.print.specs.Texts.{line_text}

-- a script starts with tables of 57 slots and 32 places for tokens
abbrev pub TASKS : ℕ
TASKS = 57

abbrev pub TOKENS : ℕ
TOKENS = 32

-- what a line answers and leaves: 2 for a size that is not listed, 12 for what can't be read
unfoldable pub plays : Tables → Asked → Step Tables
plays t (afresh n) = cond (listed n) (record { reply = done; after = fresh n TOKENS }) (refusing 2 t)
plays t (calls k) = step t k
plays t unreadable = refusing 12 t

abbrev pub field : ℕ → List ℕ
field v = bytes " " ++ decimal v

-- lines read, occupied slots, agents, peak
unfoldable pub end_text : ℕ → Tables → List ℕ
end_text n t = bytes "end" ++ field n ++ field (occupied t.tasks) ++ field (occupied t.tasks - 2) ++ field t.tasks.peak ++ bytes "\n"

-- the output of a poll is printed on its line, and then gone
abbrev pub printed : Tables → Tables
printed t = with_deadlines t t.deadlines []

-- the answers to lines after the first n, and the end
unfoldable pub run : Tables → ℕ → List (List ℕ) → List ℕ
run t n [] = end_text n t
run t n (l ∷ ls) =
    let s = plays t (read_line l) in
    line_text (n + 1) s.reply s.after.out ++ run (printed s.after) (n + 1) ls

-- the most bytes of a script
abbrev pub INPUT : ℕ
INPUT = 65536

abbrev pub HEADER : List ℕ
HEADER = bytes "events 1\n"

-- the answer to a script as a whole
abbrev pub REFUSAL : List ℕ
REFUSAL = line_text 0 (refused 13) []

unfoldable pub events_text : List ℕ → List ℕ
events_text input = HEADER ++ cond (ltb INPUT (length input)) REFUSAL (run (fresh TASKS TOKENS) 0 (lines input))
