-- How far a program has come with a script, and what it still has to write.
use Rattle.std.specs.Prelude.{◌≡◌, List, [], ◌∷◌, ◌++◌, ℕ, ◌≤◌, ◌<◌, length, take, drop}
use Rattle.answers.specs.Contract.{Kind, Step}
use Rattle.runs.specs.Outcomes.{Memory, AllSound, view}
use Rattle.text.specs.Text.{lines}
use Rattle.text.specs.Print.{Wrote}
use Rattle.lines.specs.Asked.{Asked}
use Rattle.lines.specs.Lines.{read_line}
use Rattle.print.specs.Texts.{line_text}
use Rattle.output.specs.Output.{run, plays, printed}

-- with the tables t, after n lines, where the bytes from index `at` on are still to be read
abbrev pub to_write : List ℕ → Memory → ℕ → ℕ → List ℕ
to_write input t n at = run (view t) n (lines (drop at input))

-- the line at index `at` asks for this, and r is the index after it and its line feed
pub record Next (input : List ℕ) (at : ℕ) (asked : Asked) (r : ℕ) : Type 0 where
  pub more : at < r
  pub within : r ≤ length input
  pub line : List ℕ
  pub first : lines (drop at input) ≡ line ∷ lines (drop r input)
  pub asks : asked ≡ read_line line

-- line n asked for a call on one table: the table is as the model leaves it, and sound, and the answer is written as that line's
pub record Played (k : Kind) (want : Step k.Plain) (u : k.Memory) (n : ℕ) (o : List ℕ) (used used' : ℕ) (o' : List ℕ) : Type 0 where
  pub sound : k.Sound u
  pub after : k.view u ≡ want.after
  pub said : Wrote o used (line_text n want.reply []) used' o'

-- likewise of whatever a line asks for, on all tables; between lines no output of a poll is kept
pub record Plays (t : Memory) (asked : Asked) (u : Memory) (n : ℕ) (o : List ℕ) (used used' : ℕ) (o' : List ℕ) : Type 0 where
  pub sound : AllSound u
  pub after : view u ≡ printed (plays (view t) asked).after
  pub said : Wrote o used (line_text n (plays (view t) asked).reply (plays (view t) asked).after.out) used' o'

-- from a place to a later one: what stands at the start of the buffer is what was to be written before and no more is
pub record Filled (input : List ℕ) (t : Memory) (n at : ℕ) (u : Memory) (n' at' used : ℕ) (o : List ℕ) : Type 0 where
  pub sound : AllSound u
  pub within : at' ≤ length input
  pub counted : n' ≤ at'
  pub room : used ≤ length o
  -- something is done where something was left
  pub more : at < length input → at < at'
  pub told : to_write input t n at ≡ take used o ++ to_write input u n' at'
