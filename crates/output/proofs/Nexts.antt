-- Where a script begins, and its line at an index.
use mathlib.Core.Path.{◌≡◌, sym, ◌∙◌, ap}
use mathlib.Core.List.{List, ◌∷◌}
use Prim.Native.Nat.{ℕ, ◌+◌, ◌≤◌, ◌<◌}
use native.Mathlib.Omega.{arith}
use lib.ListN.{length, take, drop, length-drop, drop_of_length-le}
use lib.Seq.{drop-drop}
use Rattle.answers.specs.Reply.{Reply, done}
use Rattle.answers.specs.Contract.{Makes}
use Rattle.model.specs.Steps as tasks-steps
use Rattle.memory.specs.declared.Tasks.{Tasks}
use Rattle.memory.specs.View as tasks-kind
use Rattle.irqwait.specs.declared.WaitTable.{WaitTable}
use Rattle.irqwait.specs.Waits as waits-kind
use Rattle.irqwait.specs.Steps as waits
use Rattle.parktime.specs.declared.Table.{Table}
use Rattle.parktime.specs.Deadlines as deadlines-kind
use Rattle.parktime.specs.Steps as deadlines
use Rattle.wake.specs.declared.WakeQueue.{WakeQueue}
use Rattle.wake.specs.Queue as wakes-kind
use Rattle.wake.specs.Steps as tokens
use Rattle.runs.specs.Tables.{fresh}
use Rattle.runs.specs.Outcomes.{AllSound, view}
use Rattle.text.specs.Text.{FEED, up_to, lines}
use Rattle.text.proofs.ReadLaws.{lines_cons}
use Rattle.lines.specs.Asked.{Asked}
use Rattle.lines.specs.Lines.{read_line}
use Rattle.output.specs.Output.{TASKS, TOKENS}
use Rattle.output.specs.Places.{Next}
use Rattle.output.proofs.Arms.{here}

pub begun : (a : Tasks) (b : WaitTable) (c : Table) (d : WakeQueue) (got gave : Reply) → Makes tasks-kind.table a got (tasks-steps.new_step TASKS) → Makes waits-kind.waits b done waits.new_step → Makes deadlines-kind.deadlines c done deadlines.new_step → Makes wakes-kind.wakes d gave (tokens.new_step TOKENS) → (view (here a b c d) ≡ fresh TASKS TOKENS) × AllSound (here a b c d)
unfolding tasks-steps.new_step tokens.new_step wakes-kind.listed
begun a b c d got gave ma mb mc md =
    (rw (ma.after, mb.after, mc.after, md.after), record { tasks = ma.sound; waits = mb.sound; deadlines = mc.sound; wakes = md.sound })

-- the bytes from an index on, the line there, and how long it is
module _ (input rest w : List ℕ) (at e : ℕ) (asked : Asked) (is : rest ≡ drop at input) (some : at < length input) (long : e ≡ up_to FEED rest) (line : w ≡ take e rest) (asks : asked ≡ read_line w) where
  first_by : (r : ℕ) → drop (e + 1) (drop at input) ≡ drop r input → lines (drop at input) ≡ w ∷ lines (drop r input)
  first_by r g =
      ap lines (sym is)
      ∙ lines_cons rest w (drop r input) e (omega (arith, ap length is, length-drop at input)) long line (sym g ∙ ap (drop (e + 1)) (sym is))

  pub next_feed : at + e < length input → Next input at asked (at + e + 1)
  next_feed h =
      let k : at + (e + 1) ≡ at + e + 1 = omega arith in
      record { more = omega arith; within = omega arith; line = w; first = first_by (at + e + 1) (drop-drop (e + 1) at input ∙ ap (λ n. drop n input) k); asks = asks }

  pub next_last : length input ≤ at + e → Next input at asked (length input)
  next_last h =
      let short : length (drop at input) ≤ e + 1 = omega (arith, length-drop at input) in
      let all : length input ≤ length input = omega arith in
      record { more = some; within = all; line = w; first = first_by (length input) (drop_of_length-le (drop at input) short ∙ sym (drop_of_length-le input all)); asks = asks }
