-- The last line of the output.
use mathlib.Core.Path.{◌≡◌, sym, ◌∙◌}
use mathlib.Core.List.{◌++◌}
use Prim.Native.Nat.{ℕ, ◌-◌, ◌≤◌}
use native.Mathlib.Omega.{arith}
use lib.ListN.{length}
use Rattle.memory.specs.View as tasks-kind
use Rattle.memory.specs.Parts.{occupied_in}
use Rattle.memory.proofs.PartLaws.{view-occupied}
use Rattle.runs.specs.Outcomes.{Memory, view}
use Rattle.text.specs.Text.{bytes}
use Rattle.text.proofs.PrintLaws.{decimal-short}
use Rattle.output.specs.Output.{field, end_text}

pub field-short : (v : ℕ) → length (field v) ≤ 21
field-short v = omega (arith, decimal-short v)

pub end_is : (t : Memory) (n live others peak : ℕ) → live ≡ occupied_in t.tasks.states t.tasks.small.n → others ≡ live - 2 → peak ≡ t.tasks.small.peak
    → bytes "end" ++ field n ++ field live ++ field others ++ field peak ++ bytes "\n" ≡ end_text n (view t)
unfolding end_text tasks-kind.view
end_is t n live others peak e f g = let z = e ∙ sym (view-occupied t.tasks) in rw (f, g, z)
