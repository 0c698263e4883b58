-- What the contracts of exports say beside those of the calls that they wrap: operands that crossed as numbers, and answers that are
-- one byte.
use Rattle.std.specs.Prelude.{◌≡◌, Bool, ℕ, Option}
use Rattle.lists.specs.Search.{one_if}
use Rattle.lists.specs.Tells.{Tells}
use Rattle.answers.specs.Reply.{Reply}
use Rattle.answers.specs.Contract.{Step}
use Rattle.runqueue.specs.declared.Span.{Span}
use Rattle.runqueue.specs.Ring as rings
use Rattle.runqueue.specs.Lent as ring-lent
use Rattle.model.specs.Model.{Model}
use Rattle.memory.specs.declared.Small.{Small}
use Rattle.memory.specs.View.{view, table}
use Rattle.bredumalt.specs.Arrays.{Changed, was, left}
use Rattle.numbers.specs.Operands.{MeetsNamed}

-- a byte is 1 where a statement holds, and 0 where it does not
pub record TellsByte (r : ℕ) (P : Type 0) : Type 0 where
  pub answer : Bool
  pub byte : r ≡ one_if answer
  pub tells : Tells answer P

-- a call on a lent table whose operand crossed as a number: 12 where that names nothing
abbrev pub MeetsLentNamed : Changed → Changed → Changed → Changed → Changed → Changed → Small → Small → Reply → {A : Type 0} → (A → Model → Step Model) → Option A → Type 0
MeetsLentNamed states epochs homes marks slots tenures s u got step asked =
    let t = was states epochs homes marks slots tenures s in MeetsNamed table t (left states epochs homes marks slots tenures u) got (λ a. step a (view t)) asked

abbrev pub MeetsRingNamed : ring-lent.Changed → ring-lent.Changed → Span → Span → Reply → {A : Type 0} → (A → rings.Ring → Step rings.Ring) → Option A → Type 0
MeetsRingNamed slots epochs s u got step asked =
    let q = ring-lent.lent slots.entry epochs.entry s in MeetsNamed rings.ring q (ring-lent.lent slots.exit epochs.exit u) got (λ a. step a (rings.view q)) asked
