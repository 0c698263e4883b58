-- A task table over the C boundary: its arrays come as pointers of their own, and its small part by value. What a contract says of it.
use Rattle.std.specs.Prelude.{List, ℕ}
use Rattle.std.specs.Borrow.{Bor, MutBor}
use denote.Triple.Both.{Both}
use Rattle.answers.specs.Reply.{Reply}
use Rattle.answers.specs.Contract.{Step, MakesAt, Meets, Answers}
use Rattle.model.specs.Model.{Model}
use Rattle.memory.specs.declared.Small.{Small}
use Rattle.memory.specs.declared.Tasks.{Tasks}
use Rattle.memory.specs.View.{view, table}
use Rattle.memory.specs.Lent.{whole}

-- an array that is lent to be changed, as a call finds it; and one that is lent to be read
abbrev pub Array : Type 0
Array = MutBor (List ℕ)

abbrev pub Shown : Type 0
Shown = Bor (List ℕ)

-- and as it was and is, once the call has returned; of one that is lent to be read only what it was
abbrev pub Changed : Type 0
Changed = Both Array Array

abbrev pub Seen : Type 0 → Type 0
Seen A = Both Shown A

-- the table before the call ..
abbrev pub lent : Array → Array → Array → Array → Array → Array → Small → Tasks
lent states epochs homes marks slots tenures s = whole states.now epochs.now homes.now marks.now slots.now tenures.now s

abbrev pub shown : Shown → Shown → Shown → Shown → Shown → Shown → Small → Tasks
shown states epochs homes marks slots tenures s = whole states.now epochs.now homes.now marks.now slots.now tenures.now s

-- .. and, once it has returned, as it was ..
abbrev pub was : Changed → Changed → Changed → Changed → Changed → Changed → Small → Tasks
was states epochs homes marks slots tenures s = lent states.entry epochs.entry homes.entry marks.entry slots.entry tenures.entry s

-- .. and as it is
abbrev pub left : Changed → Changed → Changed → Changed → Changed → Changed → Small → Tasks
left states epochs homes marks slots tenures s = lent states.exit epochs.exit homes.exit marks.exit slots.exit tenures.exit s

-- one that is read stays
abbrev pub stays : {A B C D E F : Type 0} → Seen A → Seen B → Seen C → Seen D → Seen E → Seen F → Small → Tasks
stays states epochs homes marks slots tenures s = shown states.entry epochs.entry homes.entry marks.entry slots.entry tenures.entry s

-- the contract of a call of the product
abbrev pub MeetsLent : Changed → Changed → Changed → Changed → Changed → Changed → Small → Small → Reply → (Model → Step Model) → Type 0
MeetsLent states epochs homes marks slots tenures s u got step =
    let t = was states epochs homes marks slots tenures s in Meets table t (left states epochs homes marks slots tenures u) got (step (view t))

-- of a maker: what lay there before, and what lies there now
abbrev pub MakesLent : Changed → Changed → Changed → Changed → Changed → Changed → Small → Small → Reply → Step Model → Type 0
MakesLent states epochs homes marks slots tenures s u got want =
    MakesAt table (was states epochs homes marks slots tenures s) (left states epochs homes marks slots tenures u) got want

-- of a call that only reads
abbrev pub AnswersLent : {A B C D E F : Type 0} → Seen A → Seen B → Seen C → Seen D → Seen E → Seen F → Small → Reply → (Model → Reply) → Type 0
AnswersLent states epochs homes marks slots tenures s got want = let t = stays states epochs homes marks slots tenures s in Answers table t got (want (view t))
