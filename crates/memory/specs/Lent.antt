-- A table that is lent: what a contract over references says of it. The arrays and the small part may lie anywhere.
use Rattle.std.specs.Prelude.{◌≡◌, List, ℕ}
use Rattle.answers.specs.Reply.{Reply}
use Rattle.answers.specs.Contract.{Step, MakesAt, Does, Reads, Meets, Answers}
use Rattle.model.specs.Model.{Model}
use Rattle.memory.specs.declared.Small.{Small}
use Rattle.memory.specs.declared.Tasks.{Tasks}
use Rattle.memory.specs.declared.TasksMut.{TasksMut}
use Rattle.memory.specs.declared.TasksRef.{TasksRef}
use Rattle.memory.specs.View.{view, table}

-- the table from its arrays and its small part
abbrev pub whole : List ℕ → List ℕ → List ℕ → List ℕ → List ℕ → List ℕ → Small → Tasks
whole states epochs homes marks slots tenures s = record { small = s; states = states; epochs = epochs; homes = homes; marks = marks; ring_slots = slots; ring_epochs = tenures }

-- the table that stands behind references
abbrev pub lent : TasksMut → Tasks
lent t = whole t.states.now t.epochs.now t.homes.now t.marks.now t.ring_slots.now t.ring_epochs.now t.small.now

abbrev pub shown : TasksRef → Tasks
shown t = whole t.states.now t.epochs.now t.homes.now t.marks.now t.ring_slots.now t.ring_epochs.now t.small.now

-- the references are those that were handed in: what is stored through them is stored where the caller lent it
abbrev pub Stays : TasksMut → TasksMut → Type 0
Stays t u =
    (u.small.ghost_name ≡ t.small.ghost_name)
    × (u.states.ghost_name ≡ t.states.ghost_name)
    × (u.epochs.ghost_name ≡ t.epochs.ghost_name)
    × (u.homes.ghost_name ≡ t.homes.ghost_name)
    × (u.marks.ghost_name ≡ t.marks.ghost_name)
    × (u.ring_slots.ghost_name ≡ t.ring_slots.ghost_name)
    × (u.ring_epochs.ghost_name ≡ t.ring_epochs.ghost_name)

-- the contract of an inner call, and of a call of the product, from the table as it was and as it is
abbrev pub DoesLent : TasksMut → TasksMut → Reply → (Model → Step Model) → Type 0
DoesLent t u got step = Stays t u × Does table (lent t) (lent u) got (step (view (lent t)))

abbrev pub MeetsLent : TasksMut → TasksMut → Reply → (Model → Step Model) → Type 0
MeetsLent t u got step = Stays t u × Meets table (lent t) (lent u) got (step (view (lent t)))

-- of a maker: what lay there before, and what lies there now
abbrev pub MakesLent : TasksMut → TasksMut → Reply → Step Model → Type 0
MakesLent t u got want = Stays t u × MakesAt table (lent t) (lent u) got want

-- of calls that only read
abbrev pub ReadsLent : TasksRef → Reply → (Model → Reply) → Type 0
ReadsLent t got want = Reads table (shown t) got (want (view (shown t)))

abbrev pub AnswersLent : TasksRef → Reply → (Model → Reply) → Type 0
AnswersLent t got want = Answers table (shown t) got (want (view (shown t)))
