-- A wait table that is lent in its parts, the waiters and the three arrays of the marks: what a contract over references says of it.
use Rattle.std.specs.Prelude.{List, ℕ}
use Rattle.std.specs.Borrow.{Bor, MutBor}
use denote.Triple.Both.{Both}
use Rattle.answers.specs.Reply.{Reply}
use Rattle.answers.specs.Contract.{Step, Does, Meets, Answers}
use Rattle.irqwait.specs.declared.Waiter.{Waiter}
use Rattle.irqwait.specs.declared.WaitTable.{WaitTable}
use Rattle.irqwait.specs.Waits.{Waits, view, waits}

abbrev pub whole : List ℕ → List ℕ → List ℕ → List Waiter → WaitTable
whole pending slots epochs ws = record { waiters = ws; pending = pending; pending_slots = slots; pending_epochs = epochs }

abbrev pub lent : MutBor (List ℕ) → MutBor (List ℕ) → MutBor (List ℕ) → List Waiter → WaitTable
lent pending slots epochs ws = whole pending.now slots.now epochs.now ws

abbrev pub Changed : Type 0
Changed = Both (MutBor (List ℕ)) (MutBor (List ℕ))

abbrev pub was : Changed → Changed → Changed → List Waiter → WaitTable
was pending slots epochs ws = lent pending.entry slots.entry epochs.entry ws

-- the contract of an inner call, and of a call of the product: marks as they were and are, waiters as they were and are
abbrev pub DoesLent : Changed → Changed → Changed → List Waiter → List Waiter → Reply → (Waits → Step Waits) → Type 0
DoesLent pending slots epochs ws u got step =
    let t = was pending slots epochs ws in Does waits t (lent pending.exit slots.exit epochs.exit u) got (step (view t))

abbrev pub MeetsLent : Changed → Changed → Changed → List Waiter → List Waiter → Reply → (Waits → Step Waits) → Type 0
MeetsLent pending slots epochs ws u got step =
    let t = was pending slots epochs ws in Meets waits t (lent pending.exit slots.exit epochs.exit u) got (step (view t))

-- of a call that only reads
abbrev pub AnswersLent : {A B C : Type 0} → Both (Bor (List ℕ)) A → Both (Bor (List ℕ)) B → Both (Bor (List ℕ)) C → List Waiter → Reply → (Waits → Reply) → Type 0
AnswersLent pending slots epochs ws got want = let t = whole pending.entry.now slots.entry.now epochs.entry.now ws in Answers waits t got (want (view t))
