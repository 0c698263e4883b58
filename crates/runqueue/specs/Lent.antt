-- A ring whose entries are lent, beside its span: what a contract over references says of it.
use Rattle.std.specs.Prelude.{List, ℕ}
use Rattle.std.specs.Borrow.{Bor, MutBor}
use denote.Triple.Both.{Both}
use Rattle.answers.specs.Reply.{Reply}
use Rattle.answers.specs.Contract.{Step, MakesAt, Does, Meets, Answers}
use Rattle.runqueue.specs.declared.Span.{Span}
use Rattle.runqueue.specs.declared.RunQueue.{RunQueue}
use Rattle.runqueue.specs.Ring.{Ring, view, ring}

abbrev pub whole : List ℕ → List ℕ → Span → RunQueue
whole slots epochs span = record { span = span; slots = slots; epochs = epochs }

abbrev pub lent : MutBor (List ℕ) → MutBor (List ℕ) → Span → RunQueue
lent slots epochs span = whole slots.now epochs.now span

abbrev pub Changed : Type 0
Changed = Both (MutBor (List ℕ)) (MutBor (List ℕ))

-- the contract of an inner call, and of a call of the product: entries as they were and are, spans as they were and are
abbrev pub DoesLent : Changed → Changed → Span → Span → Reply → (Ring → Step Ring) → Type 0
DoesLent slots epochs span u got step = let q = lent slots.entry epochs.entry span in Does ring q (lent slots.exit epochs.exit u) got (step (view q))

abbrev pub MeetsLent : Changed → Changed → Span → Span → Reply → (Ring → Step Ring) → Type 0
MeetsLent slots epochs span u got step = let q = lent slots.entry epochs.entry span in Meets ring q (lent slots.exit epochs.exit u) got (step (view q))

-- of a maker: what lay there before, and what lies there now
abbrev pub MakesLent : Changed → Changed → Span → Span → Reply → Step Ring → Type 0
MakesLent slots epochs span u got want = MakesAt ring (lent slots.entry epochs.entry span) (lent slots.exit epochs.exit u) got want

-- of a call that only reads
abbrev pub AnswersLent : {A B : Type 0} → Both (Bor (List ℕ)) A → Both (Bor (List ℕ)) B → Span → Reply → (Ring → Reply) → Type 0
AnswersLent slots epochs span got want = let q = whole slots.entry.now epochs.entry.now span in Answers ring q got (want (view q))

-- of one that asks for the span alone: whatever the entries are
abbrev pub AnswersAny : Span → Reply → (Ring → Reply) → Type 0
AnswersAny span got want = (slots epochs : List ℕ) → let q = whole slots epochs span in Answers ring q got (want (view q))
