-- A wake queue that is lent in its parts, the ends and the tokens: what a contract over references says of it.
use Rattle.std.specs.Prelude.{ℕ, List}
use Rattle.std.specs.Borrow.{MutBor}
use denote.Triple.Both.{Both}
use Rattle.answers.specs.Reply.{Reply}
use Rattle.answers.specs.Contract.{Step, MakesAt, Does, Meets, Answers}
use Rattle.wake.specs.declared.Ends.{Ends}
use Rattle.wake.specs.declared.WakeQueue.{WakeQueue}
use Rattle.wake.specs.Queue.{Queue, view, wakes}

abbrev pub whole : List ℕ → Ends → WakeQueue
whole tokens ends = record { ends = ends; tokens = tokens }

abbrev pub lent : MutBor (List ℕ) → Ends → WakeQueue
lent tokens ends = whole tokens.now ends

-- the contract of an inner call, and of a call of the product: tokens as they were and are, ends as they were and are
abbrev pub DoesLent : Both (MutBor (List ℕ)) (MutBor (List ℕ)) → Ends → Ends → Reply → (Queue → Step Queue) → Type 0
DoesLent tokens ends u got step = let q = lent tokens.entry ends in Does wakes q (lent tokens.exit u) got (step (view q))

abbrev pub MeetsLent : Both (MutBor (List ℕ)) (MutBor (List ℕ)) → Ends → Ends → Reply → (Queue → Step Queue) → Type 0
MeetsLent tokens ends u got step = let q = lent tokens.entry ends in Meets wakes q (lent tokens.exit u) got (step (view q))

-- of a maker: what lay there before, and what lies there now
abbrev pub MakesLent : Both (MutBor (List ℕ)) (MutBor (List ℕ)) → Ends → Ends → Reply → Step Queue → Type 0
MakesLent tokens ends u got want = MakesAt wakes (lent tokens.entry ends) (lent tokens.exit u) got want

-- of one that asks for the ends alone: whatever the tokens are
abbrev pub AnswersAny : Ends → Reply → (Queue → Reply) → Type 0
AnswersAny ends got want = (tokens : List ℕ) → let q = whole tokens ends in Answers wakes q got (want (view q))
