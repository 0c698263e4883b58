-- Calls one after the other: what the model makes of them, and what their contracts admit.
use Rattle.std.specs.Prelude.{◌≡◌, Bool, List, [], ◌∷◌, map, ℕ, ◌+◌}
use Rattle.lists.specs.Search.{one_if}
use Rattle.lists.specs.Each.{Each}
use Rattle.answers.specs.Reply.{Reply, Refused}
use Rattle.answers.specs.Contract.{Kind, Step, Meets}

-- THE MODEL'S RUN

-- the replies of a list of calls, in order
unfoldable pub replies : {P C : Type 0} → (P → C → Step P) → P → List C → List Reply
replies step p [] = []
replies step p (c ∷ cs) = (step p c).reply ∷ replies step (step p c).after cs

-- the table after them
unfoldable pub left : {P C : Type 0} → (P → C → Step P) → P → List C → P
left step p [] = p
left step p (c ∷ cs) = left step (step p c).after cs

-- the table after each of them, in order
unfoldable pub trail : {P C : Type 0} → (P → C → Step P) → P → List C → List P
trail step p [] = []
trail step p (c ∷ cs) = (step p c).after ∷ trail step (step p c).after cs

-- how many of them did something, told from the table at the call, the call and its answer
unfoldable pub times : {P C : Type 0} → (P → C → Step P) → (P → C → Reply → Bool) → P → List C → ℕ
times step did p [] = 0
times step did p (c ∷ cs) = one_if (did p c (step p c).reply) + times step did (step p c).after cs

-- WHAT CONTRACTS ADMIT

-- what a call answered, and the table after it
pub record Outcome (T : Type 0) : Type 0 where
  pub reply : Reply
  pub table : T

-- outcomes that the contracts of calls admit, one after the other
unfoldable pub Admitted : {T C : Type 0} → (T → C → Reply → T → Type 0) → T → List C → List (Outcome T) → Type 0
Admitted admits t [] [] = Unit {0}
Admitted admits t [] (o ∷ os) = ⊥
Admitted admits t (c ∷ cs) [] = ⊥
Admitted admits t (c ∷ cs) (o ∷ os) = admits t c o.reply o.table × Admitted admits o.table cs os

-- the contract of a call on a table, given what the model makes of each call
abbrev pub CallMeets : (k : Kind) → {C : Type 0} → (k.Plain → C → Step k.Plain) → k.Memory → C → Reply → k.Memory → Type 0
CallMeets k step t c got u = Meets k t u got (step (k.view t) c)

-- the replies, and the tables as they are on paper
abbrev pub said : {T : Type 0} → List (Outcome T) → List Reply
said {T = T} os = map (λ (o : Outcome T). o.reply) os

abbrev pub seen : (k : Kind) → List (Outcome k.Memory) → List k.Plain
seen k os = map (λ (o : Outcome k.Memory). k.view o.table) os

-- outcomes follow the model's run from p: the replies are its replies, the tables after each call are its tables, and
-- every table on the way is sound
pub record Follows (k : Kind) {C : Type 0} (step : k.Plain → C → Step k.Plain) (p : k.Plain) (cs : List C) (os : List (Outcome k.Memory)) : Type 0 where
  pub replies_are : said os ≡ replies step p cs
  pub tables_are : seen k os ≡ trail step p cs
  pub sound : Each (λ (o : Outcome k.Memory). k.Sound o.table) os

-- each refused call has handed back the very table that it was given
unfoldable pub Kept : {T : Type 0} → T → List (Outcome T) → Type 0
Kept t [] = Unit {0}
Kept t (o ∷ os) = (Refused o.reply → o.table ≡ t) × Kept o.table os
