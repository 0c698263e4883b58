-- The one shape of every contract. A call is judged by the model's answer and the model's table after it, and a refusal
-- by the table itself: it comes back exactly as it was given.
use Rattle.std.specs.Prelude.{◌≡◌, List, ℕ}
use Rattle.answers.specs.Reply.{Reply, refused, Refused}

-- A kind of table: what it is in memory, what it is on paper, when it is sound, and what of it is compared. Two tables
-- that document 01 counts as equal are tables with equal views. What a view leaves out (where a ring starts, what unused
-- places hold) is the one thing that a contract leaves open.
pub record Kind : Type 1 where
  pub Memory : Type 0
  pub Plain : Type 0
  pub Sound : Memory → Type 0
  pub view : Memory → Plain

-- what the model says of a call: the answer, and the table after it
pub record Step (P : Type 0) : Type 0 where
  pub reply : Reply
  pub after : P

-- a call that refuses leaves the table
abbrev pub refusing : {P : Type 0} → ℕ → P → Step P
refusing n p = record { reply = refused n; after = p }

-- the step of a table that is part of another, as a step of the whole
abbrev pub put : {P Q : Type 0} → (P → Q) → Step P → Step Q
put into s = record { reply = s.reply; after = into s.after }

-- a call that makes a table: the answer and the table are the model's, and the table is sound
pub record Makes (k : Kind) (u : k.Memory) (got : Reply) (want : Step k.Plain) : Type 0 where
  pub reply : got ≡ want.reply
  pub after : k.view u ≡ want.after
  pub sound : k.Sound u

-- a maker that is lent the place for its table: it makes the table there, or refuses and leaves what lay there
pub record MakesAt (k : Kind) (t u : k.Memory) (got : Reply) (want : Step k.Plain) : Type 0 where
  pub reply : got ≡ want.reply
  pub made : (Refused got → ⊥) → Makes k u got want
  pub kept : Refused got → u ≡ t

-- an inner call, for callers that hold soundness: it never answers 1, and a refusal hands the table back as given
pub record Does (k : Kind) (t u : k.Memory) (got : Reply) (want : Step k.Plain) : Type 0 where
  pub fine : got ≡ refused 1 → ⊥
  pub makes : Makes k u got want
  pub kept : Refused got → u ≡ t

-- an inner call that only reads: the table stays with the caller
abbrev pub Reads : (k : Kind) → k.Memory → Reply → Reply → Type 0
Reads k t got want = Does k t t got (record { reply = want; after = k.view t })

-- a call of the product, on any table whatever: it answers 1 exactly when the table is not sound
pub record Meets (k : Kind) (t u : k.Memory) (got : Reply) (want : Step k.Plain) : Type 0 where
  pub bad : got ≡ refused 1 → (k.Sound t → ⊥) × (u ≡ t)
  pub good : (got ≡ refused 1 → ⊥) → k.Sound t × Does k t u got want

-- likewise for a call that only reads
abbrev pub Answers : (k : Kind) → k.Memory → Reply → Reply → Type 0
Answers k t got want = Meets k t t got (record { reply = want; after = k.view t })

-- a table with a lent buffer beside it: both are compared, and a refusal leaves both
abbrev pub lent : Kind → Kind
lent k =
    record {
      Memory = k.Memory × List ℕ;
      Plain = k.Plain × List ℕ;
      Sound = λ p. k.Sound p.0;
      view = λ p. (k.view p.0, p.1);
    }
