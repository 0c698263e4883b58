-- What any call can answer, on paper. Document 01, "Numbers a call can refuse with": a refusal is its number.
use Rattle.std.specs.Prelude.{Bool, true, false, ℕ, Option, Some, None}
use Rattle.ids.specs.declared.TaskId.{TaskId}

pub data Reply : Type 0 where
  refused : ℕ → Reply
  -- the call gives nothing
  done : Reply
  -- true or false
  told : Bool → Reply
  -- a count, a size, a counter
  number : ℕ → Reply
  -- a task, or none
  named : Option TaskId → Reply
  -- a token, a CPU, a state, or none
  value : Option ℕ → Reply
  -- a switch: keep running, or from whom to whom, and whose stack to release
  stays : Reply
  switched : TaskId → TaskId → Option TaskId → Reply

-- the call refused
abbrev pub is_refused : Reply → Bool
is_refused (refused n) = true
is_refused done = false
is_refused (told b) = false
is_refused (number n) = false
is_refused (named i) = false
is_refused (value v) = false
is_refused stays = false
is_refused (switched a b c) = false

-- a test that came out true, as a statement
abbrev pub So : Bool → Type 0
So true = Unit {0}
So false = ⊥

abbrev pub Refused : Reply → Type 0
Refused r = So (is_refused r)

-- WHAT AN ANSWER GIVES, for whoever asks for one kind of answer alone: a test, a task, a switch

abbrev pub told_by : Reply → Option Bool
told_by (refused n) = None
told_by done = None
told_by (told b) = Some b
told_by (number n) = None
told_by (named i) = None
told_by (value v) = None
told_by stays = None
told_by (switched a b c) = None

abbrev pub named_by : Reply → Option TaskId
named_by (refused n) = None
named_by done = None
named_by (told b) = None
named_by (number n) = None
named_by (named i) = i
named_by (value v) = None
named_by stays = None
named_by (switched a b c) = None

-- a switch that took place: whose turn ended, who runs, and whose stack is to be released
pub record Switched : Type 0 where
  pub from : TaskId
  pub to : TaskId
  pub release : Option TaskId

abbrev pub switched_by : Reply → Option Switched
switched_by (refused n) = None
switched_by done = None
switched_by (told b) = None
switched_by (number n) = None
switched_by (named i) = None
switched_by (value v) = None
switched_by stays = None
switched_by (switched a b c) = Some (record { from = a; to = b; release = c })
