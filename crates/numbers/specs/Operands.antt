-- Operands and verdicts as they cross the C boundary, where no enum can.
use Rattle.std.specs.Prelude.{◌≡◌, Bool, true, false, cond, ℕ, eqb, ltb, Option, Some, None}
use Rattle.ids.specs.declared.TaskId.{TaskId}
use Rattle.answers.specs.Reply.{Reply, refused}
use Rattle.answers.specs.Contract.{Kind, Step, Meets}
use Rattle.model.specs.Switch as plain
use Rattle.model.specs.Switch.{yield, preempt, block, exit}
use Rattle.lifecycle.specs.Verdicts.{Reason, is_idle, bad_id, not_blocked, is_empty, Verdict, refuses, cancels, flags_and_cancels, flags_and_nudges, marks_and_wakes, nothing}

-- 0 to 3 name a kind of switch, and no other number does
abbrev pub kind_named : ℕ → Option plain.Kind
kind_named n = cond (eqb n 0) (Some yield) (cond (eqb n 1) (Some preempt) (cond (eqb n 2) (Some block) (cond (eqb n 3) (Some exit) None)))

-- 0 is false, 1 is true, and no other byte names a flag
abbrev pub flag_named : ℕ → Option Bool
flag_named n = cond (eqb n 0) (Some false) (cond (eqb n 1) (Some true) None)

-- 0 to 3 are the codes of the states; any other number stands for an id that is not known
abbrev pub state_named : ℕ → Option ℕ
state_named n = cond (ltb n 4) (Some n) None

-- an id that may be absent: a flag, and the id where the flag is set
abbrev pub id_if : Bool → TaskId → Option TaskId
id_if b id = cond b (Some id) None

-- A number that names nothing leaves no call to make: it is refused with 12, whatever the table, and the table is as given. Else it
-- is the call.
abbrev pub MeetsNamed : (k : Kind) → k.Memory → k.Memory → Reply → {A : Type 0} → (A → Step k.Plain) → Option A → Type 0
MeetsNamed k t u got step None = (got ≡ refused 12) × (u ≡ t)
MeetsNamed k t u got step (Some a) = Meets k t u got (step a)

-- 0 to 4: what is to be done; 5 to 8: why it is refused; 12 where the flag that was asked with names none
abbrev pub reason_no : Reason → ℕ
reason_no is_idle = 5
reason_no bad_id = 6
reason_no not_blocked = 7
reason_no is_empty = 8

abbrev pub verdict_no : Verdict → ℕ
verdict_no nothing = 0
verdict_no cancels = 1
verdict_no flags_and_cancels = 2
verdict_no flags_and_nudges = 3
verdict_no marks_and_wakes = 4
verdict_no (refuses r) = reason_no r

abbrev pub verdict_if : (Bool → Verdict) → Option Bool → ℕ
verdict_if v None = 12
verdict_if v (Some b) = verdict_no (v b)
