-- What a supervisor may do to a task, by its state's code, or none where its id is not known.
use Rattle.std.specs.Prelude.{Bool, cond, ℕ, eqb, Option, Some, None, Result, Ok, Err}
use Rattle.model.specs.Model.{EMPTY, BLOCKED}
use Rattle.lifecycle.specs.declared.ReapError as reap-error
use Rattle.lifecycle.specs.declared.ReapError.TheVariants as reap-error-of
use Rattle.lifecycle.specs.declared.ForceError as force-error
use Rattle.lifecycle.specs.declared.ForceError.TheVariants as force-error-of
use Rattle.lifecycle.specs.declared.Forced as forced
use Rattle.lifecycle.specs.declared.Forced.TheVariants as forced-of
use Rattle.lifecycle.specs.declared.CancelVerdict as cancel-verdict
use Rattle.lifecycle.specs.declared.CancelVerdict.TheVariants as cancel-verdict-of

pub data Reason : Type 0 where
  is_idle bad_id not_blocked is_empty : Reason

pub data Verdict : Type 0 where
  refuses : Reason → Verdict
  -- its wait is cancelled
  cancels : Verdict
  -- it is flagged to end, and its wait is cancelled, or its CPU is told
  flags_and_cancels flags_and_nudges : Verdict
  -- its wait is marked as cancelled and it is woken, or nothing is done
  marks_and_wakes nothing : Verdict

-- a task that is known ends by a reap just when it is Blocked
abbrev pub reap_known : Option ℕ → Verdict
reap_known None = refuses bad_id
reap_known (Some s) = cond (eqb s BLOCKED) cancels (refuses not_blocked)

abbrev pub reap_of : Bool → Option ℕ → Verdict
reap_of idle s = cond idle (refuses is_idle) (reap_known s)

-- and by force in every state but Empty
abbrev pub force_known : Option ℕ → Verdict
force_known None = refuses bad_id
force_known (Some s) = cond (eqb s EMPTY) (refuses is_empty) (cond (eqb s BLOCKED) flags_and_cancels flags_and_nudges)

abbrev pub force_of : Bool → Option ℕ → Verdict
force_of idle s = cond idle (refuses is_idle) (force_known s)

abbrev pub cancel_of : Option ℕ → Verdict
cancel_of None = nothing
cancel_of (Some s) = cond (eqb s BLOCKED) marks_and_wakes nothing

-- WHAT THE CODE ANSWERS

abbrev pub reap_reason : reap-error.ReapError → Reason
reap_reason reap-error-of.Idle = is_idle
reap_reason reap-error-of.BadId = bad_id
reap_reason reap-error-of.NotBlocked = not_blocked

abbrev pub force_reason : force-error.ForceError → Reason
force_reason force-error-of.Idle = is_idle
force_reason force-error-of.BadId = bad_id
force_reason force-error-of.Empty = is_empty

abbrev pub reap_verdict : Result (Unit {0}) reap-error.ReapError → Verdict
reap_verdict (Ok u) = cancels
reap_verdict (Err e) = refuses (reap_reason e)

abbrev pub forced_verdict : forced.Forced → Verdict
forced_verdict forced-of.FlagAndCancel = flags_and_cancels
forced_verdict forced-of.FlagAndNudge = flags_and_nudges

abbrev pub force_verdict : Result forced.Forced force-error.ForceError → Verdict
force_verdict (Ok f) = forced_verdict f
force_verdict (Err e) = refuses (force_reason e)

abbrev pub cancel_verdict : cancel-verdict.CancelVerdict → Verdict
cancel_verdict cancel-verdict-of.MarkAndWake = marks_and_wakes
cancel_verdict cancel-verdict-of.Refuse = nothing
