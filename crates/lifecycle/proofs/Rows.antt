-- Verdicts on a slot with no task, on an idle, on an id that is not known and on a task that is, computed.
use Rattle.std.specs.Prelude.{◌≡◌, true, false, Some, None}
use Rattle.std.proofs.Common.{refl}
use Rattle.model.specs.Model.{EMPTY, RUNNING, BLOCKED}
use Rattle.lifecycle.specs.Verdicts.{reap_of, force_of, cancel_of, refuses, not_blocked, is_empty, is_idle, bad_id, cancels, flags_and_cancels, flags_and_nudges, marks_and_wakes}

-- a reap of an Empty slot finds it not Blocked; force finds it empty
pub empty_slot : (reap_of false (Some EMPTY) ≡ refuses not_blocked) × (force_of false (Some EMPTY) ≡ refuses is_empty)
empty_slot = (refl, refl)

-- the idle flag comes first, then whether the id is known
pub first : (reap_of true None ≡ refuses is_idle) × (force_of true (Some BLOCKED) ≡ refuses is_idle) × (reap_of false None ≡ refuses bad_id) × (force_of false None ≡ refuses bad_id)
first = (refl, refl, refl, refl)

-- a task that waits, and one that does not
pub known : (reap_of false (Some BLOCKED) ≡ cancels) × (force_of false (Some BLOCKED) ≡ flags_and_cancels) × (force_of false (Some RUNNING) ≡ flags_and_nudges) × (cancel_of (Some BLOCKED) ≡ marks_and_wakes)
known = (refl, refl, refl, refl)
