-- The steps, case by case: where a task's deadline goes, and which of its two outcomes a step has.
use Rattle.std.specs.Prelude.{Some}
use mathlib.Core.Path.{◌≡◌}
use mathlib.Core.List.{List, ◌++◌}
use Prim.Native.Nat.{ℕ, ◌<◌, ◌≤◌}
use lib.ListN.{length, set, drop}
use borrow.Author.Tests.{lt-ltb, le-ltb, le-leb, lt-leb}
use Rattle.lists.specs.Search.{first_at}
use Rattle.lists.specs.Entries.{taken, freed}
use Rattle.ids.specs.declared.TaskId.{TaskId}
use Rattle.answers.specs.Reply.{done, number}
use Rattle.answers.specs.Contract.{refusing}
use Rattle.parktime.specs.Deadlines.{Deadlines, PLACES, is_for, due}
use Rattle.parktime.specs.Steps.{place_for, arm_step, due_ids, raws, poll_step}

module _ (ds : Deadlines) (id : TaskId) where
  -- a task that is armed keeps its place
  pub place_armed : (i : ℕ) → i ≡ first_at (taken (is_for id)) ds → i < length ds → i ≡ place_for id ds
  unfolding place_for
  place_armed i e h = rw (← e, lt-ltb i (length ds) h)

  module _ (at : ℕ) where
    pub arm_stores : place_for id ds < length ds
        → arm_step ds id at ≡ record { reply = done; after = set ds (place_for id ds) (Some (record { id = id; at = at })) }
    unfolding arm_step
    arm_stores h = rw (lt-ltb (place_for id ds) (length ds) h)

    pub arm-refuses : length ds ≤ place_for id ds → arm_step ds id at ≡ refusing 11 ds
    unfolding arm_step
    arm-refuses h = rw (le-ltb (place_for id ds) (length ds) h)

module _ (ds : Deadlines) (out : List ℕ) (now : ℕ) where
  pub poll_writes : PLACES ≤ length out
      → poll_step (ds, out) now
      ≡ record {
        reply = number (length (due_ids now ds));
        after = (freed (due now) ds, raws (due_ids now ds) ++ drop (length (due_ids now ds)) out);
      }
  unfolding poll_step
  poll_writes h = rw (le-leb PLACES (length out) h)

  pub poll-refuses : length out < PLACES → poll_step (ds, out) now ≡ refusing 7 (ds, out)
  unfolding poll_step
  poll-refuses h = rw (lt-leb PLACES (length out) h)
