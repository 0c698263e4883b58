-- Every call keeps the deadlines sound, on paper: sixteen places, and no task with two deadlines.
use Rattle.std.specs.Prelude.{Option, Some, None}
use mathlib.Core.Path.{◌≡◌, refl, ◌∙◌}
use mathlib.Core.Bool.{Bool, true}
use mathlib.Core.Logic.{⊎_elim}
use mathlib.Core.List.{List}
use Prim.Native.Nat.{ℕ, ◌<◌, ◌≤◌}
use native.Mathlib.Omega.{arith}
use lib.ListN.{length, get_or, length-set, length-replicate}
use Rattle.lists.specs.Search.{first_at}
use Rattle.lists.specs.Entries.{taken, freed, alike}
use Rattle.lists.proofs.Basics.{lt_or_ge, not_both}
use Rattle.lists.proofs.SearchLaws.{first_is, first-none}
use Rattle.lists.proofs.EntriesLaws.{distinct_put, distinct_fresh, distinct_freed, length-freed, alike_found}
use Rattle.ids.specs.declared.TaskId.{TaskId}
use Rattle.ids.proofs.IdLaws.{same_eq, same_self}
use Rattle.parktime.specs.Deadlines.{Deadline, Deadlines, PLACES, is_for, due, same_task, SoundDeadlines}
use Rattle.parktime.specs.Steps.{new_step, place_for, arm_step, disarm_step, poll_step}
use Rattle.parktime.specs.Calls.{Call, arm, disarm, poll, step}
use Rattle.parktime.proofs.Cases.{place_armed, arm_stores, arm-refuses, poll_writes, poll-refuses}

-- an entry is like d where it is for d's task, whichever of the two comes first
pub alike-some : (d : Deadline) (e : Option Deadline) → alike same_task (Some d) e ≡ taken (is_for d.id) e
alike-some d None = refl
alike-some d (Some x) = refl

alike_for : (e : Option Deadline) (d : Deadline) → alike same_task e (Some d) ≡ true → taken (is_for d.id) e ≡ true
alike_for None d h = absurd (not_both h refl)
alike_for (Some x) d h = rw (same_eq d.id x.id h) (same_self x.id)

-- two entries for one task are alike
for_alike : (e f : Option Deadline) (id : TaskId) → taken (is_for id) e ≡ true → taken (is_for id) f ≡ true → alike same_task e f ≡ true
for_alike None f id h k = absurd (not_both h refl)
for_alike (Some x) f id h k = alike-some x f ∙ rw (same_eq x.id id h) k

pub new_keeps : SoundDeadlines new_step.after
new_keeps = record { places = length-replicate {A = Option Deadline} PLACES None; ids = distinct_fresh same_task PLACES }

module _ (ds : Deadlines) (s : SoundDeadlines ds) where
  -- no place but its own is a task's
  lone : (id : TaskId) (i : ℕ) → i < length ds → (i ≡ place_for id ds → ⊥) → taken (is_for id) (get_or ds i None) ≡ true → ⊥
  lone id i il ne h = go (first_at (taken (is_for id)) ds) refl
    where
      go : (k : ℕ) → k ≡ first_at (taken (is_for id)) ds → ⊥
      go k e =
          ⊎_elim
          (λ (l : k < length ds).
          let at = place_armed ds id k e l in
          let is : taken (is_for id) (get_or ds k None) ≡ true = rw e (first_is (taken (is_for id)) ds None (omega arith)) in
          ⊎_elim
          (λ (b : i < k). alike_found same_task ds i k b l (for_alike (get_or ds i None) (get_or ds k None) id h is) s.ids)
          (λ (g : k ≤ i). alike_found same_task ds k i (omega arith) il (for_alike (get_or ds k None) (get_or ds i None) id is h) s.ids)
          (lt_or_ge i k))
          (λ (g : length ds ≤ k). not_both h (first-none (taken (is_for id)) ds None (omega arith) i il))
          (lt_or_ge k (length ds))

  pub arm_keeps : (id : TaskId) (at : ℕ) → SoundDeadlines (arm_step ds id at).after
  arm_keeps id at =
      ⊎_elim
      (λ (l : place_for id ds < length ds).
      rw (arm_stores ds id at l)
      (record {
        places = length-set ds (place_for id ds) (Some (record { id = id; at = at })) ∙ s.places;
        ids = distinct_put same_task ds (place_for id ds) (record { id = id; at = at }) s.ids
            (λ i il ne. (λ h. lone id i il ne (alike_for (get_or ds i None) (record { id = id; at = at }) h), λ h. lone id i il ne (rw alike-some at h)));
      }))
      (λ (g : length ds ≤ place_for id ds). rw (arm-refuses ds id at g) s)
      (lt_or_ge (place_for id ds) (length ds))

  freed_keeps : (p : Deadline → Bool) → SoundDeadlines (freed p ds)
  freed_keeps p = record { places = length-freed p ds ∙ s.places; ids = distinct_freed p same_task ds s.ids }

  pub disarm_keeps : (id : TaskId) → SoundDeadlines (disarm_step ds id).after
  unfolding disarm_step
  disarm_keeps id = freed_keeps (is_for id)

  pub poll_keeps : (out : List ℕ) (now : ℕ) → SoundDeadlines (poll_step (ds, out) now).after.0
  poll_keeps out now =
      ⊎_elim
      (λ (l : length out < PLACES). rw (poll-refuses ds out now l) s)
      (λ (g : PLACES ≤ length out). rw (poll_writes ds out now g) (freed_keeps (due now)))
      (lt_or_ge (length out) PLACES)

  pub step_keeps : (c : Call) → SoundDeadlines (step ds c).after
  unfolding step
  step_keeps (arm id at) = arm_keeps id at
  step_keeps (disarm id) = disarm_keeps id
  step_keeps (poll now out) = poll_keeps out now
