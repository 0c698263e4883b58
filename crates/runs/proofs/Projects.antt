-- The task table that calls on the four tables leave is the one that those on the task table leave, and likewise the wake queue. So
-- what is proved of a table after calls on it (its counters; `drops` here) holds after calls on all four.
use Rattle.std.proofs.Common.{◌≡◌, ℕ, ◌%◌, List, [], ◌∷◌, refl, ap, ◌∙◌}
use Rattle.answers.specs.Run.{left}
use Rattle.model.specs.Calls as task
use Rattle.parktime.specs.Calls as deadline
use Rattle.wake.specs.Steps as tokens
use Rattle.wake.specs.Calls as token
use Rattle.wake.specs.History.{failures}
use Rattle.wake.proofs.Drops.{drops-fresh}
use Rattle.runs.specs.Tables.{Tables, Call, on_tasks, on_waits, on_deadlines, on_wakes, fresh, task_calls, wake_calls, deadline_step, step}

beside_deadlines : (t : Tables) (k : deadline.Call) → ((deadline_step t k).after.tasks ≡ t.tasks) × ((deadline_step t k).after.wakes ≡ t.wakes)
beside_deadlines t (deadline.arm id at) = (refl, refl)
beside_deadlines t (deadline.disarm id) = (refl, refl)
beside_deadlines t (deadline.poll now out) = (refl, refl)

pub tasks-run : (t : Tables) (ks : List Call) → (left step t ks).tasks ≡ left task.step t.tasks (task_calls ks)
unfolding left step task_calls
tasks-run t [] = refl
tasks-run t (on_tasks k ∷ ks) = tasks-run (step t (on_tasks k)).after ks
tasks-run t (on_waits k ∷ ks) = tasks-run (step t (on_waits k)).after ks
tasks-run t (on_deadlines k ∷ ks) = tasks-run (step t (on_deadlines k)).after ks ∙ ap (λ m. left task.step m (task_calls ks)) (beside_deadlines t k).0
tasks-run t (on_wakes k ∷ ks) = tasks-run (step t (on_wakes k)).after ks

pub wakes-run : (t : Tables) (ks : List Call) → (left step t ks).wakes ≡ left token.step t.wakes (wake_calls ks)
unfolding left step wake_calls
wakes-run t [] = refl
wakes-run t (on_tasks k ∷ ks) = wakes-run (step t (on_tasks k)).after ks
wakes-run t (on_waits k ∷ ks) = wakes-run (step t (on_waits k)).after ks
wakes-run t (on_deadlines k ∷ ks) = wakes-run (step t (on_deadlines k)).after ks ∙ ap (λ q. left token.step q (wake_calls ks)) (beside_deadlines t k).1
wakes-run t (on_wakes k ∷ ks) = wakes-run (step t (on_wakes k)).after ks

-- drops are the failed pushes of the run, modulo 2^32
pub drops-run : (n c : ℕ) (ks : List Call) → (left step (fresh n c) ks).wakes.drops ≡ failures (tokens.fresh c) (wake_calls ks) % tokens.DROPS
drops-run n c ks = ap (λ q. q.drops) (wakes-run (fresh n c) ks) ∙ drops-fresh c (wake_calls ks)
