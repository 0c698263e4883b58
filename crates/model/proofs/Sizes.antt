-- No call changes the number of slots.
use mathlib.Core.Path.{◌≡◌, refl, ◌∙◌}
use mathlib.Core.Bool.{Bool, true, false, ◌&&◌, not, cond}
use mathlib.Core.List.{List, [], ◌∷◌}
use Prim.Native.Nat.{ℕ}
use lib.ListN.{length}
use lib.Dec.{eqb, ltb}
use Rattle.ids.specs.declared.TaskId.{TaskId}
use Rattle.ids.specs.Id.{same_id}
use Rattle.answers.specs.Contract.{Step, refusing}
use Rattle.model.specs.Model.{Model, BLOCKED, state_of, queue_of, current_of, known, is_idle, started, started_on, free_slot}
use Rattle.model.specs.Steps.{when_started, claimed, start_step, start_cpu_step, admitted, admit_step, mark_step, woken, wake_step, collect_step}
use Rattle.model.specs.Switch.{Kind, yield, preempt, block, exit, is_yield, is_nil, idles, can_steal, stolen, stealing, try_steal_step, leaves, enters, parks, chooses, turn, pulls, switch_on, switch_step}
use Rattle.model.specs.Calls.{Call, start, start1, admit, switch, mark, steal, wake, collect, read, step}

record Sized (m x : Model) : Type 0 where
  is : x.n ≡ m.n

-- whatever a test picks
module _ (m : Model) where
  same : Sized m m
  same = record { is = refl }

  step_if : (b : Bool) (x y : Step Model) → Sized m x.after → Sized m y.after → Sized m (cond b x y).after
  step_if true x y p q = p
  step_if false x y p q = q

  model_if : (b : Bool) (x y : Model) → Sized m x → Sized m y → Sized m (cond b x y)
  model_if true x y p q = p
  model_if false x y p q = q

  then : (x y : Model) → Sized x y → Sized m x → Sized m y
  then x y p q = record { is = p.is ∙ q.is }

  stealing-size : (t : ℕ) → Sized m (stealing m t)
  unfolding stealing stolen
  stealing-size t = model_if (can_steal m t) _ _ (record { is = refl }) same

  pulls-size : (c : ℕ) → Sized m (pulls m c)
  unfolding pulls
  pulls-size c = model_if (idles m c && is_nil (queue_of m c)) _ _ (stealing-size c) same

  leaves-size : (c : ℕ) (kind : Kind) → Sized m (leaves m c kind)
  unfolding leaves
  leaves-size c yield = record { is = refl }
  leaves-size c preempt = record { is = refl }
  leaves-size c block = record { is = refl }
  leaves-size c exit = record { is = refl }

  parks-size : (kind : Kind) (id : TaskId) → Sized m (parks m kind id)
  unfolding parks
  parks-size yield id = same
  parks-size preempt id = same
  parks-size block id = same
  parks-size exit id = record { is = refl }

enters-size : (m : Model) (c : ℕ) (x : TaskId) (l : List TaskId) → Sized m (enters m c x l)
unfolding enters
enters-size m c x l = record { is = refl }

chooses-size : (m : Model) (c : ℕ) (kind : Kind) (from : TaskId) (q : List TaskId) → Sized m (chooses m c kind from q).after
unfolding chooses
chooses-size m c kind from [] = same m
chooses-size m c kind from (x ∷ l) =
    let e = enters-size m c x l in
    step_if m (same_id x from) _ _ e (then m (enters m c x l) (parks (enters m c x l) kind from) (parks-size (enters m c x l) kind from) e)

module _ (m : Model) where
  turn-size : (c : ℕ) (kind : Kind) → Sized m (turn m c kind).after
  unfolding turn
  turn-size c kind = then m (leaves m c kind) _ (chooses-size (leaves m c kind) c kind (current_of m c) (queue_of (leaves m c kind) c)) (leaves-size m c kind)

switch_on-size : (m : Model) (c : ℕ) (kind : Kind) → Sized m (switch_on m c kind).after
unfolding switch_on
switch_on-size m c kind =
    step_if m (idles m c && not (is_yield kind)) _ _ (pulls-size m c) (then m (pulls m c) _ (turn-size (pulls m c) c kind) (pulls-size m c))

module _ (m : Model) where
  started-size : (x : Step Model) → Sized m x.after → Sized m (when_started m x).after
  started-size x p = step_if m (started m) x (refusing 3 m) p (same m)

  claimed-size : (c s : ℕ) → Sized m (claimed m c s)
  unfolding claimed
  claimed-size c s = record { is = refl }

  admitted-size : (c s : ℕ) → Sized m (admitted m c s)
  unfolding admitted
  admitted-size c s = record { is = refl }

  woken-size : (id : TaskId) → Sized m (woken m id)
  unfolding woken
  woken-size id = record { is = refl }

  sized : (k : Call) → Sized m (step m k).after
  unfolding step start_step start_cpu_step admit_step mark_step wake_step collect_step try_steal_step switch_step
  sized start = step_if m (started m) _ _ (same m) (claimed-size 0 0)
  sized start1 =
      started-size _ (step_if m (started_on m 1) _ _ (same m) (step_if m (ltb (free_slot m) m.n) _ _ (claimed-size 1 (free_slot m)) (same m)))
  sized (admit c) = started-size _ (step_if m (ltb c (length m.cpus) && ltb (free_slot m) m.n) _ _ (admitted-size c (free_slot m)) (same m))
  sized (switch c kind) =
      started-size _ (step_if m (ltb c (length m.cpus)) _ _ (step_if m (started_on m c) _ _ (switch_on-size m c kind) (same m)) (same m))
  sized (mark id b) = started-size _ (step_if m (known m id && not (is_idle m id)) _ _ (record { is = refl }) (same m))
  sized (steal t) = started-size _ (stealing-size m t)
  sized (wake id) = started-size _ (step_if m (known m id && eqb (state_of m id.slot) BLOCKED) _ _ (woken-size id) (same m))
  sized collect = started-size _ (record { is = refl })
  sized (read r) = same m

  pub step-size : (k : Call) → (step m k).after.n ≡ m.n
  step-size k = (sized k).is
