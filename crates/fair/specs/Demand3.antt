-- Demand 3, as it is true: from any sound, started table, for a task X that waits on CPU c with k entries ahead, over any calls.
use Rattle.std.specs.Prelude.{◌≡◌, true, List, [], ◌∷◌, ◌⊎◌, ℕ, ◌+◌, ◌≤◌, ◌<◌, min, take, None}
use Rattle.ids.specs.declared.TaskId.{TaskId}
use Rattle.answers.specs.Reply.{switched}
use Rattle.answers.specs.Run.{left}
use Rattle.model.specs.Model.{Model, queue_of, current_of}
use Rattle.model.specs.Sound.{occ}
use Rattle.model.specs.Switch.{stealing}
use Rattle.model.specs.Calls.{Call, step}
use Rattle.fair.specs.Fair.{still, chosen, stolen, waits, ahead, watch, bound}

pub record Fair (m : Model) (c : ℕ) (x : TaskId) (ks : List Call) : Type 0 where
  -- while X is neither chosen nor stolen it waits, and turns so far + its place <= k + m (N - 3)
  pub waiting : (watch m c x ks).end ≡ still
      → (waits (left step m ks) c x ≡ true) × ((watch m c x ks).turns + ahead (left step m ks) c x ≤ bound m.n (ahead m c x) (watch m c x ks).steals)
  -- chosen by turn k + 1 + m (N - 3) at the latest ..
  pub chosen_by : (watch m c x ks).end ≡ chosen → (watch m c x ks).turns ≤ bound m.n (ahead m c x) (watch m c x ks).steals + 1
  -- .. when that many come, unless it is stolen
  pub comes : ((watch m c x ks).end ≡ stolen → ⊥) → bound m.n (ahead m c x) (watch m c x ks).steals < (watch m c x ks).turns → (watch m c x ks).end ≡ chosen
  -- with m = 0 at exactly turn k + 1 ..
  pub exact : (watch m c x ks).steals ≡ 0 → (watch m c x ks).end ≡ chosen → (watch m c x ks).turns ≡ ahead m c x + 1
  -- .. and before it, also while it waits still, those who stood ahead, in order, one at each turn ..
  pub in_order : (watch m c x ks).steals ≡ 0 → (watch m c x ks).others ≡ take (min (watch m c x ks).turns (ahead m c x)) (queue_of m c)
  -- .. so nobody is chosen twice there before it
  pub once : (watch m c x ks).steals ≡ 0 → (i : ℕ) → occ i (watch m c x ks).others ≤ 1

-- a call stole X for CPU t: X is first in the queue there at the moment of the steal, and after the call, or that call, a
-- yield, has chosen it there
pub record StolenFirst (m : Model) (k : Call) (t : ℕ) (x : TaskId) : Type 0 where
  pub first : queue_of (stealing m t) t ≡ x ∷ []
  pub after : (queue_of (step m k).after t ≡ x ∷ []) ⊎ ((step m k).reply ≡ switched (current_of m t) x None)
