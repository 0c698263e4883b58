-- What the inner functions of stealing show.
use Rattle.std.specs.Prelude.{◌≡◌, Bool, List, ◌++◌, ℕ, ◌≤◌, length, take, drop}
use Rattle.ids.specs.declared.TaskId.{TaskId}
use Rattle.model.specs.Model.{queue_of, with_queue}
use Rattle.model.specs.Switch.{loot_at, can_steal, stealing}
use Rattle.memory.specs.declared.Tasks.{Tasks}
use Rattle.memory.specs.View.{view, Rep}

-- the first j entries have gone to the tail
abbrev pub turned : ℕ → List TaskId → List TaskId
turned j q = drop j q ++ take j q

-- the peer's queue, turned to its first stealeable entry, or all the way round
pub record Scans (t : Tasks) (p : ℕ) (u : Tasks) (j : ℕ) : Type 0 where
  pub rep : Rep u
  pub place : j ≡ loot_at (view t) (queue_of (view t) p)
  pub within : j ≤ length (queue_of (view t) p)
  pub after : view u ≡ with_queue (view t) p (turned j (queue_of (view t) p))

-- a try to steal
pub record Pulls (t : Tasks) (c : ℕ) (u : Tasks) (moved : Bool) : Type 0 where
  pub rep : Rep u
  pub answer : moved ≡ can_steal (view t) c
  pub after : view u ≡ stealing (view t) c
