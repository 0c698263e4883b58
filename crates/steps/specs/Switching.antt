-- What stands between the parts of a switch: a CPU that is about to take a turn, and one whose current task has left.
use Rattle.std.specs.Prelude.{◌≡◌, true, false, ◌&&◌, not, ℕ, ◌<◌, get_or}
use Rattle.model.specs.Model.{CPUS, started_on}
use Rattle.model.specs.Sound as plain
use Rattle.model.specs.Switch.{Kind, is_yield, idles, leaves, pulls}
use Rattle.memory.specs.declared.Tasks.{Tasks}
use Rattle.memory.specs.View.{view, Rep, Sound}

-- a switch on a CPU that is up, of a table that is started
pub record Begun (t : Tasks) (c : ℕ) : Type 0 where
  pub sound : Sound t
  pub on : get_or t.states 0 0 ≡ 0 → ⊥
  pub low : c < CPUS
  pub up : started_on (view t) c ≡ true

-- a CPU that is about to take a turn
pub record Going (u : Tasks) (c : ℕ) (k : Kind) : Type 0 where
  pub rep : Rep u
  pub shape : plain.Shape (view u)
  pub live : plain.Live (view u)
  pub on : started_on (view u) c ≡ true
  pub may : (idles (view u) c && not (is_yield k)) ≡ false

-- the steal, if it was due, has been tried
pub record Pulled (t : Tasks) (c : ℕ) (u : Tasks) : Type 0 where
  pub rep : Rep u
  pub after : view u ≡ pulls (view t) c

-- the steal, if it was due, has been tried, and the switch goes on: by a task that is not idle, or as a yield
pub record Ready (t : Tasks) (c : ℕ) (k : Kind) (u : Tasks) : Type 0 where
  pub rep : Rep u
  pub after : view u ≡ pulls (view t) c
  pub goes : (idles (view t) c && not (is_yield k)) ≡ false

-- the current task has left
pub record Left (u : Tasks) (c : ℕ) (k : Kind) (v : Tasks) : Type 0 where
  pub rep : Rep v
  pub size : v.small.n ≡ u.small.n
  pub after : view v ≡ leaves (view u) c k
