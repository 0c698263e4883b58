-- What a new table holds. Only proofs use this.
use Rattle.std.specs.Prelude.{◌≡◌, ℕ, ◌*◌, replicate}
use Rattle.ids.specs.Id.{idle}
use Rattle.model.specs.Model.{MOST, CPUS}
use Rattle.memory.specs.declared.Small.{Small}
use Rattle.memory.specs.declared.Tasks.{Tasks}
use Rattle.memory.specs.View.{SPAN}
use Rattle.memory.specs.Lent.{whole}

pub record BlankSmall (n : ℕ) (s : Small) : Type 0 where
  pub n_is : s.n ≡ n
  pub heads : s.heads ≡ replicate CPUS 0
  pub lens : s.lens ≡ replicate CPUS 0
  pub currents : s.currents ≡ replicate CPUS idle
  pub idles : s.idles ≡ replicate CPUS idle
  pub parked : s.parked ≡ 0
  pub overwrites : s.overwrites ≡ 0
  pub events : s.block_events ≡ 0
  pub peak : s.peak ≡ 0

-- arrays of nothing but 0 beside it
abbrev pub cleared : Small → Tasks
cleared s = whole (replicate MOST 0) (replicate MOST 0) (replicate MOST 0) (replicate MOST 0) (replicate (CPUS * SPAN) 0) (replicate (CPUS * SPAN) 0) s

pub record Blank (n : ℕ) (t : Tasks) : Type 0 where
  pub small : BlankSmall n t.small
  pub arrays : t ≡ cleared t.small
