-- Not started, no such CPU or a queue that is not empty; else the try.
use Rattle.steps.proofs.Common.{not_started, is-on}
use Rattle.steps.proofs.Tries.{try_above, try_busy, try_done}
use Rattle.model.specs.Switch.{try_steal_step}
use Rattle.memory.proofs.Lent.{there}
use Rattle.steal.proofs.try_steal_into_in.Goals.{then-c-ge-CPUS-via-then-c-ge-CPUS, then-c-ge-CPUS-via-else-c-ge-CPUS+then-t-c-ne0}
use Rattle.steal.proofs.try_steal_into_in.Goals as goal

pub returns-then-t-eq-EMPTY : goal.returns-then-t-eq-EMPTY
unfolding try_steal_step
returns-then-t-eq-EMPTY c = (there c.args.t.now, not_started _ c.requires _ c.if-t-eq-EMPTY.true)

pub returns-then-c-ge-CPUS : goal.returns-then-c-ge-CPUS
returns-then-c-ge-CPUS c = (
  there c.args.t.now,
  elim c.then-c-ge-CPUS.branch [ then-c-ge-CPUS-via-then-c-ge-CPUS w ↦ try_above _ c.args.thief c.requires c.if-t-eq-EMPTY.false w.if-c-ge-CPUS.true | then-c-ge-CPUS-via-else-c-ge-CPUS+then-t-c-ne0 w ↦ try_busy _ c.args.thief c.requires c.if-t-eq-EMPTY.false w.if-c-ge-CPUS.false w.if-t-c-ne0.true ],
)

pub pull-requires-clause-s_value : goal.pull-requires-clause-s_value
pull-requires-clause-s_value c = is-on _ c.requires c.if-t-eq-EMPTY.false

pub returns : goal.returns
returns c = let e = c.pull.ensures in (e.0, try_done _ c.args.thief c.requires c.if-t-eq-EMPTY.false _ _ e.1)
