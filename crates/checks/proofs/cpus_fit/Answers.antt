-- `cpus_fit` walks along the CPUs and notes their currents.
use Rattle.checks.proofs.WalkLaws.{walk_start, walk-on, walk-off}
use Rattle.checks.proofs.cpus_fit.Goals as goal

pub loop-c-init : goal.loop-c-init
loop-c-init c = walk_start _ _ _

pub returns-then-not-cpu_fits : goal.returns-then-not-cpu_fits
returns-then-not-cpu_fits c = walk-off _ _ _ c.loop-c.invariant c.loop-c-test.true c.cpu_fits.ensures c.if-not-cpu_fits.true

pub loop-c-preserved : goal.loop-c-preserved
loop-c-preserved c = walk-on _ _ c.loop-c.invariant c.cpu_fits.ensures c.if-not-cpu_fits.false
