-- `queues_fit` walks along the queues of the CPUs and notes their entries.
use Rattle.checks.proofs.WalkLaws.{walk_start, walk-on, walk-off}
use Rattle.checks.proofs.queues_fit.Goals as goal

pub loop-c-init : goal.loop-c-init
loop-c-init c = walk_start _ _ _

pub returns-then-not-queue_fits : goal.returns-then-not-queue_fits
returns-then-not-queue_fits c = walk-off _ _ _ c.loop-c.invariant c.loop-c-test.true c.queue_fits.ensures c.if-not-queue_fits.true

pub loop-c-preserved : goal.loop-c-preserved
loop-c-preserved c = walk-on _ _ c.loop-c.invariant c.queue_fits.ensures c.if-not-queue_fits.false
