-- `slots_fit` tells whether every slot has the note that its state asks, and counts those that are not Empty.
use Rattle.std.proofs.Common.{arith}
use Rattle.checks.proofs.LoopLaws.{summed_none, summed_more}
use Rattle.checks.proofs.slots_fit.Goals as goal

pub loop-i-init : goal.loop-i-init
loop-i-init c = summed_none _ _ _ _

pub loop-i-preserved : goal.loop-i-preserved
loop-i-preserved c = summed_more _ _ _ _ _ _ _ c.loop-i.invariant c.misfits.ensures c.flag-bad.ensures.0 c.flag-used.ensures.0 (omega (arith, c.flag-used.ensures.1))
