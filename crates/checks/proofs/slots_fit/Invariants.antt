-- `slots_fit` tells whether every slot has the note that its state asks, and counts those that are not Empty.
use Rattle.checks.proofs.LoopLaws.{Summed}
use Rattle.checks.proofs.slots_fit.Given as goal

abbrev pub invariant-loop-i : goal.invariant-loop-i
invariant-loop-i l = Summed l.t.states.now l.t.homes.now l.t.marks.now l.want l.i l.bad l.used
