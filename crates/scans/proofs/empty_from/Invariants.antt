-- The loop passes slots that are not Empty.
use Rattle.scans.proofs.Laws.{Full}
use Rattle.scans.proofs.empty_from.Given as goal

abbrev pub invariant-loop-s : goal.invariant-loop-s
invariant-loop-s l = Full l.states l.from l.s
