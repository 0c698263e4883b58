-- None of the idles before is the one.
use Rattle.scans.proofs.Laws.{NoneOf}
use Rattle.scans.proofs.is_idle.Given as goal

abbrev pub invariant-loop-i : goal.invariant-loop-i
invariant-loop-i l = NoneOf l.i-items l.id l.i-index
