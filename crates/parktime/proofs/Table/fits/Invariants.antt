-- The entries before i are sound, and no later one is like them.
use Rattle.parktime.proofs.Laws.{Tested}
use Rattle.parktime.proofs.Table.fits.Given as goal

abbrev pub invariant-loop-i : goal.invariant-loop-i
invariant-loop-i l = Tested l.self l.i
