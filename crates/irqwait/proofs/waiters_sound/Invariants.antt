-- The test of the waiters, entry by entry: its flag, and a live one against all that come after it.
use Rattle.irqwait.proofs.Laws.{Tested}
use Rattle.irqwait.proofs.waiters_sound.Given as goal

abbrev pub invariant-loop-i : goal.invariant-loop-i
invariant-loop-i l = Tested l.waiters l.i
