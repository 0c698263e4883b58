-- The test before the loop says that the table is sound, and every call leaves it so.
use Rattle.irqwait.specs.Waits.{Sound}
use Rattle.repeats.proofs.known.bredumalt_known_signal.Given as goal

abbrev pub invariant-loop : goal.invariant-loop
invariant-loop l = Sound l.w
