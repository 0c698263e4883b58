-- The test before the loop says that the queue is sound, and every call leaves it so, where it lies.
use Rattle.wake.specs.Queue.{Sound}
use Rattle.wake.specs.Lent.{whole}
use Rattle.repeats.proofs.known.bredumalt_known_push.Given as goal

abbrev pub invariant-loop : goal.invariant-loop
invariant-loop l = Sound (whole l.tokens l.ends)
