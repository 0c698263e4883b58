-- The test before the loop says that the table is sound, and every call leaves it so, where it lies.
use Rattle.memory.specs.Lent.{lent, Stays}
use Rattle.memory.specs.View.{Sound}
use Rattle.repeats.proofs.known.bredumalt_known_wake.Given as goal

abbrev pub invariant-loop : goal.invariant-loop
invariant-loop l = Stays l.initial.t l.t × Sound (lent l.t)
