-- The test before the loop says that the table is sound, and every call leaves it so.
use Rattle.parktime.specs.Deadlines.{Sound}
use Rattle.std.proofs.Common.{◌≡◌, length}
use Rattle.repeats.proofs.known.bredumalt_known_poll.Given as goal

abbrev pub invariant-loop : goal.invariant-loop
invariant-loop l = Sound l.d × (length l.out ≡ 16)
