-- From the place where the loop began, with what the buffer has.
use Rattle.std.proofs.Common.{length, ◌-◌}
use Rattle.place.specs.Here.{tables_of}
use Rattle.script.proofs.Laws.{Going}
use Rattle.script.proofs.chunk.Given as goal

abbrev pub invariant-loop-here : goal.invariant-loop-here
invariant-loop-here l = Going l.input (tables_of l.initial.here) l.initial.here.number l.initial.here.at (length l.initial.out) l.out (tables_of l.here) l.here.number l.here.at l.here.used

abbrev pub decreases-loop-here : goal.decreases-loop-here
decreases-loop-here l = length l.input - l.here.at
