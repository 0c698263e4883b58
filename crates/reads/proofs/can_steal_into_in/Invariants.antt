-- The walk over the peer's queue: none of those passed may be stolen.
use Rattle.memory.specs.Lent.{shown}
use Rattle.reads.proofs.Walks.{Walked}
use Rattle.reads.proofs.can_steal_into_in.Given as goal

abbrev pub invariant-loop-j : goal.invariant-loop-j
invariant-loop-j l = Walked (shown l.t) l.peer l.j
