-- The walk over the entries: what it says is what it says of those from here on.
use Rattle.irqwait.specs.Waits.{waits_of}
use Rattle.irqwait.proofs.Cases.{Walked}
use Rattle.irqwait.proofs.busy.Given as goal

abbrev pub invariant-loop-e : goal.invariant-loop-e
invariant-loop-e l = Walked l.cookie.0 l.task (waits_of l.waiters) l.e-index
