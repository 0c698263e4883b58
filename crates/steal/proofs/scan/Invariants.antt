-- Around the peer's queue: the entries that are passed go to its tail, and the loop ends at the first that may be stolen.
use Rattle.steps.proofs.Scans.{Turning}
use Rattle.memory.specs.Lent.{lent, Stays}
use Rattle.std.proofs.Common.{◌-◌}
use Rattle.steal.proofs.scan.Given as goal

abbrev pub invariant-loop-j : goal.invariant-loop-j
invariant-loop-j l = Stays l.initial.t l.t × Turning (lent l.initial.t) l.peer (lent l.t) l.head l.j

abbrev pub decreases-loop-j : goal.decreases-loop-j
decreases-loop-j l = l.len - l.j
