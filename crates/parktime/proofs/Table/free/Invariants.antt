-- The entries before e: those of the task are free.
use Rattle.parktime.specs.Deadlines.{view, is_for}
use Rattle.parktime.proofs.Laws.{Emptying}
use Rattle.parktime.proofs.Table.free.Given as goal

abbrev pub invariant-loop-e : goal.invariant-loop-e
invariant-loop-e l = Emptying (is_for l.task) (view l.fn.self) l.e-index (record { entries = l.e-items })
