-- The entries before e: those that had come are free, and their raw ids, `count` of them, stand at the start of the output.
use Rattle.parktime.specs.Deadlines.{view}
use Rattle.parktime.proofs.PollLaws.{Polling}
use Rattle.parktime.proofs.Table.poll_in.Given as goal

abbrev pub invariant-loop-e : goal.invariant-loop-e
invariant-loop-e l = Polling (view l.fn.self) l.now l.fn.out l.e-index l.count (record { entries = l.e-items }) l.out
