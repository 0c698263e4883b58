-- No more is counted as read than the buffer takes.
use Rattle.std.proofs.Common.{length, ◌-◌, ◌≤◌, ◌≡◌}
use Rattle.events.proofs.read_input.Given as goal

abbrev pub invariant-loop-n : goal.invariant-loop-n
invariant-loop-n l = (l.n ≤ length l.buf) × (length l.buf ≡ length l.initial.buf)

abbrev pub decreases-loop-n : goal.decreases-loop-n
decreases-loop-n l = length l.initial.buf - l.n
