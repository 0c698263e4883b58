-- A size that is not listed is refused, and any other makes an empty queue.
use Rattle.std.proofs.Common.{sym}
use Rattle.wake.proofs.Laws.{new-bad, new-done}
use Rattle.wake.proofs.WakeQueue.new.Goals as goal

pub returns-then-is_listed : goal.returns-then-is_listed
returns-then-is_listed c = new-done _ _ (sym c.if-is_listed.ensures) c.empty.ensures

pub returns-else-is_listed : goal.returns-else-is_listed
returns-else-is_listed c = new-bad _ _ (sym c.if-is_listed.ensures) c.empty-else-is_listed.ensures
