-- A size that is not listed is refused, and any other makes an empty ring.
use mathlib.Core.Path.{sym}
use Rattle.runqueue.proofs.Laws.{new-bad, new-done}
use Rattle.runqueue.proofs.RunQueue.new.Goals as goal

pub returns-then-not-is_listed : goal.returns-then-not-is_listed
returns-then-not-is_listed c = new-bad _ _ (sym c.if-not-is_listed.ensures) c.empty.ensures

pub returns : goal.returns
returns c = new-done _ _ (sym c.if-not-is_listed.ensures) c.empty-2.ensures
