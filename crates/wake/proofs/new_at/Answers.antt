-- A size that is not listed leaves what lay there, and any other makes an empty queue.
use Rattle.std.proofs.Common.{sym}
use Rattle.answers.proofs.Returns.{makes-at}
use Rattle.wake.proofs.Laws.{new-left, new-done}
use Rattle.wake.proofs.new_at.Goals as goal

pub returns-then-not-is_listed : goal.returns-then-not-is_listed
returns-then-not-is_listed c = new-left _ _ (sym c.if-not-is_listed.ensures)

pub returns : goal.returns
returns c = makes-at _ _ _ _ (new-done _ _ (sym c.if-not-is_listed.ensures) c.empty.ensures)
