-- A size that is not listed is refused, and any other makes a table that is not started.
use mathlib.Core.Path.{sym}
use Rattle.memory.proofs.FreshLaws.{new-bad, new-done}
use Rattle.memory.proofs.Tasks.new.Goals as goal

pub returns-then-not-is_listed : goal.returns-then-not-is_listed
returns-then-not-is_listed c = new-bad _ _ (sym c.if-not-is_listed.ensures) c.blank.ensures

pub returns : goal.returns
returns c = new-done _ _ (sym c.if-not-is_listed.ensures) c.blank-2.ensures
