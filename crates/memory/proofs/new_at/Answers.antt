-- A size that is not listed leaves what lay there, and any other makes a table that is not started.
use mathlib.Core.Path.{sym}
use Rattle.memory.proofs.Lent.{there}
use Rattle.memory.proofs.FreshLaws.{new-left, new-there}
use Rattle.memory.proofs.new_at.Goals as goal

pub returns-then-not-is_listed : goal.returns-then-not-is_listed
returns-then-not-is_listed c = (there c.args.t.now, new-left _ _ (sym c.if-not-is_listed.ensures))

pub returns : goal.returns
returns c = (there c.args.t.now, new-there _ _ _ (sym c.if-not-is_listed.ensures) c.new-t.ensures)
