-- Started already, or a claim of slot 0.
use Rattle.steps.proofs.Starts.{start_again, start-done}
use Rattle.memory.proofs.Lent.{there}
use Rattle.moves.proofs.start_in.Goals as goal

pub returns-then-t-ne-EMPTY : goal.returns-then-t-ne-EMPTY
returns-then-t-ne-EMPTY c = (there c.args.t.now, start_again _ c.requires c.if-t-ne-EMPTY.true)

pub returns : goal.returns
returns c = let e = c.claim.ensures in (e.0, start-done _ c.requires _ c.if-t-ne-EMPTY.false e.1 e.2)
