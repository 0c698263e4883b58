-- The stores of a claim.
use Rattle.std.proofs.Common.{refl}
use Rattle.steps.proofs.Starts.{claim-done}
use Rattle.memory.proofs.Lent.{there}
use Rattle.moves.proofs.claim.Goals as goal

pub returns : goal.returns
returns c =
    let e = claim-done _ c.args.cpu c.args.i _ _ _ _ _ c.requires.rep c.requires.cpu_bound c.requires.i_lt_n refl refl refl refl c.peak_with-t.ensures in
    (there c.args.t.now, e.0, e.1, e.2)
