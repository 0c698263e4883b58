-- Not started, nothing parked; else the parked id goes.
use Rattle.std.proofs.Common.{refl}
use Rattle.steps.proofs.Common.{not_started}
use Rattle.steps.proofs.Marks.{collect-none, collect-done}
use Rattle.model.specs.Steps.{collect_step}
use Rattle.memory.proofs.Lent.{there}
use Rattle.moves.proofs.collect_in.Goals as goal

pub returns-then-t-eq-EMPTY : goal.returns-then-t-eq-EMPTY
unfolding collect_step
returns-then-t-eq-EMPTY c = (there c.args.t.now, not_started _ c.requires _ c.if-t-eq-EMPTY.true)

pub returns-then-t-eq0 : goal.returns-then-t-eq0
returns-then-t-eq0 c = (there c.args.t.now, collect-none _ c.requires c.if-t-eq-EMPTY.false c.if-t-eq0.true)

pub returns : goal.returns
returns c = (there c.args.t.now, collect-done _ c.requires c.if-t-eq-EMPTY.false _ c.if-t-eq0.false refl)
