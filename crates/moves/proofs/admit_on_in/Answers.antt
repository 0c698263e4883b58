-- Not started, no such CPU, no free slot; else the stores of an admission.
use Rattle.std.proofs.Common.{arith, refl}
use Rattle.steps.proofs.Common.{not_started}
use Rattle.steps.proofs.Admits.{admit_above, admit-none, admit-done}
use Rattle.model.specs.Steps.{admit_step}
use Rattle.memory.proofs.Lent.{there}
use Rattle.moves.proofs.admit_on_in.Goals as goal

pub returns-then-t-eq-EMPTY : goal.returns-then-t-eq-EMPTY
unfolding admit_step
returns-then-t-eq-EMPTY c = (there c.args.t.now, not_started _ c.requires _ c.if-t-eq-EMPTY.true)

pub returns-then-c-ge-CPUS : goal.returns-then-c-ge-CPUS
returns-then-c-ge-CPUS c = (there c.args.t.now, admit_above _ c.args.cpu c.requires c.if-t-eq-EMPTY.false c.if-c-ge-CPUS.true)

pub returns-in_default : goal.returns-in_default
returns-in_default c = (
  there c.args.t.now,
  admit-none _ c.args.cpu c.requires c.if-t-eq-EMPTY.false _ c.if-c-ge-CPUS.false c.in_default.ensures.lowest (omega arith),
)

pub returns : goal.returns
returns c = (
  there c.args.t.now,
  admit-done _ c.args.cpu c.requires c.if-t-eq-EMPTY.false c.if-c-ge-CPUS.false _ c.in-Some.ensures.lowest c.in-Some.ensures.below _ _ _ _ _ _ _ refl refl refl refl c.spot-to.ensures.0 refl c.peak_with-t.ensures,
)
