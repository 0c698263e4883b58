-- Not started, started on this CPU already, no free slot; else a claim of the lowest.
use Rattle.std.proofs.Common.{arith, refl, sym, ◌∙◌}
use Rattle.std.proofs.lemmas.Bool.{not-true, not-false}
use Rattle.steps.proofs.Common.{not_started}
use Rattle.steps.proofs.Starts.{cpu_again, cpu-none, cpu-done}
use Rattle.model.specs.Steps.{start_cpu_step}
use Rattle.memory.proofs.Lent.{there}
use Rattle.moves.proofs.start_cpu_in.Goals as goal

pub returns-then-t-eq-EMPTY : goal.returns-then-t-eq-EMPTY
unfolding start_cpu_step
returns-then-t-eq-EMPTY c = (there c.args.t.now, not_started _ c.requires.sound _ c.if-t-eq-EMPTY.true)

pub returns-then-ne : goal.returns-then-ne
returns-then-ne c =
    let w = c.requires in (
      there c.args.t.now,
      cpu_again _ c.args.cpu w.sound w.cpu_nonzero w.cpu_bound c.if-t-eq-EMPTY.false _ refl (not-true _ (sym c.ne.ensures ∙ c.if-ne.true)),
    )

pub returns-in_default : goal.returns-in_default
returns-in_default c =
    let w = c.requires in (
      there c.args.t.now,
      cpu-none _ c.args.cpu w.sound w.cpu_nonzero w.cpu_bound c.if-t-eq-EMPTY.false _ refl (not-false _ (sym c.ne.ensures ∙ c.if-ne.false)) _ c.in_default.ensures.lowest (omega arith),
    )

pub returns : goal.returns
returns c =
    let w = c.requires in
    let e = c.claim.ensures in (
      e.0,
      cpu-done _ c.args.cpu w.sound w.cpu_nonzero w.cpu_bound c.if-t-eq-EMPTY.false _ refl (not-false _ (sym c.ne.ensures ∙ c.if-ne.false)) _ c.in-Some.ensures.lowest _ _ c.in-Some.ensures.below e.1 e.2 e.3,
    )
