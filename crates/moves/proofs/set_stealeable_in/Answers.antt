-- Not started, an id that is not known or an idle's; else the mark.
use Rattle.std.proofs.Common.{sym, ◌∙◌}
use Rattle.steps.proofs.Common.{not_started}
use Rattle.steps.proofs.Marks.{mark_unknown, mark-idle, mark-done}
use Rattle.model.specs.Steps.{mark_step}
use Rattle.memory.proofs.Lent.{there}
use Rattle.moves.proofs.set_stealeable_in.Goals.{then-not-known-via-then-not-known, then-not-known-via-else-not-known+then-is_idle}
use Rattle.moves.proofs.set_stealeable_in.Goals as goal

pub returns-then-t-eq-EMPTY : goal.returns-then-t-eq-EMPTY
unfolding mark_step
returns-then-t-eq-EMPTY c = (there c.args.t.now, not_started _ c.requires _ c.if-t-eq-EMPTY.true)

pub returns-then-not-known : goal.returns-then-not-known
returns-then-not-known c =
    let on = c.if-t-eq-EMPTY.false in
    let k = sym c.known.ensures in (
      there c.args.t.now,
      elim c.then-not-known.branch [
        | then-not-known-via-then-not-known w ↦ mark_unknown _ c.args.id c.args.mark c.requires on (k ∙ w.if-not-known.true)
        | then-not-known-via-else-not-known+then-is_idle w ↦ mark-idle _ c.args.id c.args.mark c.requires on (k ∙ w.if-not-known.false) (sym w.is_idle.ensures ∙ w.if-is_idle.true)
      ],
    )

pub returns : goal.returns
returns c = (
  there c.args.t.now,
  mark-done _ c.args.id c.args.mark c.requires c.if-t-eq-EMPTY.false (sym c.known.ensures ∙ c.if-not-known.false) (sym c.is_idle.ensures ∙ c.if-is_idle.false) _ c.flag.ensures.0,
)
