-- Not started, an id that is not known or a task that is not Blocked; else the stores of a wake.
use Rattle.std.proofs.Common.{refl, sym, ◌∙◌}
use Rattle.steps.proofs.Common.{not_started}
use Rattle.steps.proofs.Wakes.{homed, wake_unknown, wake-other, wake-done}
use Rattle.model.specs.Steps.{wake_step}
use Rattle.memory.proofs.Lent.{there}
use Rattle.moves.proofs.wake_in.Goals.{then-not-known-via-then-not-known, then-not-known-via-else-not-known+then-t-i-ne-BLOCKED}
use Rattle.moves.proofs.wake_in.Goals as goal

pub returns-then-t-eq-EMPTY : goal.returns-then-t-eq-EMPTY
unfolding wake_step
returns-then-t-eq-EMPTY c = (there c.args.t.now, not_started _ c.requires _ c.if-t-eq-EMPTY.true)

pub returns-then-not-known : goal.returns-then-not-known
returns-then-not-known c =
    let on = c.if-t-eq-EMPTY.false in
    let k = sym c.known.ensures in (
      there c.args.t.now,
      elim c.then-not-known.branch [
        | then-not-known-via-then-not-known w ↦ wake_unknown _ c.args.id c.requires on (k ∙ w.if-not-known.true)
        | then-not-known-via-else-not-known+then-t-i-ne-BLOCKED w ↦ wake-other _ c.args.id c.requires on (k ∙ w.if-not-known.false) w.if-t-i-ne-BLOCKED.true
      ],
    )

pub bounds-t-c : goal.bounds-t-c
bounds-t-c c = (homed _ c.args.id c.requires c.if-t-eq-EMPTY.false (sym c.known.ensures ∙ c.if-not-known.false)).home

pub bounds-t-c-2 : goal.bounds-t-c-2
bounds-t-c-2 c = (homed _ c.args.id c.requires c.if-t-eq-EMPTY.false (sym c.known.ensures ∙ c.if-not-known.false)).home

pub spot-to-requires-clause-cpu_bound : goal.spot-to-requires-clause-cpu_bound
spot-to-requires-clause-cpu_bound c = (homed _ c.args.id c.requires c.if-t-eq-EMPTY.false (sym c.known.ensures ∙ c.if-not-known.false)).home

pub returns : goal.returns
returns c = (
  there c.args.t.now,
  wake-done _ c.args.id c.requires c.if-t-eq-EMPTY.false (sym c.known.ensures ∙ c.if-not-known.false) c.if-t-i-ne-BLOCKED.false _ _ _ _ refl refl c.spot-to.ensures.0 refl,
)
