-- Where the steal is due the table is what it leaves, and else as it was.
use Rattle.std.proofs.Common.{sym, ◌∙◌}
use Rattle.model.specs.Switch.{yield}
use Rattle.memory.proofs.Lent.{there}
use Rattle.steps.proofs.Switches.{pulled_busy, pulled_tried, pulled_none}
use Rattle.switch.proofs.steal_first.Goals.{else-eq-via-then-eq+else-t-c-eq0, else-eq-via-else-eq}
use Rattle.switch.proofs.steal_first.Goals as goal

pub returns-then-t-c-eq0 : goal.returns-then-t-c-eq0
returns-then-t-c-eq0 c =
    let y = c.requires in
    let e = c.pull.ensures in (
      e.0,
      record { rep = e.1.rep; after = pulled_tried _ c.args.c yield y.sound y.on y.low y.up (sym c.eq.ensures ∙ c.if-eq.true) c.if-t-c-eq0.true _ _ e.1 },
    )

pub returns-else-eq : goal.returns-else-eq
returns-else-eq c =
    let y = c.requires in (
      there c.args.t.now,
      record {
        rep = y.sound.rep;
        after = elim c.else-eq.branch [ else-eq-via-then-eq+else-t-c-eq0 w ↦ pulled_busy _ c.args.c yield y.sound y.on y.low y.up w.if-t-c-eq0.false | else-eq-via-else-eq w ↦ pulled_none _ c.args.c yield y.sound y.on y.low y.up (sym c.eq.ensures ∙ w.if-eq.false) ];
      },
    )
