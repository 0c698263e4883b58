-- `Table::fits`: each entry's flag, and each live entry against all after it.
use Rattle.std.proofs.Common.{◌≡◌, length, sym, ◌∙◌, arith}
use Rattle.parktime.specs.Deadlines.{PLACES}
use Rattle.parktime.proofs.Laws.{lone_dead, lone_live, tested_none, tested_more, sound_yes, sound_no, flag_unknown}
use Rattle.parktime.proofs.Table.fits.Goals as goal
use Rattle.parktime.proofs.Table.fits.Goals.{else-e-ne0-via-then-e-ne0+else-any_for, else-e-ne0-via-else-e-ne0}

pub loop-i-init : goal.loop-i-init
loop-i-init c = tested_none _

pub returns-then-e-gt1 : goal.returns-then-e-gt1
returns-then-e-gt1 c = flag_unknown c.args.self.now c.loop-i.i (omega arith)

pub returns-then-any_for : goal.returns-then-any_for
returns-then-any_for c =
    let long : length c.args.self.now.entries ≡ PLACES = omega arith in
    sound_no _ _ _ (omega arith) long c.if-e-ne0.true (sym c.any_for.ensures ∙ c.if-any_for.true)

pub loop-i-preserved : goal.loop-i-preserved
loop-i-preserved c =
    let long : length c.args.self.now.entries ≡ PLACES = omega arith in
    tested_more _ _ c.loop-i.invariant (omega (arith, c.if-e-gt1.false))
    (elim c.else-e-ne0.branch [
      | else-e-ne0-via-then-e-ne0+else-any_for w ↦ lone_live _ _ _ (omega arith) long w.if-e-ne0.true (sym w.any_for.ensures ∙ w.if-any_for.false)
      | else-e-ne0-via-else-e-ne0 w ↦ lone_dead _ _ w.if-e-ne0.false
    ])

pub returns : goal.returns
returns c =
    let long : length c.args.self.now.entries ≡ PLACES = omega arith in
    sound_yes _ _ long c.loop-i.invariant c.loop-i-test.false
