-- `Table::arm_in`: the deadline goes to the place that the task has, else to the lowest free one; where there is none, 11.
use Rattle.std.proofs.Common.{◌≡◌, length, refl, sym, ◌∙◌, rules, arith}
use Rattle.parktime.specs.Deadlines.{PLACES}
use Rattle.parktime.proofs.Laws.{looked, arm_stored, arm_full}
use Rattle.parktime.proofs.Table.arm_in.Goals as goal

pub returns-in_default : goal.returns-in_default
returns-in_default c =
    let long : length c.args.self.now.entries ≡ PLACES = omega arith in
    let found : c.or_else.result ≡ looked c.args.task c.args.self.now = search rules in
    arm_full _ c.requires _ _ long (sym found ∙ c.in_default.is)

pub returns : goal.returns
returns c =
    let long : length c.args.self.now.entries ≡ PLACES = omega arith in
    let found : c.or_else.result ≡ looked c.args.task c.args.self.now = search rules in
    arm_stored _ c.requires _ _ _ _ long (sym found ∙ c.in-Some.is) refl
