-- The scan, and then nothing or the stores of a steal.
use Rattle.std.proofs.Common.{arith}
use mathlib.Core.Path.{refl, ap}
use Rattle.steps.proofs.Pulls.{x_slot, pull-entry, pull-none, pull-done}
use Rattle.ids.specs.declared.TaskId.{TaskId}
use Rattle.steal.proofs.pull.Goals as goal

pub returns-then-len-at : goal.returns-then-len-at
returns-then-len-at c =
    let w = c.requires in
    let e = c.scan-at.ensures in (
      e.0,
      pull-none _ c.args.thief _ w.sound w.s_value w.thief_bound w.thief_value refl _ _ e.1 c.if-len-at.true,
    )

pub bounds-t-i : goal.bounds-t-i
bounds-t-i c =
    let w = c.requires in
    let e = c.scan-at.ensures.1 in
    let k = pull-entry _ c.args.thief _ w.sound w.s_value w.thief_bound w.thief_value refl _ _ e c.if-len-at.false _ c.spot-from.ensures.0 in
    let x = x_slot _ c.args.thief _ w.sound w.s_value w.thief_bound w.thief_value refl _ _ e c.if-len-at.false in
    omega (arith, x, ap (λ (k : TaskId). k.slot) k, w.sound.rep.most)

pub returns : goal.returns
returns c =
    let w = c.requires in
    let e = c.scan-at.ensures in (
      e.0,
      pull-done _ c.args.thief _ w.sound w.s_value w.thief_bound w.thief_value refl _ _ e.1 c.if-len-at.false _ _ _ _ _ _ _ c.spot-from.ensures.0 c.spot-to.ensures.0 c.place.ensures.0 refl refl refl refl,
    )
