-- Around the peer's queue: the entries that are passed go to its tail, and the loop ends at the first that may be stolen.
use Rattle.std.proofs.Common.{arith}
use mathlib.Core.Path.{refl, ◌∙◌}
use Rattle.steps.proofs.Scans.{turning_start, turning_test, turning_pass, turning_end, found_at, found_none}
use Rattle.steps.proofs.Common.{has_room}
use Rattle.memory.specs.Lent.{lent}
use Rattle.memory.proofs.Lent.{there}
use Rattle.steal.proofs.scan.Goals.{then-len-j, else-len-j+then-stealeable}
use Rattle.steal.proofs.scan.Goals as goal

pub loop-j-init : goal.loop-j-init
loop-j-init c = (there c.args.t.now, turning_start _ c.args.peer c.requires.sound.rep c.requires.peer_bound)

pub loop-j-preserved : goal.loop-j-preserved
loop-j-preserved c =
    let w = c.requires.sound in
    let hp = c.requires.peer_bound in
    let v = c.loop-j.invariant.1 in
    let u = lent c.loop-j.t in
    let h = c.loop-j.head in
    let j = c.loop-j.j in
    let room = has_room _ w c.requires.s_value c.args.peer hp in
    let e = c.spot-from.ensures in
    let g = c.spot-to.ensures in (
      c.loop-j.invariant.0,
      turning_pass _ c.args.peer w.rep hp u h j v (omega arith) _ _ _ _ room e.0 g.0 c.place-head.ensures.0 refl
          (turning_test _ c.args.peer w.rep hp u h j v (omega arith) _ _ e.0 c.stealeable.ensures ∙ c.if-stealeable.false),
    )

pub returns : goal.returns
returns c =
    let w = c.requires.sound in
    let hp = c.requires.peer_bound in
    let v = c.loop-j.invariant.1 in
    let u = lent c.loop-j.t in
    let h = c.loop-j.head in
    let j = c.loop-j.j in (
      c.loop-j.invariant.0,
      elim c.if-len-j.branch
          [ then-len-j q ↦ turning_end _ c.args.peer w.rep hp u h j v _ q.found-is (found_none _ c.args.peer w.rep hp u h j v q.if-len-j.true) | else-len-j+then-stealeable q ↦ turning_end _ c.args.peer w.rep hp u h j v _ q.found-is (found_at _ c.args.peer w.rep hp u h j v q.if-len-j.false (turning_test _ c.args.peer w.rep hp u h j v q.if-len-j.false _ _ q.spot-from.ensures.0 q.stealeable.ensures ∙ q.if-stealeable.true)) ],
    )
