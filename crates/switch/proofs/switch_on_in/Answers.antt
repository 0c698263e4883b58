-- A switch, place by place: the CPU is up, the steal is tried, the current task leaves, the head runs.
use Rattle.std.proofs.Common.{sym, refl, ap, ◌∙◌, arith}
use Rattle.model.specs.Switch.{switch_step}
use Rattle.memory.specs.Lent.{lent}
use Rattle.memory.proofs.Lent.{there, still}
use Rattle.steps.specs.Switching.{Begun, Ready}
use Rattle.steps.proofs.Common.{not_started}
use Rattle.steps.proofs.Switches.{switch_above, switch-off, cpu_zero, cpu-on, idle-stays, ready-idle, ready-other}
use Rattle.steps.proofs.Decides.{going}
use Rattle.switch.specs.Decisions.{kind_of}
use Rattle.switch.proofs.Laws.{no_exit, head-low, some-queued, entry-low, stays_on, goes_on, parks_over, parks-first}
use Rattle.switch.proofs.switch_on_in.Goals as goal
use Rattle.switch.proofs.switch_on_in.Goals.{Joined-else-c-ne0, else-c-ne0-via-then-c-ne0+else-eq, else-c-ne0-via-else-c-ne0, Joined-else-eq-2, else-eq-2-via-then-eq-2+else-not-is_yield, else-eq-2-via-else-eq-2}

-- THE CALL: what is asked, and that the CPU is up

begun : (c : Joined-else-c-ne0) → Begun (lent c.args.t.now) c.args.cpu
begun c =
    let on = c.if-t-eq-EMPTY.false in
    let low = c.if-c-ge-CPUS.false in
    let k = kind_of c.args.kind in
    record {
      sound = c.requires;
      on = on;
      low = low;
      up = elim c.else-c-ne0.branch [
        | else-c-ne0-via-then-c-ne0+else-eq w ↦ cpu-on _ c.args.cpu k c.requires on low w.if-c-ne0.true (sym w.eq.ensures ∙ w.if-eq.false)
        | else-c-ne0-via-else-c-ne0 w ↦ cpu_zero _ c.args.cpu k c.requires on low w.if-c-ne0.false
      ];
    }

-- THE STEAL has been tried, and the switch goes on

ready : (c : Joined-else-eq-2) → Begun (lent c.args.t.now) c.args.cpu → Ready (lent c.args.t.now) c.args.cpu (kind_of c.args.kind) (lent c.steal_first.new.t)
ready c y =
    let p = c.steal_first.ensures.1 in
    let k = kind_of c.args.kind in
    elim c.else-eq-2.branch [
      | else-eq-2-via-then-eq-2+else-not-is_yield w ↦ ready-idle _ c.args.cpu k y.sound y.on y.low y.up _ p.rep p.after (sym w.is_yield.ensures ∙ w.if-not-is_yield.false)
      | else-eq-2-via-else-eq-2 w ↦ ready-other _ c.args.cpu k y.sound y.on y.low y.up _ p.rep p.after (sym c.eq-2.ensures ∙ w.if-eq-2.false)
    ]

pub returns-then-t-eq-EMPTY : goal.returns-then-t-eq-EMPTY
unfolding switch_step
returns-then-t-eq-EMPTY c = (there c.args.t.now, not_started _ c.requires _ c.if-t-eq-EMPTY.true)

pub returns-then-c-ge-CPUS : goal.returns-then-c-ge-CPUS
returns-then-c-ge-CPUS c =
    (there c.args.t.now, switch_above _ c.args.cpu (kind_of c.args.kind) c.requires c.if-t-eq-EMPTY.false c.if-c-ge-CPUS.true)

pub returns-then-eq : goal.returns-then-eq
returns-then-eq c =
    (there c.args.t.now, switch-off _ c.args.cpu (kind_of c.args.kind) c.requires c.if-t-eq-EMPTY.false c.if-c-ge-CPUS.false c.if-c-ne0.true (sym c.eq.ensures ∙ c.if-eq.true))

pub steal_first-requires : goal.steal_first-requires
steal_first-requires c = begun (goal.at-steal_first-requires c).Joined-else-c-ne0

pub returns-then-not-is_yield : goal.returns-then-not-is_yield
returns-then-not-is_yield c =
    let y = begun (goal.at-returns-then-not-is_yield c).Joined-else-c-ne0 in
    let p = c.steal_first.ensures in
    (p.0, idle-stays _ c.args.cpu (kind_of c.args.kind) y.sound y.on y.low y.up _ p.1.rep p.1.after (sym c.eq-2.ensures ∙ c.if-eq-2.true) (sym c.is_yield.ensures ∙ c.if-not-is_yield.true))

pub leave-requires-clause-going : goal.leave-requires-clause-going
leave-requires-clause-going c =
    let at = goal.at-leave-requires-clause-going c in
    let y = begun at.Joined-else-c-ne0 in
    going _ c.args.cpu (kind_of c.args.kind) y.sound y.on y.low y.up _ (ready at.Joined-else-eq-2 y)

-- THE HEAD

pub spot-at-requires-clause-x_bound : goal.spot-at-requires-clause-x_bound
spot-at-requires-clause-x_bound c =
    let at = goal.at-spot-at-requires-clause-x_bound c in
    let y = begun at.Joined-else-c-ne0 in
    let m = y.sound.rep.some in omega (arith, head-low y (ready at.Joined-else-eq-2 y) c.leave.ensures.1)

pub bounds-t-g : goal.bounds-t-g
bounds-t-g c =
    let at = goal.at-bounds-t-g c in
    let y = begun at.Joined-else-c-ne0 in
    entry-low y (ready at.Joined-else-eq-2 y) c.leave.ensures.1 _ c.spot-at.ensures.0

pub place-requires : goal.place-requires
place-requires c =
    let at = goal.at-place-requires c in
    let y = begun at.Joined-else-c-ne0 in
    let m = y.sound.rep.some in omega (arith, head-low y (ready at.Joined-else-eq-2 y) c.leave.ensures.1)

pub overflow_sub-t : goal.overflow_sub-t
overflow_sub-t c =
    let at = goal.at-overflow_sub-t c in
    let y = begun at.Joined-else-c-ne0 in
    some-queued y (ready at.Joined-else-eq-2 y) c.leave.ensures.1

pub returns-then-eq-3 : goal.returns-then-eq-3
returns-then-eq-3 c =
    let at = goal.at-returns-then-eq-3 c in
    let y = begun at.Joined-else-c-ne0 in
    let r = ready at.Joined-else-eq-2 y in
    let g = c.leave.ensures in
    (still c.args.t.now c.steal_first.new.t c.leave.new.t c.steal_first.ensures.0 g.0, stays_on y r g.1 (record { at = c.spot-at.result; at_is = c.spot-at.ensures.0; entry = refl; state = refl; head = c.place.ensures.0; len = refl }) (sym c.eq-3.ensures ∙ c.if-eq-3.true))

pub returns-in_default : goal.returns-in_default
returns-in_default c =
    let at = goal.at-returns-in_default c in
    let y = begun at.Joined-else-c-ne0 in
    let r = ready at.Joined-else-eq-2 y in
    let g = c.leave.ensures in
    (still c.args.t.now c.steal_first.new.t c.leave.new.t c.steal_first.ensures.0 g.0, goes_on y r g.1 (record { at = c.spot-at.result; at_is = c.spot-at.ensures.0; entry = refl; state = refl; head = c.place.ensures.0; len = refl }) (sym c.eq-3.ensures ∙ c.if-eq-3.false) (no_exit c.args.kind c.in_default.not-Exit))

pub returns-then-was-eq0 : goal.returns-then-was-eq0
returns-then-was-eq0 c =
    let at = goal.at-returns-then-was-eq0 c in
    let y = begun at.Joined-else-c-ne0 in
    let r = ready at.Joined-else-eq-2 y in
    let g = c.leave.ensures in
    (still c.args.t.now c.steal_first.new.t c.leave.new.t c.steal_first.ensures.0 g.0, parks-first y r g.1 (record { at = c.spot-at.result; at_is = c.spot-at.ensures.0; entry = refl; state = refl; head = c.place.ensures.0; len = refl }) (sym c.eq-3.ensures ∙ c.if-eq-3.false) (ap kind_of c.in-Exit.is) 1 refl c.if-was-eq0.true)

pub returns : goal.returns
returns c =
    let at = goal.at-returns c in
    let y = begun at.Joined-else-c-ne0 in
    let r = ready at.Joined-else-eq-2 y in
    let g = c.leave.ensures in
    (still c.args.t.now c.steal_first.new.t c.leave.new.t c.steal_first.ensures.0 g.0, parks_over y r g.1 (record { at = c.spot-at.result; at_is = c.spot-at.ensures.0; entry = refl; state = refl; head = c.place.ensures.0; len = refl }) (sym c.eq-3.ensures ∙ c.if-eq-3.false) (ap kind_of c.in-Exit.is) 1 refl c.if-was-eq0.false c.raised-t.result c.raised-t.ensures)
