-- The test of the waiters, entry by entry: its flag, and a live one against all that come after it.
use Rattle.std.proofs.Common.{sym, ◌∙◌, arith}
use Rattle.lists.proofs.Basics.{tells_no}
use Rattle.irqwait.proofs.Laws.{waits-live, waits_dead, judged_free, judged_clear, slot-high, clash_found, tested_none, tested_more, tested_all, flag_unknown}
use Rattle.irqwait.proofs.waiters_sound.Goals as goal
use Rattle.irqwait.proofs.waiters_sound.Goals.{then-e-ne0+else-slot-ge-MAX_TASK_IDS+else-clashes, else-e-ne0}

pub loop-i-init : goal.loop-i-init
loop-i-init c = tested_none _

pub returns-then-e-gt1 : goal.returns-then-e-gt1
returns-then-e-gt1 c = flag_unknown c.args.waiters.now c.loop-i.i (omega arith)

pub returns-then-slot-ge-MAX_TASK_IDS : goal.returns-then-slot-ge-MAX_TASK_IDS
returns-then-slot-ge-MAX_TASK_IDS c =
    tells_no (λ s. slot-high _ _ _ (waits-live c.args.waiters.now c.loop-i.i c.if-e-ne0.true) (omega arith) s.plain)

pub returns-then-clashes : goal.returns-then-clashes
returns-then-clashes c =
    tells_no
    (λ s. clash_found _ _ _ (waits-live c.args.waiters.now c.loop-i.i c.if-e-ne0.true) (sym c.clashes.ensures ∙ c.if-clashes.true) s.plain)

pub loop-i-preserved : goal.loop-i-preserved
loop-i-preserved c =
    let ws = c.args.waiters.now in
    tested_more _ _ c.loop-i.invariant (omega (arith, c.if-e-gt1.false))
    (elim c.if-e-ne0.branch [
      | then-e-ne0+else-slot-ge-MAX_TASK_IDS+else-clashes w ↦
          judged_clear _ _ _ (waits-live ws c.loop-i.i w.if-e-ne0.true) (omega arith) c.loop-i.invariant.plain (sym w.clashes.ensures ∙ w.if-clashes.false) (omega arith)
      | else-e-ne0 w ↦ judged_free _ _ c.loop-i.invariant.plain (waits_dead ws c.loop-i.i w.if-e-ne0.false)
    ])

pub returns : goal.returns
returns c = tested_all _ _ c.loop-i.invariant (omega arith) (omega arith)
