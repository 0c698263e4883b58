-- By where the lowest Empty slot lies, and whether it is the parked one.
use Rattle.std.proofs.Common.{arith}
use Rattle.scans.proofs.Laws.{free_past, free_unparked, free_other, free_behind}
use Rattle.scans.proofs.free_slot.Goals as goal
use Rattle.scans.proofs.free_slot.Goals.{then-parked-eq0-via-then-parked-eq0, then-parked-eq0-via-else-parked-eq0+then-at-s}

pub returns-in_err-s-clause-lowest : goal.returns-in_err-s-clause-lowest
returns-in_err-s-clause-lowest c = rw c.from_residual.ensures (let e = c.in_err-s.ensures in free_past _ _ _ _ _ e.lowest (omega arith))

pub returns-then-parked-eq0-clause-lowest : goal.returns-then-parked-eq0-clause-lowest
returns-then-parked-eq0-clause-lowest c =
    let e = c.in_ok-s.ensures in
    elim c.then-parked-eq0.branch [ then-parked-eq0-via-then-parked-eq0 w ↦ free_unparked _ _ _ _ _ e.lowest e.below w.if-parked-eq0.true | then-parked-eq0-via-else-parked-eq0+then-at-s w ↦ free_other _ _ _ _ _ e.lowest e.below w.if-at-s.true ]

pub returns-clause-lowest : goal.returns-clause-lowest
returns-clause-lowest c =
    let e = c.in_ok-s.ensures in
    free_behind _ _ _ _ _ e.lowest e.below _ c.if-parked-eq0.false c.if-at-s.false c.empty_from-2.ensures.lowest
