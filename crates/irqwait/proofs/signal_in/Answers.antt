-- The waiter that is found goes, and its slot is marked with its id.
use Rattle.std.proofs.Common.{refl, arith}
use Rattle.irqwait.proofs.Returns.{signals_nothing, found_low, signals}
use Rattle.irqwait.proofs.signal_in.Goals as goal

pub returns-in_default : goal.returns-in_default
returns-in_default c = signals_nothing _ c.requires _ c.in_default.ensures

-- what is found is within the waiters, and has a slot with a mark
pub offset_bounds-waiters-i : goal.offset_bounds-waiters-i
offset_bounds-waiters-i c = omega (arith, found_low _ c.requires _ _ c.in-Some.ensures)

pub bounds-waiters-i : goal.bounds-waiters-i
bounds-waiters-i c = omega (arith, found_low _ c.requires _ _ c.in-Some.ensures)

pub bounds-pending-s : goal.bounds-pending-s
bounds-pending-s c = omega (arith, found_low _ c.requires _ _ c.in-Some.ensures)

pub offset_bounds-slots-s : goal.offset_bounds-slots-s
offset_bounds-slots-s c = omega (arith, found_low _ c.requires _ _ c.in-Some.ensures)

pub bounds-slots-s : goal.bounds-slots-s
bounds-slots-s c = omega (arith, found_low _ c.requires _ _ c.in-Some.ensures)

pub offset_bounds-epochs-s : goal.offset_bounds-epochs-s
offset_bounds-epochs-s c = omega (arith, found_low _ c.requires _ _ c.in-Some.ensures)

pub bounds-epochs-s : goal.bounds-epochs-s
bounds-epochs-s c = omega (arith, found_low _ c.requires _ _ c.in-Some.ensures)

pub returns : goal.returns
returns c =
    let low = found_low _ c.requires _ _ c.in-Some.ensures in
    signals _ c.requires _ _ c.in-Some.ensures _ c.slot-s.result _ _ refl refl refl c.slot-s.ensures (omega arith) (omega arith) (omega arith)
