-- A slot below N that is not Empty.
use Rattle.std.proofs.Common.{arith}
use Rattle.reads.proofs.Laws.{live_above, live-none, live_is}
use Rattle.reads.proofs.live_id_in.Goals as goal
use Rattle.reads.proofs.live_id_in.Goals.{then-t-slot-via-then-t-slot, then-t-slot-via-else-t-slot+then-t-slot-eq-EMPTY}

pub returns-then-t-slot : goal.returns-then-t-slot
returns-then-t-slot c =
    elim c.then-t-slot.branch [
      | then-t-slot-via-then-t-slot w ↦ live_above _ c.requires _ w.if-t-slot.true
      | then-t-slot-via-else-t-slot+then-t-slot-eq-EMPTY w ↦ live-none _ c.requires _ (omega (arith, w.if-t-slot.false)) w.if-t-slot-eq-EMPTY.true
    ]

pub returns : goal.returns
returns c = live_is _ c.requires _ (omega (arith, c.if-t-slot.false)) c.if-t-slot-eq-EMPTY.false
