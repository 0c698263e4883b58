-- `queue_fits` walks along a queue and notes its entries.
use Rattle.checks.proofs.LoopLaws.{entry-noted}
use Rattle.checks.proofs.WalkLaws.{walk_start, walk-on, walk-off}
use Rattle.checks.proofs.queue_fits.Goals as goal

pub loop-j-init : goal.loop-j-init
loop-j-init c = walk_start _ _ _

pub returns-then-not-note : goal.returns-then-not-note
returns-then-not-note c =
    walk-off _ _ _ c.loop-j.invariant c.loop-j-test.true
    (entry-noted _ _ c.args.t.ring_slots.now c.args.t.ring_epochs.now _ c.args.c _ c.loop-j.j _ _ c.spot-at.ensures.0 c.note.ensures)
    c.if-not-note.true

pub loop-j-preserved : goal.loop-j-preserved
loop-j-preserved c =
    walk-on _ _ c.loop-j.invariant
    (entry-noted _ _ c.args.t.ring_slots.now c.args.t.ring_epochs.now _ c.args.c _ c.loop-j.j _ _ c.spot-at.ensures.0 c.note.ensures)
    c.if-not-note.false
