-- `Table::free`: a scan that frees every entry of the task.
use Rattle.std.proofs.Common.{◌<◌, length, sym, ◌∙◌, arith}
use Rattle.std.proofs.lemmas.List.{set-get_or}
use Rattle.parktime.specs.Deadlines.{view}
use Rattle.parktime.proofs.Laws.{emptying_start, frees, leaves, disarmed}
use Rattle.parktime.proofs.Table.free.Goals as goal
use Rattle.parktime.proofs.Table.free.Goals.{then-is_for, else-is_for}

pub loop-e-init : goal.loop-e-init
loop-e-init c = emptying_start _ _ c.requires

pub loop-e-preserved : goal.loop-e-preserved
loop-e-preserved c =
    let more : c.loop-e.e-index < length (view c.args.self.now) = omega (arith, c.requires.plain.places) in
    elim c.if-is_for.branch [
      | then-is_for w ↦ frees _ _ _ _ c.loop-e.invariant more (record { entries = c.if-is_for.e-items }) w.e-items-is (sym c.is_for.ensures ∙ w.if-is_for.true)
      | else-is_for w ↦ rw (w.e-items-is, set-get_or) (leaves _ _ _ _ c.loop-e.invariant more (sym c.is_for.ensures ∙ w.if-is_for.false))
    ]

pub returns : goal.returns
returns c = disarmed _ c.requires _ _ _ c.loop-e.invariant c.loop-e-test.false
