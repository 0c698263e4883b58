-- The loop passes slots that are not Empty.
use Rattle.std.proofs.Common.{arith, ◌≡◌}
use mathlib.Core.Path.{refl, sym}
use Rattle.scans.proofs.Laws.{full-none, full-more, empty_is, empty-none}
use Rattle.scans.proofs.empty_from.Goals as goal

pub loop-s-init : goal.loop-s-init
loop-s-init c = full-none _ _

pub returns-then-states-s-eq-EMPTY-clause-lowest : goal.returns-then-states-s-eq-EMPTY-clause-lowest
returns-then-states-s-eq-EMPTY-clause-lowest c = empty_is _ _ _ _ c.loop-s.invariant c.loop-s.auto.s c.loop-s-test.true c.if-states-s-eq-EMPTY.true

pub loop-s-preserved : goal.loop-s-preserved
loop-s-preserved c = full-more _ _ _ c.loop-s.invariant c.if-states-s-eq-EMPTY.false

pub returns-clause-lowest : goal.returns-clause-lowest
returns-clause-lowest c = let e : c.loop-s.s ≡ c.args.n = omega arith in rw (sym e) (empty-none _ _ _ _ c.loop-s.invariant c.loop-s.auto.s refl)
