-- One of the idles is the one, or none of them.
use Rattle.std.proofs.Common.{arith}
use mathlib.Core.Path.{sym, ◌∙◌}
use Rattle.scans.proofs.Laws.{none-start, none_more, idle_hit, idle-none}
use Rattle.scans.proofs.is_idle.Goals as goal

pub loop-i-init : goal.loop-i-init
loop-i-init c = none-start _ _

pub returns-then-eq : goal.returns-then-eq
returns-then-eq c = idle_hit _ _ _ (omega arith) (sym c.eq.ensures ∙ c.if-eq.true)

pub loop-i-preserved : goal.loop-i-preserved
loop-i-preserved c = none_more _ _ _ c.loop-i.invariant (sym c.eq.ensures ∙ c.if-eq.false)

pub returns : goal.returns
returns c = idle-none _ _ _ (omega arith) c.loop-i.invariant
