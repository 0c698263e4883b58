-- Below n as it is, and from n on less n.
use mathlib.Core.Path.{sym}
use native.Mathlib.Omega.{arith}
use Rattle.runqueue.proofs.Places.{placed-low, placed-high}
use Rattle.runqueue.proofs.place.Goals as goal

pub returns-then-x-n : goal.returns-then-x-n
returns-then-x-n c = (sym (placed-low _ _ c.if-x-n.true), c.if-x-n.true)

pub returns-else-x-n : goal.returns-else-x-n
returns-else-x-n c = (sym (placed-high _ _ c.if-x-n.false c.requires), omega arith)
