use Rattle.std.proofs.Common.{arith, ap}
use Rattle.std.proofs.lemmas.List.{take_all}
use mathlib.Core.Path.{◌∙◌}
use Rattle.std.specs.Prelude.{count_by, nat_eq, take}
use Rattle.memory.specs.Parts.{blocked_in}
use Rattle.scans.proofs.Laws.{counted_by}
use Rattle.scans.proofs.blocked.Goals as goal

pub returns : goal.returns
unfolding blocked_in
returns c = c.loop-s.invariant.0 ∙ ap (count_by (λ s. nat_eq s 3)) (take_all c.loop-s.s-index (take c.args.n c.args.states.now) (omega arith)) ∙ counted_by _ _
