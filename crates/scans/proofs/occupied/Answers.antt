use Rattle.std.proofs.Common.{arith, ap}
use Rattle.std.proofs.lemmas.List.{take_all}
use mathlib.Core.Path.{◌∙◌}
use Rattle.std.specs.Prelude.{count_by, nat_eq, not, take}
use Rattle.memory.specs.Parts.{occupied_in}
use Rattle.scans.proofs.Laws.{counted_by}
use Rattle.scans.proofs.occupied.Goals as goal

pub returns : goal.returns
unfolding occupied_in
returns c = c.loop-s.invariant.0 ∙ ap (count_by (λ s. not (nat_eq s 0))) (take_all c.loop-s.s-index (take c.args.n c.args.states.now) (omega arith)) ∙ counted_by _ _
