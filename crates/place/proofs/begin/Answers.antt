use mathlib.Core.Path.{refl}
use Rattle.output.proofs.Nexts.{begun}
use Rattle.place.proofs.begin.Goals as goal

pub returns : goal.returns
returns c = let b = begun _ _ _ _ _ _ c.new.ensures c.new-2.ensures c.new-3.ensures c.new-4.ensures in
    (refl, refl, b.0, b.1)
