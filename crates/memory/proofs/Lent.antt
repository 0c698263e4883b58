-- References that a call has not put elsewhere.
use Rattle.std.proofs.Common.{refl, ◌∙◌}
use Rattle.memory.specs.declared.TasksMut.{TasksMut}
use Rattle.memory.specs.Lent.{Stays}

-- a store through a reference leaves it where it is, so this does for what comes back, too
pub there : (t : TasksMut) → Stays t t
there t = (refl, refl, refl, refl, refl, refl, refl)

-- one call after another
pub still : (t u v : TasksMut) → Stays t u → Stays u v → Stays t v
still t u v a b = (b.0 ∙ a.0, b.1 ∙ a.1, b.2 ∙ a.2, b.3 ∙ a.3, b.4 ∙ a.4, b.5 ∙ a.5, b.6 ∙ a.6)
