-- By whether the number names anything.
use Rattle.bredumalt.proofs.Laws.{unnamed}
use Rattle.runqueue.specs.Ring.{ring}
use Rattle.bredumalt.proofs.ring.bredumalt_runqueue_after_yield_at.Goals as goal

pub returns-in_default : goal.returns-in_default
returns-in_default c = unnamed ring _ _ _ _ (rw c.in_default.is at c.flag_of.ensures) c.refusing.ensures
