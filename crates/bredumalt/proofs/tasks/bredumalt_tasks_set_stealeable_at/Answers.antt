-- By whether the number names anything.
use Rattle.bredumalt.proofs.Laws.{unnamed}
use Rattle.memory.specs.View.{table}
use Rattle.bredumalt.proofs.tasks.bredumalt_tasks_set_stealeable_at.Goals as goal

pub returns-in_default : goal.returns-in_default
returns-in_default c = unnamed table _ _ _ _ (rw c.in_default.is at c.flag_of.ensures) c.refusing.ensures
