-- Demand 3's words for a task that is ready: that it waits on a CPU, and the entries ahead of it there.
use Rattle.std.specs.Prelude.{Bool, ◌&&◌, ℕ}
use Rattle.lists.specs.Search.{first_at}
use Rattle.ids.specs.declared.TaskId.{TaskId}
use Rattle.ids.specs.Id.{same_id}
use Rattle.model.specs.Model.{Model, queue_of, known}
use Rattle.model.specs.Sound.{ready_on}

-- an idle included
abbrev pub waits : Model → ℕ → TaskId → Bool
waits m c x = known m x && ready_on m c x.slot

-- k
abbrev pub ahead : Model → ℕ → TaskId → ℕ
ahead m c x = first_at (same_id x) (queue_of m c)
