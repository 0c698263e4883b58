-- The deadlines in memory and on paper: sixteen places, each free or with the deadline of a task.
use Rattle.std.specs.Prelude.{◌≡◌, Bool, cond, List, map, ℕ, ◌<◌, length, leb, Option, Some, None}
use Rattle.lists.specs.Flags.{FLAGS, is_set}
use Rattle.lists.specs.Each.{Each}
use Rattle.lists.specs.Entries.{Distinct}
use Rattle.ids.specs.declared.TaskId.{TaskId}
use Rattle.ids.specs.Id.{same_id}
use Rattle.answers.specs.Contract.{Kind}
use Rattle.parktime.specs.declared.Entry.{Entry}
use Rattle.parktime.specs.declared.Table.{Table}

-- how many deadlines there can be
abbrev pub PLACES : ℕ
PLACES = 16

pub record Deadline : Type 0 where
  pub id : TaskId
  pub at : ℕ

abbrev pub Deadlines : Type 0
Deadlines = List (Option Deadline)

-- what an entry in memory is on paper: one that is not live holds nothing
abbrev pub deadline_of : Entry → Option Deadline
deadline_of e = cond (is_set e.live) (Some (record { id = e.task; at = e.deadline })) None

unfoldable pub view : Table → Deadlines
view t = map deadline_of t.entries

abbrev pub is_for : TaskId → Deadline → Bool
is_for id d = same_id d.id id

-- a deadline has come when it is now or was before
abbrev pub due : ℕ → Deadline → Bool
due now d = leb d.at now

abbrev pub same_task : Deadline → Deadline → Bool
same_task d e = is_for d.id e

-- sixteen places, and no task with two deadlines
pub record SoundDeadlines (ds : Deadlines) : Type 0 where
  pub places : length ds ≡ PLACES
  pub ids : Distinct same_task ds

-- every flag is known
abbrev pub FlagsKnown : Table → Type 0
FlagsKnown t = Each (λ (e : Entry). e.live < FLAGS) t.entries

pub record Sound (t : Table) : Type 0 where
  pub plain : SoundDeadlines (view t)
  pub flags : FlagsKnown t

abbrev pub deadlines : Kind
deadlines = record { Memory = Table; Plain = Deadlines; Sound = Sound; view = view }
