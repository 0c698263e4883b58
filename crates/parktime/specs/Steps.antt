-- What each call on the deadlines answers, and what it leaves.
use Rattle.std.specs.Prelude.{cond, List, ◌++◌, map, ℕ, length, set, drop, replicate, leb, ltb, Some, None}
use Rattle.lists.specs.Search.{first_at}
use Rattle.lists.specs.Entries.{taken, lowest_free, freed, taken_by}
use Rattle.ids.specs.declared.TaskId.{TaskId}
use Rattle.ids.specs.Id.{packed}
use Rattle.answers.specs.Reply.{done, number}
use Rattle.answers.specs.Contract.{Step, refusing}
use Rattle.parktime.specs.Deadlines.{Deadline, Deadlines, PLACES, is_for, due}

abbrev pub fresh : Deadlines
fresh = replicate PLACES None

abbrev pub new_step : Step Deadlines
new_step = record { reply = done; after = fresh }

-- a task that is armed keeps its place; another goes to the lowest free one
unfoldable pub place_for : TaskId → Deadlines → ℕ
place_for id ds = cond (ltb (first_at (taken (is_for id)) ds) (length ds)) (first_at (taken (is_for id)) ds) (lowest_free ds)

-- 11 Full where there is no such place
unfoldable pub arm_step : Deadlines → TaskId → ℕ → Step Deadlines
arm_step ds id at =
    cond (ltb (place_for id ds) (length ds))
    (record { reply = done; after = set ds (place_for id ds) (Some (record { id = id; at = at })) })
    (refusing 11 ds)

unfoldable pub disarm_step : Deadlines → TaskId → Step Deadlines
disarm_step ds id = record { reply = done; after = freed (is_for id) ds }

-- the tasks whose deadlines have come, in entry order, and their raw ids
unfoldable pub due_ids : ℕ → Deadlines → List TaskId
due_ids now ds = map (λ (d : Deadline). d.id) (taken_by (due now) ds)

abbrev pub raws : List TaskId → List ℕ
raws ids = map packed ids

-- 7 ShortOut for an output of under 16 places; else every deadline that has come goes, the raw ids stand in the output
-- from place 0 on, and its later places are as they were
unfoldable pub poll_step : Deadlines × List ℕ → ℕ → Step (Deadlines × List ℕ)
poll_step s now =
    cond (leb PLACES (length s.1))
    (record {
      reply = number (length (due_ids now s.0));
      after = (freed (due now) s.0, raws (due_ids now s.0) ++ drop (length (due_ids now s.0)) s.1);
    })
    (refusing 7 s)
