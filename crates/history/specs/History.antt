-- What happened to a task table, told from the calls, their answers, and the table at each call: for the first start of a CPU, and
-- for the most slots that were occupied at once.
use Rattle.std.specs.Prelude.{Bool, true, false, ◌&&◌, not, List, [], ◌∷◌, ℕ, max, eqb, Option, Some, None}
use Rattle.lists.specs.Entries.{is_there, taken}
use Rattle.ids.specs.declared.TaskId.{TaskId}
use Rattle.answers.specs.Reply.{Reply, refused, done, told, number, named, value, stays, switched, is_refused}
use Rattle.answers.specs.Run.{times}
use Rattle.model.specs.Model.{Model, started_on, occupied}
use Rattle.model.specs.Switch.{Kind, yield, preempt, block, exit}
use Rattle.model.specs.Calls.{Call, start, start1, admit, switch, mark, steal, wake, collect, read, step}

-- WHAT AN ANSWER SAYS

abbrev pub gave_id : Reply → Bool
gave_id (refused n) = false
gave_id done = false
gave_id (told b) = false
gave_id (number n) = false
gave_id (named None) = false
gave_id (named (Some id)) = true
gave_id (value v) = false
gave_id stays = false
gave_id (switched from to release) = false

-- a switch that took place: whose turn ended, and whose stack is to be released
pub record Switched : Type 0 where
  pub from : TaskId
  pub release : Option TaskId

abbrev pub switched_by : Reply → Option Switched
switched_by (refused n) = None
switched_by done = None
switched_by (told b) = None
switched_by (number n) = None
switched_by (named i) = None
switched_by (value v) = None
switched_by stays = None
switched_by (switched from to release) = Some (record { from = from; release = release })

abbrev pub kind_in : Call → Option Kind
kind_in start = None
kind_in start1 = None
kind_in (admit c) = None
kind_in (switch c kind) = Some kind
kind_in (mark id b) = None
kind_in (steal t) = None
kind_in (wake id) = None
kind_in collect = None
kind_in (read r) = None

abbrev pub is_block : Kind → Bool
is_block yield = false
is_block preempt = false
is_block block = true
is_block exit = false

abbrev pub is_exit : Kind → Bool
is_exit yield = false
is_exit preempt = false
is_exit block = false
is_exit exit = true

-- WHAT A CALL DID

-- a CPU's first successful start, or an admission that gave an id
abbrev pub arrival : Model → Call → Reply → Bool
arrival m start r = not (is_refused r)
arrival m start1 r = gave_id r && not (started_on m 1)
arrival m (admit c) r = gave_id r
arrival m (switch c kind) r = false
arrival m (mark id b) r = false
arrival m (steal t) r = false
arrival m (wake id) r = false
arrival m collect r = false
arrival m (read q) r = false

-- an exit that answered Switch, and one of a slot
abbrev pub departure : Call → Reply → Bool
departure k r = taken is_exit (kind_in k) && is_there (switched_by r)

abbrev pub exit_of : ℕ → Call → Reply → Bool
exit_of s k r = taken is_exit (kind_in k) && taken (λ (w : Switched). eqb w.from.slot s) (switched_by r)

-- a block that happened
abbrev pub blocking : Call → Reply → Bool
blocking k r = taken is_block (kind_in k) && is_there (switched_by r)

-- an exit that displaced an earlier leaver
abbrev pub displacing : Call → Reply → Bool
displacing k r = taken is_exit (kind_in k) && taken (λ (w : Switched). is_there w.release) (switched_by r)

-- OVER A RUN

-- the most slots that were occupied at once
unfoldable pub highest : Model → List Call → ℕ
highest m [] = occupied m
highest m (k ∷ ks) = max (occupied m) (highest (step m k).after ks)

abbrev pub arrivals : Model → List Call → ℕ
arrivals = times step arrival

abbrev pub departures : Model → List Call → ℕ
departures = times step (λ m k r. departure k r)

abbrev pub exits_of : ℕ → Model → List Call → ℕ
exits_of s = times step (λ m k r. exit_of s k r)

abbrev pub blocks : Model → List Call → ℕ
blocks = times step (λ m k r. blocking k r)

abbrev pub displacements : Model → List Call → ℕ
displacements = times step (λ m k r. displacing k r)
