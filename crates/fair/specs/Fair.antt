-- Demand 3, in its words: a ready task, the entries ahead of it, turns on its CPU, steals from its queue, who is chosen.
-- All of it is told from the calls, their answers, and the table at each call.
use Rattle.std.specs.Prelude.{Bool, false, ◌&&◌, ◌||◌, not, cond, List, [], ◌∷◌, ◌++◌, ℕ, ◌+◌, ◌-◌, ◌*◌, get_or, eqb, Option, Some, None}
use Rattle.lists.specs.Search.{first_at, any_of, one_if}
use Rattle.lists.specs.Entries.{is_there, taken}
use Rattle.ids.specs.declared.TaskId.{TaskId}
use Rattle.ids.specs.Id.{same_id, idle}
use Rattle.answers.specs.Reply.{Reply, refused, done, told, number, named, value, stays, switched, is_refused}
use Rattle.model.specs.Model.{Model, queue_of, known}
use Rattle.model.specs.Sound.{ready_on}
use Rattle.model.specs.Switch.{is_yield, is_nil, idles, peer_of, loot_at, can_steal}
use Rattle.model.specs.Calls.{Call, start, start1, admit, switch, mark, steal, wake, collect, read, step}

-- a ready task of CPU c, an idle included, and the entries ahead of it in that CPU's queue: k
abbrev pub waits : Model → ℕ → TaskId → Bool
waits m c x = known m x && ready_on m c x.slot

abbrev pub ahead : Model → ℕ → TaskId → ℕ
ahead m c x = first_at (same_id x) (queue_of m c)

-- whom an answer chooses
abbrev pub chosen_of : Reply → List TaskId
chosen_of (refused n) = []
chosen_of done = []
chosen_of (told b) = []
chosen_of (number n) = []
chosen_of (named i) = []
chosen_of (value v) = []
chosen_of stays = []
chosen_of (switched from to release) = to ∷ []

abbrev pub is_yes : Reply → Bool
is_yes (refused n) = false
is_yes done = false
is_yes (told b) = b
is_yes (number n) = false
is_yes (named i) = false
is_yes (value v) = false
is_yes stays = false
is_yes (switched from to release) = false

-- what one call is to those who wait on CPU c
pub record Event : Type 0 where
  -- a turn: an unrefused yield, or a preempt, block or exit by a task other than idle, on that CPU
  pub turn : Bool
  -- whom it chose there
  pub chosen : List TaskId
  -- the CPU that stole, if one did: in a direct try that succeeds, or in a switch, of any kind
  pub thief : Option ℕ

abbrev pub nothing : Event
nothing = record { turn = false; chosen = []; thief = None }

abbrev pub event : Model → ℕ → Call → Reply → Event
event m c start r = nothing
event m c start1 r = nothing
event m c (admit d) r = nothing
event m c (switch d kind) r =
    record {
      turn = eqb d c && not (is_refused r) && (is_yield kind || not (idles m d));
      chosen = cond (eqb d c) (chosen_of r) [];
      thief = cond (not (is_refused r) && idles m d && is_nil (queue_of m d) && can_steal m d) (Some d) None;
    }
event m c (mark id b) r = nothing
event m c (steal t) r = record { turn = false; chosen = []; thief = cond (is_yes r) (Some t) None }
event m c (wake id) r = nothing
event m c collect r = nothing
event m c (read q) r = nothing

-- the entry that a thief takes from the queue of CPU c
abbrev pub loot_of : Model → ℕ → Option ℕ → Option TaskId
loot_of m c None = None
loot_of m c (Some t) = cond (eqb (peer_of m t) c) (Some (get_or (queue_of m c) (loot_at m (queue_of m c)) idle)) None

-- how the waiting of a task ends
pub data End : Type 0 where
  still chosen stolen : End

-- a task that waits on CPU c, watched over calls until it is chosen or stolen: the turns on c, the one that chose it
-- included; the steals of other entries from its queue; who else was chosen on c, in order
pub record Watch : Type 0 where
  pub turns : ℕ
  pub steals : ℕ
  pub others : List TaskId
  pub end : End

-- an event that the task waits through, before what comes after it
abbrev pub through : Event → Option TaskId → Watch → Watch
through e loot w = record { turns = one_if e.turn + w.turns; steals = one_if (is_there loot) + w.steals; others = e.chosen ++ w.others; end = w.end }

abbrev pub ended : ℕ → End → Watch
ended turns end = record { turns = turns; steals = 0; others = []; end = end }

unfoldable pub watch : Model → ℕ → TaskId → List Call → Watch
watch m c x [] = ended 0 still
watch m c x (k ∷ ks) =
    let e = event m c k (step m k).reply in
    let loot = loot_of m c e.thief in
    cond (taken (same_id x) loot) (ended 0 stolen)
    (cond (any_of (same_id x) e.chosen) (ended (one_if e.turn) chosen)
    (through e loot (watch (step m k).after c x ks)))

-- the most turns that a task waits through: k, and N - 3 for each steal
abbrev pub bound : ℕ → ℕ → ℕ → ℕ
bound n k steals = k + steals * (n - 3)
