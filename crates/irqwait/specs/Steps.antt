-- What each call on the wait table answers, and what it leaves.
use Rattle.std.specs.Prelude.{cond, true, false, List, [], ◌∷◌, ℕ, length, get_or, set, replicate, leb, ltb, Option, Some, None, Result, Ok, Err}
use Rattle.lists.specs.Search.{first_at}
use Rattle.lists.specs.Entries.{taken, lowest_free, freed}
use Rattle.ids.specs.declared.TaskId.{TaskId}
use Rattle.answers.specs.declared.Refusal.{Refusal}
use Rattle.answers.specs.Reply.{Reply, done, told, named}
use Rattle.answers.specs.Answers.{refusal_no}
use Rattle.answers.specs.Contract.{Step, refusing}
use Rattle.irqwait.specs.Waits.{Wait, Waits, WAITERS, MARKS, has_cookie, is_for, is_mark}

abbrev pub fresh : Waits
fresh = record { waiters = replicate WAITERS None; pending = replicate MARKS None }

abbrev pub new_step : Step Waits
new_step = record { reply = done; after = fresh }

-- the number of an answer that refuses
abbrev pub refusal_of : Result (Unit {0}) Refusal → Option ℕ
refusal_of (Ok u) = None
refusal_of (Err r) = Some (refusal_no r)

-- the walk over the entries: at each live one the cookie before the task, and the first match decides
unfoldable pub walk : ℕ → TaskId → List (Option Wait) → Option ℕ
walk c id [] = None
walk c id (e ∷ ws) = cond (taken (has_cookie c) e) (Some 9) (cond (taken (is_for id) e) (Some 10) (walk c id ws))

-- the lowest free place takes the wait; 11 Full where there is none
unfoldable pub arm_at : Waits → ℕ → TaskId → ℕ → Step Waits
arm_at w c id i =
    cond (ltb i (length w.waiters))
    (record { reply = done; after = record { waiters = set w.waiters i (Some (record { cookie = c; id = id })); pending = w.pending } })
    (refusing 11 w)

unfoldable pub arm_by : Waits → ℕ → TaskId → Option ℕ → Step Waits
arm_by w c id (Some n) = refusing n w
arm_by w c id None = arm_at w c id (lowest_free w.waiters)

-- 8 BadTask for a slot that has no mark, then the walk, then a place
unfoldable pub arm_step : Waits → ℕ → TaskId → Step Waits
arm_step w c id = cond (leb MARKS id.slot) (refusing 8 w) (arm_by w c id (walk c id w.waiters))

unfoldable pub disarm_step : Waits → TaskId → Step Waits
disarm_step w id = record { reply = done; after = record { waiters = freed (is_for id) w.waiters; pending = w.pending } }

-- the waiter at a place goes, and its slot is marked with its id, whatever mark was there
unfoldable pub signal_at : Waits → ℕ → Option Wait → Step Waits
signal_at w i None = record { reply = named None; after = w }
signal_at w i (Some e) =
    record {
      reply = named (Some e.id);
      after = record { waiters = set w.waiters i None; pending = set w.pending e.id.slot (Some e.id) };
    }

unfoldable pub signal_step : Waits → ℕ → Step Waits
signal_step w c = let i = first_at (taken (has_cookie c)) w.waiters in signal_at w i (get_or w.waiters i None)

-- a mark is taken only by the same id
unfoldable pub take_step : Waits → TaskId → Step Waits
take_step w id =
    cond (taken (is_mark id) (get_or w.pending id.slot None))
    (record { reply = told true; after = record { waiters = w.waiters; pending = set w.pending id.slot None } })
    (record { reply = told false; after = w })

abbrev pub pending_reply : Waits → TaskId → Reply
pending_reply w id = told (taken (is_mark id) (get_or w.pending id.slot None))
