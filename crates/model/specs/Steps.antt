-- What each call that makes or changes a task table answers, and what it leaves. Document 01, "Task table" and "Numbers a
-- call can refuse with": 3 or 4 comes first, then what each call says.
use Rattle.std.specs.Prelude.{Bool, true, false, ◌&&◌, not, cond, ℕ, length, eqb, ltb, Some, None}
use Rattle.ids.specs.declared.TaskId.{TaskId}
use Rattle.answers.specs.Reply.{done, told, named}
use Rattle.answers.specs.Contract.{Step, refusing}
use Rattle.answers.specs.Sizes.{listed}
use Rattle.model.specs.Model.{Model, BLOCKED, READY, RUNNING, state_of, home_of, queue_of, idle_of, tenant, known, is_idle, started, started_on, free_slot, with_state, with_home, with_mark, with_cpu, pushed, with_parked, noted, fresh}

-- 1 to 64 slots; beside 2 BadSize stands a table of one slot
unfoldable pub new_step : ℕ → Step Model
new_step n = cond (listed n) (record { reply = done; after = fresh n }) (refusing 2 (fresh 1))

-- 3 NotStarted
abbrev pub when_started : Model → Step Model → Step Model
when_started m s = cond (started m) s (refusing 3 m)

-- a slot becomes the idle task that runs on a CPU: not stealeable and not queued
unfoldable pub claimed : Model → ℕ → ℕ → Model
claimed m c s =
    noted (with_cpu (with_mark (with_home (with_state m s RUNNING) s c) s false) c (record { queue = queue_of m c; current = tenant m s; idle = tenant m s }))

-- 4 Again
unfoldable pub start_step : Model → Step Model
start_step m = cond (started m) (refusing 4 m) (record { reply = done; after = claimed m 0 0 })

-- another CPU: the same id again when called again; no id where no slot is free
unfoldable pub start_cpu_step : Model → ℕ → Step Model
start_cpu_step m c =
    when_started m
    (cond (started_on m c) (record { reply = named (Some (idle_of m c)); after = m })
    (cond (ltb (free_slot m) m.n) (record { reply = named (Some (tenant m (free_slot m))); after = claimed m c (free_slot m) })
    (record { reply = named None; after = m })))

-- a new task in a slot: Ready, not stealeable, at the tail of its CPU's queue
unfoldable pub admitted : Model → ℕ → ℕ → Model
admitted m c s = noted (pushed (with_mark (with_home (with_state m s READY) s c) s false) c (tenant m s))

unfoldable pub admit_step : Model → ℕ → Step Model
admit_step m c =
    when_started m
    (cond (ltb c (length m.cpus) && ltb (free_slot m) m.n)
    (record { reply = named (Some (tenant m (free_slot m))); after = admitted m c (free_slot m) })
    (record { reply = named None; after = m }))

-- any known id but an idle
unfoldable pub mark_step : Model → TaskId → Bool → Step Model
mark_step m id mark =
    when_started m
    (cond (known m id && not (is_idle m id)) (record { reply = told true; after = with_mark m id.slot mark })
    (record { reply = told false; after = m }))

-- a known, Blocked id goes to the tail at its home
unfoldable pub woken : Model → TaskId → Model
woken m id = pushed (with_state m id.slot READY) (home_of m id.slot) id

unfoldable pub wake_step : Model → TaskId → Step Model
wake_step m id =
    when_started m
    (cond (known m id && eqb (state_of m id.slot) BLOCKED) (record { reply = told true; after = woken m id })
    (record { reply = told false; after = m }))

unfoldable pub collect_step : Model → Step Model
collect_step m = when_started m (record { reply = named m.parked; after = with_parked m None })
