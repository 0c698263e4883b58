-- What each call that only reads a task table answers. Reads of a table that is not started answer too.
use Rattle.std.specs.Prelude.{◌&&◌, not, cond, ℕ, length, eqb, ltb, Some, None}
use Rattle.ids.specs.declared.TaskId.{TaskId}
use Rattle.answers.specs.Reply.{Reply, refused, told, number, named, value}
use Rattle.model.specs.Model.{Model, EMPTY, state_of, home_of, queue_of, current_of, idle_of, tenant, known, started_on, occupied, blocked}
use Rattle.model.specs.Switch.{is_nil, stealeable, can_steal}

-- 5 BadCpu above the last CPU
abbrev pub on_cpu : Model → ℕ → Reply → Reply
on_cpu m c r = cond (ltb c (length m.cpus)) r (refused 5)

abbrev pub current_reply : Model → ℕ → Reply
current_reply m c = on_cpu m c (named (Some (current_of m c)))

abbrev pub idle_reply : Model → ℕ → Reply
idle_reply m c = on_cpu m c (named (Some (idle_of m c)))

abbrev pub ready_reply : Model → ℕ → Reply
ready_reply m c = on_cpu m c (told (not (is_nil (queue_of m c))))

abbrev pub started_reply : Model → ℕ → Reply
started_reply m c = told (started_on m c)

-- of any known id, whatever its slot's state
abbrev pub state_reply : Model → TaskId → Reply
state_reply m id = value (cond (known m id) (Some (state_of m id.slot)) None)

abbrev pub home_reply : Model → TaskId → Reply
home_reply m id = value (cond (known m id) (Some (home_of m id.slot)) None)

-- the task of a slot that is not Empty
abbrev pub live_reply : Model → ℕ → Reply
live_reply m s = named (cond (ltb s m.n && not (eqb (state_of m s) EMPTY)) (Some (tenant m s)) None)

abbrev pub stealeable_reply : Model → TaskId → Reply
stealeable_reply m id = told (stealeable m id)

abbrev pub can_steal_reply : Model → ℕ → Reply
can_steal_reply m t = told (can_steal m t)

abbrev pub overwrites_reply : Model → Reply
overwrites_reply m = number m.overwrites

abbrev pub blocked_reply : Model → Reply
blocked_reply m = number (blocked m)

abbrev pub block_events_reply : Model → Reply
block_events_reply m = number m.block_events

abbrev pub live_count_reply : Model → Reply
live_count_reply m = number (occupied m)

abbrev pub peak_reply : Model → Reply
peak_reply m = number m.peak
