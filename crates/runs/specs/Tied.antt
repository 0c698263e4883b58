-- The step that a run takes for a call is the function that the contract of the public call of that name gives (`ensures` in the
-- crates `tasks`, `irqwait`, `parktime`, `wake` and `runqueue`). So what is proved of runs is proved of these calls. A read leaves
-- the table, as its contract does.
use Rattle.std.specs.Prelude.{◌≡◌, Bool, List, ℕ, Option}
use Rattle.ids.specs.declared.TaskId.{TaskId}
use Rattle.answers.specs.Reply.{Reply}
use Rattle.answers.specs.Contract.{Step, put}
use Rattle.model.specs.Model.{Model}
use Rattle.model.specs.Steps.{start_step, start_cpu_step, admit_step, mark_step, wake_step, collect_step}
use Rattle.model.specs.Switch.{Kind, try_steal_step, switch_step}
use Rattle.model.specs.Reads.{current_reply, idle_reply, ready_reply, started_reply, state_reply, home_reply, live_reply, stealeable_reply, can_steal_reply, overwrites_reply, blocked_reply, block_events_reply, live_count_reply, peak_reply}
use Rattle.model.specs.Calls as task
use Rattle.irqwait.specs.Waits.{Waits}
use Rattle.irqwait.specs.Steps as waits
use Rattle.irqwait.specs.Calls as wait
use Rattle.parktime.specs.Deadlines.{Deadlines}
use Rattle.parktime.specs.Steps as deadlines
use Rattle.parktime.specs.Calls as deadline
use Rattle.wake.specs.Queue.{Queue}
use Rattle.wake.specs.Steps as tokens
use Rattle.wake.specs.Calls as token
use Rattle.runqueue.specs.Ring.{Ring}
use Rattle.runqueue.specs.Steps as rings
use Rattle.runqueue.specs.Calls as ring
use Rattle.runs.specs.Tables.{Tables, on_deadlines, with_deadlines, step}

-- a read answers, and leaves the table
abbrev pub reading : {P : Type 0} → (P → Reply) → P → Step P
reading f p = record { reply = f p; after = p }

pub record TasksTied (m : Model) : Type 0 where
  pub start : task.step m task.start ≡ start_step m
  pub start_cpu1 : task.step m task.start1 ≡ start_cpu_step m 1
  pub admit_on : (c : ℕ) → task.step m (task.admit c) ≡ admit_step m c
  pub set_stealeable : (id : TaskId) (b : Bool) → task.step m (task.mark id b) ≡ mark_step m id b
  pub wake : (id : TaskId) → task.step m (task.wake id) ≡ wake_step m id
  pub collect : task.step m task.collect ≡ collect_step m
  pub try_steal_into : (t : ℕ) → task.step m (task.steal t) ≡ try_steal_step m t
  pub switch-on : (c : ℕ) (k : Kind) → task.step m (task.switch c k) ≡ switch_step m c k
  pub current_on : (c : ℕ) → task.step m (task.read (task.current c)) ≡ reading (λ m. current_reply m c) m
  pub idle-of : (c : ℕ) → task.step m (task.read (task.idler c)) ≡ reading (λ m. idle_reply m c) m
  pub has_ready_on : (c : ℕ) → task.step m (task.read (task.ready c)) ≡ reading (λ m. ready_reply m c) m
  pub cpu1_started : task.step m (task.read task.started1) ≡ reading (λ m. started_reply m 1) m
  pub state : (id : TaskId) → task.step m (task.read (task.state id)) ≡ reading (λ m. state_reply m id) m
  pub home_of : (id : TaskId) → task.step m (task.read (task.home id)) ≡ reading (λ m. home_reply m id) m
  pub live_id : (s : ℕ) → task.step m (task.read (task.live s)) ≡ reading (λ m. live_reply m s) m
  pub is_stealeable : (id : TaskId) → task.step m (task.read (task.stealeable id)) ≡ reading (λ m. stealeable_reply m id) m
  pub can-steal-into : (t : ℕ) → task.step m (task.read (task.can_steal t)) ≡ reading (λ m. can_steal_reply m t) m
  pub overwrites : task.step m (task.read task.overwrites) ≡ reading overwrites_reply m
  pub blocked_count : task.step m (task.read task.blocked) ≡ reading blocked_reply m
  pub block-events : task.step m (task.read task.block_events) ≡ reading block_events_reply m
  pub live-count : task.step m (task.read task.live_count) ≡ reading live_count_reply m
  pub peak_slots : task.step m (task.read task.peak) ≡ reading peak_reply m

pub record WaitsTied (w : Waits) : Type 0 where
  pub arm : (c : ℕ) (id : TaskId) → wait.step w (wait.arm c id) ≡ waits.arm_step w c id
  pub disarm_task : (id : TaskId) → wait.step w (wait.disarm id) ≡ waits.disarm_step w id
  pub signal : (c : ℕ) → wait.step w (wait.signal c) ≡ waits.signal_step w c
  pub take_pending : (id : TaskId) → wait.step w (wait.take id) ≡ waits.take_step w id
  pub is_pending : (id : TaskId) → wait.step w (wait.pending id) ≡ reading (λ w. waits.pending_reply w id) w

-- a poll is lent an output, which comes back beside the tables
pub record DeadlinesTied (t : Tables) : Type 0 where
  pub arm : (id : TaskId) (at : ℕ) → step t (on_deadlines (deadline.arm id at)) ≡ put (λ d. with_deadlines t d t.out) (deadlines.arm_step t.deadlines id at)
  pub disarm : (id : TaskId) → step t (on_deadlines (deadline.disarm id)) ≡ put (λ d. with_deadlines t d t.out) (deadlines.disarm_step t.deadlines id)
  pub poll : (now : ℕ) (out : List ℕ) → step t (on_deadlines (deadline.poll now out)) ≡ put (λ (p : Deadlines × List ℕ). with_deadlines t p.0 p.1) (deadlines.poll_step (t.deadlines, out) now)

pub record WakesTied (q : Queue) : Type 0 where
  pub push : (t : ℕ) → token.step q (token.push t) ≡ tokens.push_step q t
  pub pop : token.step q token.pop ≡ tokens.pop_step q
  pub drops : token.step q token.drops ≡ reading tokens.drops_reply q
  pub is-empty : token.step q token.empty ≡ reading tokens.empty_reply q

pub record RingTied (q : Ring) : Type 0 where
  pub enqueue : (id : TaskId) → ring.step q (ring.enqueue id) ≡ rings.enqueue_step q id
  pub dequeue : ring.step q ring.dequeue ≡ rings.dequeue_step q
  pub after-yield : (id : Option TaskId) → ring.step q (ring.after_yield id) ≡ rings.after_yield_step q id
  pub capacity : ring.step q ring.capacity ≡ reading rings.capacity_reply q
  pub len : ring.step q ring.len ≡ reading rings.len_reply q
  pub is-empty : ring.step q ring.empty ≡ reading rings.empty_reply q
  pub is-full : ring.step q ring.full ≡ reading rings.full_reply q
  pub front : ring.step q ring.front ≡ reading rings.front_reply q
  pub ready_at : (i : ℕ) → ring.step q (ring.ready_at i) ≡ reading (λ q. rings.ready_at_reply q i) q
