-- Each call of a run is the public call of its name.
use Rattle.std.proofs.Common.{refl}
use Rattle.model.specs.Model.{Model}
use Rattle.model.specs.Calls as task
use Rattle.irqwait.specs.Waits.{Waits}
use Rattle.irqwait.specs.Calls as wait
use Rattle.wake.specs.Queue.{Queue}
use Rattle.wake.specs.Calls as token
use Rattle.runqueue.specs.Ring.{Ring}
use Rattle.runqueue.specs.Calls as ring
use Rattle.runs.specs.Tables.{Tables, step}
use Rattle.runs.specs.Tied.{TasksTied, WaitsTied, DeadlinesTied, WakesTied, RingTied}

pub tasks_tied : (m : Model) → TasksTied m
unfolding task.step task.tells
tasks_tied m =
    record {
      start = refl;
      start_cpu1 = refl;
      admit_on = λ c. refl;
      set_stealeable = λ id b. refl;
      wake = λ id. refl;
      collect = refl;
      try_steal_into = λ t. refl;
      switch-on = λ c k. refl;
      current_on = λ c. refl;
      idle-of = λ c. refl;
      has_ready_on = λ c. refl;
      cpu1_started = refl;
      state = λ id. refl;
      home_of = λ id. refl;
      live_id = λ s. refl;
      is_stealeable = λ id. refl;
      can-steal-into = λ t. refl;
      overwrites = refl;
      blocked_count = refl;
      block-events = refl;
      live-count = refl;
      peak_slots = refl;
    }

pub waits_tied : (w : Waits) → WaitsTied w
unfolding wait.step
waits_tied w =
    record {
      arm = λ c id. refl;
      disarm_task = λ id. refl;
      signal = λ c. refl;
      take_pending = λ id. refl;
      is_pending = λ id. refl;
    }

pub deadlines_tied : (t : Tables) → DeadlinesTied t
unfolding step
deadlines_tied t =
    record {
      arm = λ id at. refl;
      disarm = λ id. refl;
      poll = λ now out. refl;
    }

pub wakes_tied : (q : Queue) → WakesTied q
unfolding token.step
wakes_tied q =
    record {
      push = λ t. refl;
      pop = refl;
      drops = refl;
      is-empty = refl;
    }

pub ring_tied : (q : Ring) → RingTied q
unfolding ring.step
ring_tied q =
    record {
      enqueue = λ id. refl;
      dequeue = refl;
      after-yield = λ id. refl;
      capacity = refl;
      len = refl;
      is-empty = refl;
      is-full = refl;
      front = refl;
      ready_at = λ i. refl;
    }
