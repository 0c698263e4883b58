-- Whatever the contracts admit, over any calls, is the model's run. On the four tables, and on a ring alone.
use Rattle.std.proofs.Common.{◌≡◌, ℕ, Bool, cond, ◌&&◌, leb, List, [], ap, ◌∙◌, subst}
use Rattle.answers.specs.Reply.{Reply, done}
use Rattle.answers.specs.Contract.{Step, Makes, Meets, put, refusing}
use Rattle.answers.specs.Run.{Outcome, Admitted, CallMeets, Follows, Kept}
use Rattle.answers.proofs.Returns.{listed_by}
use Rattle.answers.proofs.Part.{makes-whole}
use Rattle.answers.proofs.Follow.{follows, follows_alone, kept_alone}
use Rattle.runqueue.specs.declared.RunQueue.{RunQueue}
use Rattle.runqueue.specs.Ring as ring-kind
use Rattle.runqueue.specs.Steps as rings
use Rattle.runqueue.specs.Calls as ring
use Rattle.model.specs.Model as tasks
use Rattle.model.specs.Steps as steps
use Rattle.model.specs.Calls as task
use Rattle.memory.specs.View as tasks-kind
use Rattle.irqwait.specs.Waits as waits-kind
use Rattle.irqwait.specs.Calls as wait
use Rattle.parktime.specs.Deadlines as deadlines-kind
use Rattle.parktime.specs.Steps as deadlines
use Rattle.parktime.specs.Calls as deadline
use Rattle.wake.specs.Queue as wakes-kind
use Rattle.wake.specs.Steps as tokens
use Rattle.wake.specs.Calls as token
use Rattle.runs.specs.Tables.{Call, on_tasks, on_waits, on_deadlines, on_wakes, fresh, step}
use Rattle.runs.specs.Outcomes.{Memory, AllSound, view, tables, Made, deadlines_to, Admits}
use Rattle.runs.proofs.Parts.{in_tasks, in_waits, in_deadlines, in_lent, in_wakes}

-- ONE CALL, ON SOUND TABLES

module _ (t u : Memory) (got : Reply) (s : AllSound t) where
  keeps_deadlines : (o : List ℕ) → deadlines-kind.Sound u.deadlines → AllSound (deadlines_to t u.deadlines o)
  keeps_deadlines o g = record { tasks = s.tasks; waits = s.waits; deadlines = g; wakes = s.wakes }

  -- a call on the deadlines that is lent no output
  unlent : (want : Step deadlines-kind.Deadlines) → Meets deadlines-kind.deadlines t.deadlines u.deadlines got want × (u.out ≡ t.out) → u ≡ deadlines_to t u.deadlines u.out → Makes tables u got (put (in_deadlines t).paper want)
  unlent want m e = makes-whole tables (in_deadlines t) t.deadlines want u.deadlines u got s.deadlines (keeps_deadlines t.out) m.0 (e ∙ ap (deadlines_to t u.deadlines) m.1)

  right : (k : Call) → Admits t k got u → Makes tables u got (step (view t) k)
  unfolding step
  right (on_tasks k) a =
      makes-whole tables (in_tasks t) t.tasks (task.step (tasks-kind.view t.tasks) k) u.tasks u got s.tasks
      (λ g. record { tasks = g; waits = s.waits; deadlines = s.deadlines; wakes = s.wakes }) a.0 a.1
  right (on_waits k) a =
      makes-whole tables (in_waits t) t.waits (wait.step (waits-kind.view t.waits) k) u.waits u got s.waits
      (λ g. record { tasks = s.tasks; waits = g; deadlines = s.deadlines; wakes = s.wakes }) a.0 a.1
  right (on_deadlines (deadline.arm id at)) a = unlent (deadlines.arm_step (deadlines-kind.view t.deadlines) id at) a.0 a.1
  right (on_deadlines (deadline.disarm id)) a = unlent (deadlines.disarm_step (deadlines-kind.view t.deadlines) id) a.0 a.1
  right (on_deadlines (deadline.poll now out)) a =
      makes-whole tables (in_lent t) (t.deadlines, out) (deadlines.poll_step (deadlines-kind.view t.deadlines, out) now) (u.deadlines, u.out) u got s.deadlines (keeps_deadlines u.out) a.0 a.1
  right (on_wakes k) a =
      makes-whole tables (in_wakes t) t.wakes (token.step (wakes-kind.view t.wakes) k) u.wakes u got s.wakes
      (λ g. record { tasks = s.tasks; waits = s.waits; deadlines = s.deadlines; wakes = g }) a.0 a.1

-- FROM ANY SOUND TABLES

pub from-sound : (t : Memory) (ks : List Call) (os : List (Outcome Memory)) → AllSound t → Admitted Admits t ks os → Follows tables step (view t) ks os
from-sound = follows tables step Admits (λ t u k got s a. right t u got s k a)

-- FROM FRESH TABLES

-- a maker that answers done has made what it was asked for
done-made : {P : Type 0} (b : Bool) (p q : P) → done ≡ (cond b (record { reply = done; after = p }) (refusing 2 q)).reply → (cond b (record { reply = done; after = p }) (refusing 2 q)).after ≡ p
done-made b p q e = rw (listed_by p q b e)

module _ (n c : ℕ) (t : Memory) (m : Made n c t) where
  made-sound : AllSound t
  made-sound = record { tasks = m.tasks.sound; waits = m.waits.sound; deadlines = m.deadlines.sound; wakes = m.wakes.sound }

  made-tasks : tasks-kind.view t.tasks ≡ tasks.fresh n
  unfolding steps.new_step
  made-tasks = m.tasks.after ∙ done-made (leb 1 n && leb n tasks.MOST) (tasks.fresh n) (tasks.fresh 1) m.tasks.reply

  made-wakes : wakes-kind.view t.wakes ≡ tokens.fresh c
  unfolding tokens.new_step
  made-wakes = m.wakes.after ∙ done-made (wakes-kind.listed c) (tokens.fresh c) (tokens.fresh 2) m.wakes.reply

  pub made-fresh : view t ≡ fresh n c
  made-fresh = rw (made-tasks, made-wakes, m.waits.after, m.deadlines.after, m.out)

  -- every N and C listed, every list of calls, whatever the contracts admit
  pub demand2 : (ks : List Call) (os : List (Outcome Memory)) → Admitted Admits t ks os → Follows tables step (fresh n c) ks os
  demand2 ks os a = subst (λ p. Follows tables step p ks os) made-fresh (from-sound t ks os made-sound a)

-- A RING ALONE

pub ring_demand2 : (n : ℕ) (q : RunQueue) → Makes ring-kind.ring q done (rings.new_step n) → (ks : List ring.Call) (os : List (Outcome RunQueue)) → Admitted (CallMeets ring-kind.ring ring.step) q ks os → Follows ring-kind.ring ring.step (rings.ring_of n []) ks os
unfolding rings.new_step
ring_demand2 n q m ks os a =
    let made = m.after ∙ done-made (leb 1 n && leb n ring-kind.MOST) (rings.ring_of n []) (rings.ring_of 1 []) m.reply in
    subst (λ p. Follows ring-kind.ring ring.step p ks os) made (follows_alone ring-kind.ring ring.step q ks os m.sound a)

pub ring-kept : (q : RunQueue) (ks : List ring.Call) (os : List (Outcome RunQueue)) → Admitted (CallMeets ring-kind.ring ring.step) q ks os → Kept q os
ring-kept = kept_alone ring-kind.ring ring.step
