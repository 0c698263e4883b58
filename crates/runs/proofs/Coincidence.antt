-- Any two outcomes that a contract admits coincide, for each public call on a table, by the lemmas that crate `answers` proves
-- for every kind of table. The other public calls take no table: a contract of `ids` is an equation for the value itself, and for
-- `lifecycle` see its `Once`. Outcomes are compared by their replies; equal replies are equal answers of the code (`Apart` in
-- `answers`, `wake` and `switch`).
use Rattle.std.proofs.Common.{◌≡◌, ℕ, Bool, true, false, sym, ap, ◌∙◌, ⊎_elim}
use Rattle.lists.specs.Tells.{Tells}
use Rattle.lists.proofs.Basics.{true_or_false}
use Rattle.answers.specs.Reply.{Reply}
use Rattle.answers.specs.Contract.{Step, Makes, Meets}
use Rattle.answers.specs.Run.{CallMeets}
use Rattle.answers.proofs.Coincide.{Same, made-once, coincide}
use Rattle.answers.proofs.Part.{whole-once}
use Rattle.runqueue.specs.declared.RunQueue.{RunQueue}
use Rattle.runqueue.specs.Ring as ring-kind
use Rattle.runqueue.specs.Steps as rings
use Rattle.runqueue.specs.Calls as ring
use Rattle.memory.specs.declared.Tasks.{Tasks}
use Rattle.memory.specs.View as tasks-kind
use Rattle.model.specs.Steps as tasks
use Rattle.model.specs.Calls as task
use Rattle.irqwait.specs.declared.WaitTable.{WaitTable}
use Rattle.irqwait.specs.Waits as waits-kind
use Rattle.irqwait.specs.Steps as waits
use Rattle.irqwait.specs.Calls as wait
use Rattle.parktime.specs.declared.Table.{Table}
use Rattle.parktime.specs.Deadlines as deadlines-kind
use Rattle.parktime.specs.Steps as deadlines
use Rattle.parktime.specs.Calls as deadline
use Rattle.wake.specs.declared.WakeQueue.{WakeQueue}
use Rattle.wake.specs.Queue as wakes-kind
use Rattle.wake.specs.Steps as tokens
use Rattle.wake.specs.Calls as token
use Rattle.runs.specs.Tables.{Call, on_tasks, on_waits, on_deadlines, on_wakes}
use Rattle.runs.specs.Outcomes.{Memory, tables, deadlines_to, Admits}
use Rattle.runs.proofs.Parts.{in_tasks, in_waits, in_deadlines, in_lent, in_wakes}

-- THE CALLS ON THE FOUR TABLES

module _ (t u v : Memory) (a b : Reply) where
  -- a call on the deadlines that is lent no output
  unlent_once : (want : Step deadlines-kind.Deadlines)
      → Meets deadlines-kind.deadlines t.deadlines u.deadlines a want × (u.out ≡ t.out) → u ≡ deadlines_to t u.deadlines u.out
      → Meets deadlines-kind.deadlines t.deadlines v.deadlines b want × (v.out ≡ t.out) → v ≡ deadlines_to t v.deadlines v.out → Same tables u v a b
  unlent_once want m d n e =
      whole-once tables (in_deadlines t) t.deadlines want u.deadlines v.deadlines u v a b m.0 n.0 (d ∙ ap (deadlines_to t u.deadlines) m.1) (e ∙ ap (deadlines_to t v.deadlines) n.1)

  pub call-once : (k : Call) → Admits t k a u → Admits t k b v → Same tables u v a b
  call-once (on_tasks k) x y = whole-once tables (in_tasks t) t.tasks (task.step (tasks-kind.view t.tasks) k) u.tasks v.tasks u v a b x.0 y.0 x.1 y.1
  call-once (on_waits k) x y = whole-once tables (in_waits t) t.waits (wait.step (waits-kind.view t.waits) k) u.waits v.waits u v a b x.0 y.0 x.1 y.1
  call-once (on_deadlines (deadline.arm id at)) x y = unlent_once (deadlines.arm_step (deadlines-kind.view t.deadlines) id at) x.0 x.1 y.0 y.1
  call-once (on_deadlines (deadline.disarm id)) x y = unlent_once (deadlines.disarm_step (deadlines-kind.view t.deadlines) id) x.0 x.1 y.0 y.1
  call-once (on_deadlines (deadline.poll now out)) x y =
      whole-once tables (in_lent t) (t.deadlines, out) (deadlines.poll_step (deadlines-kind.view t.deadlines, out) now) (u.deadlines, u.out) (v.deadlines, v.out) u v a b x.0 y.0 x.1 y.1
  call-once (on_wakes k) x y = whole-once tables (in_wakes t) t.wakes (token.step (wakes-kind.view t.wakes) k) u.wakes v.wakes u v a b x.0 y.0 x.1 y.1

-- THE CALLS ON A RING ALONE

pub ring-once : (q u v : RunQueue) (a b : Reply) (k : ring.Call) → CallMeets ring-kind.ring ring.step q k a u → CallMeets ring-kind.ring ring.step q k b v → Same ring-kind.ring u v a b
ring-once q u v a b k = coincide ring-kind.ring q u v a b (ring.step (ring-kind.view q) k)

-- THE MAKERS, for every size; those of the wait table and the deadlines take none

pub new-tasks-once : (n : ℕ) (u v : Tasks) (a b : Reply) → Makes tasks-kind.table u a (tasks.new_step n) → Makes tasks-kind.table v b (tasks.new_step n) → (a ≡ b) × (tasks-kind.view u ≡ tasks-kind.view v)
new-tasks-once n u v a b = made-once tasks-kind.table u v a b (tasks.new_step n)

pub new-ring-once : (n : ℕ) (u v : RunQueue) (a b : Reply) → Makes ring-kind.ring u a (rings.new_step n) → Makes ring-kind.ring v b (rings.new_step n) → (a ≡ b) × (ring-kind.view u ≡ ring-kind.view v)
new-ring-once n u v a b = made-once ring-kind.ring u v a b (rings.new_step n)

pub new-wakes-once : (c : ℕ) (u v : WakeQueue) (a b : Reply) → Makes wakes-kind.wakes u a (tokens.new_step c) → Makes wakes-kind.wakes v b (tokens.new_step c) → (a ≡ b) × (wakes-kind.view u ≡ wakes-kind.view v)
new-wakes-once c u v a b = made-once wakes-kind.wakes u v a b (tokens.new_step c)

pub new-waits-once : (u v : WaitTable) (a b : Reply) → Makes waits-kind.waits u a waits.new_step → Makes waits-kind.waits v b waits.new_step → (a ≡ b) × (waits-kind.view u ≡ waits-kind.view v)
new-waits-once u v a b = made-once waits-kind.waits u v a b waits.new_step

pub new-deadlines-once : (u v : Table) (a b : Reply) → Makes deadlines-kind.deadlines u a deadlines.new_step → Makes deadlines-kind.deadlines v b deadlines.new_step → (a ≡ b) × (deadlines-kind.view u ≡ deadlines-kind.view v)
new-deadlines-once u v a b = made-once deadlines-kind.deadlines u v a b deadlines.new_step

-- THE SOUNDNESS TESTS, of any kind of table

pub test_once : {P : Type 0} (a b : Bool) → Tells a P → Tells b P → a ≡ b
test_once a b s r =
    ⊎_elim
    (λ (x : a ≡ true). ⊎_elim (λ (y : b ≡ true). x ∙ sym y) (λ (y : b ≡ false). absurd (r.false_is y (s.true_is x))) (true_or_false b))
    (λ (x : a ≡ false). ⊎_elim (λ (y : b ≡ true). absurd (s.false_is x (r.true_is y))) (λ (y : b ≡ false). x ∙ sym y) (true_or_false b))
    (true_or_false a)
