-- What a turn answers and leaves, as one change of the table: the head takes over, and the task that ran goes to the tail, or
-- is Blocked, or leaves its slot. With an empty queue a yield stays.
use Rattle.std.specs.Prelude.{Some, None}
use mathlib.Core.Path.{◌≡◌, sym, ◌∙◌, ap}
use mathlib.Core.Bool.{true}
use mathlib.Core.List.{List, [], ◌∷◌, ◌++◌}
use Prim.Native.Nat.{ℕ, ◌<◌}
use native.Mathlib.Omega.{arith}
use lib.ListN.{set}
use lib.Seq.{get_or-set_same, set-get_or, set-set}
use Rattle.ids.specs.declared.TaskId.{TaskId}
use Rattle.ids.proofs.IdLaws.{same_self}
use Rattle.answers.specs.Reply.{stays, switched}
use Rattle.model.specs.Model.{Model, Cpu, CPUS, EMPTY, READY, RUNNING, BLOCKED, no_cpu, epoch_of, cpu_of, queue_of, current_of, idle_of, started_on, set_queue, with_state, with_epoch, with_cpu, pushed, rest_to, capped, bump}
use Rattle.model.specs.Sound.{Shape, Live}
use Rattle.model.specs.Switch.{Kind, yield, preempt, block, exit, leaves, enters, released, displaced, parks, chooses, turn}
use Rattle.model.proofs.Facts.{head-other}

-- x runs on CPU c with queue q behind it, and the task that ran there has state v
abbrev pub handed : Model → ℕ → ℕ → TaskId → List TaskId → Model
handed m c v x q =
    with_cpu (with_state (with_state m (current_of m c).slot v) x.slot RUNNING) c (record { queue = q; current = x; idle = idle_of m c })

-- after a block, which is counted, and after an exit, which parks the leaver
abbrev pub slept : Model → ℕ → TaskId → List TaskId → Model
slept m c x l = rest_to (handed m c BLOCKED x l) m.parked m.overwrites (capped m.block_events) m.peak

abbrev pub exited : Model → ℕ → TaskId → List TaskId → Model
exited m c x l =
    let s = (current_of m c).slot in
    rest_to (with_epoch (handed m c EMPTY x l) s (bump (epoch_of m s))) (Some (current_of m c)) (displaced m.parked m.overwrites) m.block_events m.peak

module _ (m : Model) (shape : Shape m) (v : Live m) (c : ℕ) (hc : c < CPUS) (on : started_on m c ≡ true) where
  abbrev from : TaskId
  from = current_of m c

  abbrev tail : Cpu
  tail = set_queue (cpu_of m c) (queue_of m c ++ (from ∷ []))

  abbrev back : Model
  back = pushed (with_state m from.slot READY) c from

  cpu_back : cpu_of back c ≡ tail
  cpu_back = get_or-set_same m.cpus c tail no_cpu (omega (arith, shape.cpus))

  -- of a task that has gone to the tail
  back_handed : (x : TaskId) (q : List TaskId) → enters back c x q ≡ handed m c READY x q
  unfolding enters
  back_handed x q =
      rw (ap (λ y. y.idle) cpu_back, set-set m.cpus c tail (record { queue = q; current = x; idle = idle_of m c }))

  back_next : (kind : Kind) (x : TaskId) (l : List TaskId) → queue_of m c ≡ x ∷ l
      → chooses back c kind from (queue_of back c) ≡ record { reply = switched from x (released back kind); after = parks (handed m c READY x (l ++ (from ∷ []))) kind from }
  unfolding chooses
  back_next kind x l e =
      ap (λ q. chooses back c kind from q) (ap (λ y. y.queue) cpu_back ∙ ap (λ q. q ++ (from ∷ [])) e)
      ∙ rw (head-other m v c x l hc on e, back_handed x (l ++ (from ∷ [])))

  module _ (x : TaskId) (l : List TaskId) (e : queue_of m c ≡ x ∷ l) where
    pub turn-yield : turn m c yield ≡ record { reply = switched from x None; after = handed m c READY x (l ++ (from ∷ [])) }
    unfolding turn leaves parks
    turn-yield = back_next yield x l e

    pub turn-preempt : turn m c preempt ≡ record { reply = switched from x None; after = handed m c READY x (l ++ (from ∷ [])) }
    unfolding turn leaves parks
    turn-preempt = back_next preempt x l e

    pub turn-block : turn m c block ≡ record { reply = switched from x None; after = slept m c x l }
    unfolding turn leaves chooses enters parks
    turn-block = rw (e, head-other m v c x l hc on e)

    -- one that was parked is released
    pub turn-exit : turn m c exit ≡ record { reply = switched from x m.parked; after = exited m c x l }
    unfolding turn leaves chooses enters parks
    turn-exit = rw (e, head-other m v c x l hc on e)

  -- nobody else can run: the table is as it was
  pub turn-stay : queue_of m c ≡ [] → turn m c yield ≡ record { reply = stays; after = m }
  unfolding turn leaves chooses
  turn-stay e =
      let s = from.slot in
      let states : set m.states s RUNNING ≡ m.states = ap (λ x. set m.states s x) (sym ((v.cpus c hc).on on).runs) ∙ set-get_or m.states s EMPTY in
      let cpus : set m.cpus c (record { queue = []; current = from; idle = idle_of m c }) ≡ m.cpus = ap (λ q. set m.cpus c (set_queue (cpu_of m c) q)) (sym e) ∙ set-get_or m.cpus c no_cpu in
      ap (λ q. chooses back c yield from q) (ap (λ y. y.queue) cpu_back ∙ ap (λ q. q ++ (from ∷ [])) e)
      ∙ rw (same_self from, back_handed from [], set-set m.states s READY RUNNING, states, cpus)
