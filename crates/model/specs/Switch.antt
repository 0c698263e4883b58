-- Stealing and switching. Document 01, "`switch_on`, in order" and "Stealing needs the thief's queue empty".
use Rattle.std.specs.Prelude.{Bool, true, false, ◌&&◌, not, cond, List, [], ◌∷◌, ◌++◌, ℕ, suc, ◌+◌, ◌%◌, length, get_or, take, drop, ltb, Option, Some, None}
use Rattle.lists.specs.Search.{first_at}
use Rattle.ids.specs.declared.TaskId.{TaskId}
use Rattle.ids.specs.Id.{same_id, idle}
use Rattle.answers.specs.Reply.{told, stays, switched}
use Rattle.answers.specs.Contract.{Step, refusing}
use Rattle.model.specs.Model.{Model, EMPTY, READY, RUNNING, BLOCKED, epoch_of, mark_of, queue_of, current_of, idle_of, known, is_idle, started_on, with_state, with_epoch, with_home, with_cpu, with_queue, pushed, rest_to, capped, bump}
use Rattle.model.specs.Steps.{when_started}

-- STEALING

-- whose queue a thief looks into
abbrev pub peer_of : Model → ℕ → ℕ
peer_of m t = (t + 1) % length m.cpus

-- known, marked, and no idle
abbrev pub stealeable : Model → TaskId → Bool
stealeable m id = known m id && mark_of m id.slot && not (is_idle m id)

-- the place of the first stealeable entry of a queue, or its length
unfoldable pub loot_at : Model → List TaskId → ℕ
loot_at m q = first_at (stealeable m) q

-- what a steal at place j leaves of a queue: the entries passed go to the tail in order
abbrev pub robbed : ℕ → List TaskId → List TaskId
robbed j q = drop (suc j) q ++ take j q

-- the entry at place j of the peer's queue moves to the thief's, with its home
unfoldable pub stolen : Model → ℕ → ℕ → ℕ → TaskId → Model
stolen m t p j x = pushed (with_home (with_queue m p (robbed j (queue_of m p))) x.slot t) t x

abbrev pub is_nil : List TaskId → Bool
is_nil [] = true
is_nil (x ∷ l) = false

-- the thief's queue is empty, and the peer has a stealeable entry
unfoldable pub can_steal : Model → ℕ → Bool
can_steal m t = ltb t (length m.cpus) && is_nil (queue_of m t) && ltb (loot_at m (queue_of m (peer_of m t))) (length (queue_of m (peer_of m t)))

-- the table after a try
unfoldable pub stealing : Model → ℕ → Model
stealing m t =
    let q = queue_of m (peer_of m t) in
    cond (can_steal m t) (stolen m t (peer_of m t) (loot_at m q) (get_or q (loot_at m q) idle)) m

unfoldable pub try_steal_step : Model → ℕ → Step Model
try_steal_step m t = when_started m (record { reply = told (can_steal m t); after = stealing m t })

-- SWITCHING

pub data Kind : Type 0 where
  yield preempt block exit : Kind

abbrev pub is_yield : Kind → Bool
is_yield yield = true
is_yield preempt = false
is_yield block = false
is_yield exit = false

abbrev pub is_block : Kind → Bool
is_block yield = false
is_block preempt = false
is_block block = true
is_block exit = false

abbrev pub is_exit : Kind → Bool
is_exit yield = false
is_exit preempt = false
is_exit block = false
is_exit exit = true

-- the current task of a CPU leaves: to the tail, or Blocked and counted, or out of its slot, whose epoch rises
unfoldable pub leaves : Model → ℕ → Kind → Model
leaves m c yield = pushed (with_state m (current_of m c).slot READY) c (current_of m c)
leaves m c preempt = pushed (with_state m (current_of m c).slot READY) c (current_of m c)
leaves m c block = let w = with_state m (current_of m c).slot BLOCKED in rest_to w m.parked m.overwrites (capped m.block_events) m.peak
leaves m c exit = with_epoch (with_state m (current_of m c).slot EMPTY) (current_of m c).slot (bump (epoch_of m (current_of m c).slot))

-- the head of a queue becomes current
unfoldable pub enters : Model → ℕ → TaskId → List TaskId → Model
enters m c x l = with_cpu (with_state m x.slot RUNNING) c (record { queue = l; current = x; idle = idle_of m c })

-- on an exit the leaver becomes parked; one that was parked is named, and counted
abbrev pub released : Model → Kind → Option TaskId
released m yield = None
released m preempt = None
released m block = None
released m exit = m.parked

abbrev pub displaced : Option TaskId → ℕ → ℕ
displaced None k = k
displaced (Some p) k = capped k

unfoldable pub parks : Model → Kind → TaskId → Model
parks m yield id = m
parks m preempt id = m
parks m block id = m
parks m exit id = rest_to m (Some id) (displaced m.parked m.overwrites) m.block_events m.peak

-- the head runs, after `from` has left; where that is the same task it stays. No queue is empty here in a sound table.
unfoldable pub chooses : Model → ℕ → Kind → TaskId → List TaskId → Step Model
chooses m c kind from [] = record { reply = stays; after = m }
chooses m c kind from (x ∷ l) =
    cond (same_id x from) (record { reply = stays; after = enters m c x l })
    (record { reply = switched from x (released m kind); after = parks (enters m c x l) kind from })

unfoldable pub turn : Model → ℕ → Kind → Step Model
turn m c kind = let w = leaves m c kind in chooses w c kind (current_of m c) (queue_of w c)

-- the idle task runs
abbrev pub idles : Model → ℕ → Bool
idles m c = same_id (current_of m c) (idle_of m c)

-- an idle CPU with an empty queue tries to steal first, whatever the kind
unfoldable pub pulls : Model → ℕ → Model
pulls m c = cond (idles m c && is_nil (queue_of m c)) (stealing m c) m

-- preempt, block and exit by idle stay
unfoldable pub switch_on : Model → ℕ → Kind → Step Model
switch_on m c kind = cond (idles m c && not (is_yield kind)) (record { reply = stays; after = pulls m c }) (turn (pulls m c) c kind)

-- 3, then 6 CpuOff; above the last CPU it stays
unfoldable pub switch_step : Model → ℕ → Kind → Step Model
switch_step m c kind =
    when_started m
    (cond (ltb c (length m.cpus)) (cond (started_on m c) (switch_on m c kind) (refusing 6 m)) (record { reply = stays; after = m }))
