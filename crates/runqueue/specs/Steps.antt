-- What each call on a ring answers, and what it leaves.
use Rattle.std.specs.Prelude.{cond, List, [], ◌∷◌, ◌++◌, ℕ, length, ltb, eqb, Option, Some, None, slice_get}
use Rattle.ids.specs.declared.TaskId.{TaskId}
use Rattle.answers.specs.Reply.{Reply, done, told, number, named}
use Rattle.answers.specs.Contract.{Step, refusing}
use Rattle.answers.specs.Sizes.{listed}
use Rattle.runqueue.specs.Ring.{Ring}

abbrev pub ring_of : ℕ → List TaskId → Ring
ring_of n l = record { n = n; items = l }

-- 1 to 64 places; beside 2 BadSize stands an empty ring of one place
unfoldable pub new_step : ℕ → Step Ring
new_step n = cond (listed n) (record { reply = done; after = ring_of n [] }) (refusing 2 (ring_of 1 []))

abbrev pub capacity_reply : Ring → Reply
capacity_reply q = number q.n

abbrev pub len_reply : Ring → Reply
len_reply q = number (length q.items)

abbrev pub empty_reply : Ring → Reply
empty_reply q = told (eqb (length q.items) 0)

abbrev pub full_reply : Ring → Reply
full_reply q = told (eqb (length q.items) q.n)

abbrev pub ready_at_reply : Ring → ℕ → Reply
ready_at_reply q i = named (slice_get q.items i)

abbrev pub front_reply : Ring → Reply
front_reply q = ready_at_reply q 0

-- the tail takes it, or 11 Full where n are held
unfoldable pub enqueue_step : Ring → TaskId → Step Ring
enqueue_step q id = cond (ltb (length q.items) q.n) (record { reply = done; after = ring_of q.n (q.items ++ (id ∷ [])) }) (refusing 11 q)

-- the head, of what is queued
unfoldable pub dequeue_of : ℕ → List TaskId → Step Ring
dequeue_of n [] = record { reply = named None; after = ring_of n [] }
dequeue_of n (x ∷ l) = record { reply = named (Some x); after = ring_of n l }

abbrev pub dequeue_step : Ring → Step Ring
dequeue_step q = dequeue_of q.n q.items

-- one that goes on joins the tail first, or 11 Full where n are held already; then the head
unfoldable pub after_yield_step : Ring → Option TaskId → Step Ring
after_yield_step q None = dequeue_step q
after_yield_step q (Some id) = cond (ltb (length q.items) q.n) (dequeue_of q.n (q.items ++ (id ∷ []))) (refusing 11 q)
