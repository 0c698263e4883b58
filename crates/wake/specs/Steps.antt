-- What each call on the wake queue answers, and what it leaves.
use Rattle.std.specs.Prelude.{ℕ, ◌+◌, ◌%◌, ◌^◌, true, false, cond, List, [], ◌∷◌, ◌++◌, length, ◌==◌, nat_lt, Option, Some, None, Result, option_map}
use Rattle.ids.specs.declared.Token.{Token}
use Rattle.answers.specs.Reply.{Reply, done, told, number, value}
use Rattle.answers.specs.declared.Refusal.{Refusal}
use Rattle.answers.specs.Answers.{reply}
use Rattle.answers.specs.Contract.{Step, refusing}
use Rattle.wake.specs.Queue.{Queue, listed}

-- a token, or none
abbrev pub popped_reply : Result (Option Token) Refusal → Reply
popped_reply r = reply (λ o. value (option_map (λ (t : Token). t.0) o)) r

abbrev pub queue_of : ℕ → List ℕ → ℕ → Queue
queue_of c l d = record { c = c; tokens = l; drops = d }

abbrev pub fresh : ℕ → Queue
fresh c = queue_of c [] 0

-- beside 2 BadSize stands an empty queue of two places
unfoldable pub new_step : ℕ → Step Queue
new_step c = cond (listed c) (record { reply = done; after = fresh c }) (refusing 2 (fresh 2))

-- the counter of drops wraps, as the atomic does
abbrev pub DROPS : ℕ
DROPS = 2 ^ 32

-- a queue of c holds c - 1: one more goes to the end, or is dropped and counted
unfoldable pub push_step : Queue → ℕ → Step Queue
push_step q t =
    cond (nat_lt (length q.tokens + 1) q.c)
    (record { reply = told true; after = queue_of q.c (q.tokens ++ (t ∷ [])) q.drops })
    (record { reply = told false; after = queue_of q.c q.tokens ((q.drops + 1) % DROPS) })

-- the oldest, of what is held
unfoldable pub pop_of : ℕ → List ℕ → ℕ → Step Queue
pop_of c [] d = record { reply = value None; after = queue_of c [] d }
pop_of c (t ∷ l) d = record { reply = value (Some t); after = queue_of c l d }

abbrev pub pop_step : Queue → Step Queue
pop_step q = pop_of q.c q.tokens q.drops

abbrev pub drops_reply : Queue → Reply
drops_reply q = number q.drops

abbrev pub empty_reply : Queue → Reply
empty_reply q = told (length q.tokens == 0)
