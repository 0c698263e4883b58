-- The counter of drops is the number of pushes that failed, modulo 2^32, over any calls whatever.
use Rattle.std.proofs.Common.{◌≡◌, ℕ, ◌+◌, ◌%◌, ◌<◌, Bool, true, false, ltb, List, [], ◌∷◌, length, refl, ap, ◌∙◌, add_assoc, mod-lt, zero-add, arith}
use native.Mathlib.Nat.{mod-add-mod}
use Rattle.lists.specs.Search.{one_if}
use Rattle.answers.specs.Run.{left, times}
use Rattle.wake.specs.Queue.{Queue}
use Rattle.wake.specs.Steps.{DROPS, fresh, push_step, pop_of}
use Rattle.wake.specs.Calls.{Call, push, pop, drops, empty, step}
use Rattle.wake.specs.History.{failed, failures}

stays_put : (d : ℕ) → d < DROPS → (d ≡ (d + 0) % DROPS) × (d < DROPS)
stays_put d h = omega arith

pushes : (q : Queue) (t : ℕ) → q.drops < DROPS → ((push_step q t).after.drops ≡ (q.drops + one_if (failed (push t) (push_step q t).reply)) % DROPS) × ((push_step q t).after.drops < DROPS)
unfolding push_step
pushes q t h = go (ltb (length q.tokens + 1) q.c) refl
  where
    go : (b : Bool) → ltb (length q.tokens + 1) q.c ≡ b → ((push_step q t).after.drops ≡ (q.drops + one_if (failed (push t) (push_step q t).reply)) % DROPS) × ((push_step q t).after.drops < DROPS)
    go true e = rw e (stays_put q.drops h)
    go false e = rw e (refl, mod-lt (q.drops + 1) {m = DROPS} (omega arith))

pops : (c : ℕ) (l : List ℕ) (d : ℕ) → d < DROPS → ((pop_of c l d).after.drops ≡ (d + 0) % DROPS) × ((pop_of c l d).after.drops < DROPS)
unfolding pop_of
pops c [] d h = stays_put d h
pops c (x ∷ l) d h = stays_put d h

-- one call
counts : (q : Queue) (k : Call) → q.drops < DROPS → ((step q k).after.drops ≡ (q.drops + one_if (failed k (step q k).reply)) % DROPS) × ((step q k).after.drops < DROPS)
unfolding step
counts q (push t) h = pushes q t h
counts q pop h = pops q.c q.tokens q.drops h
counts q drops h = stays_put q.drops h
counts q empty h = stays_put q.drops h

-- any list of calls
pub drops-count : (q : Queue) (ks : List Call) → q.drops < DROPS → (left step q ks).drops ≡ (q.drops + failures q ks) % DROPS
unfolding left times
drops-count q [] h = (stays_put q.drops h).0
drops-count q (k ∷ ks) h =
    let one = counts q k h in
    let q' = (step q k).after in
    drops-count q' ks one.1
    ∙ ap (λ d. (d + failures q' ks) % DROPS) one.0
    ∙ mod-add-mod (q.drops + one_if (failed k (step q k).reply)) DROPS (failures q' ks)
    ∙ ap (λ d. d % DROPS) (add_assoc q.drops (one_if (failed k (step q k).reply)) (failures q' ks))

-- from a fresh queue
pub drops-fresh : (c : ℕ) (ks : List Call) → (left step (fresh c) ks).drops ≡ failures (fresh c) ks % DROPS
drops-fresh c ks = drops-count (fresh c) ks (omega arith) ∙ ap (λ n. n % DROPS) (zero-add (failures (fresh c) ks))
