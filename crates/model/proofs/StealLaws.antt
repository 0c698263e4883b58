-- What a try to steal does, as the document says it: which entry it takes, who has it afterwards, and when it does nothing.
use mathlib.Core.Path.{◌≡◌, sym, ◌∙◌, ap}
use mathlib.Core.Logic.{⊎_elim}
use mathlib.Core.Bool.{Bool, true, false}
use mathlib.Core.List.{List, [], ◌∷◌, ◌++◌}
use Prim.Native.Nat.{ℕ, zero, suc, ◌+◌, ◌%◌, ◌≤◌, ◌<◌}
use native.Mathlib.Omega.{arith}
use lib.ListN.{length, get_or, length-set}
use lib.Seq.{get_or-set_same, get_or-set_other}
use borrow.Author.Tests.{lt-ltb}
use Rattle.lists.specs.Search.{first_at}
use Rattle.lists.proofs.Basics.{lt_or_ge, true_or_false, not_both, not_so}
use Rattle.lists.proofs.SearchLaws.{first_hit, first_pass, first-nil, first_is}
use Rattle.ids.specs.declared.TaskId.{TaskId}
use Rattle.ids.specs.Id.{idle}
use Rattle.answers.specs.Reply.{told}
use Rattle.model.specs.Model.{Model, CPUS, no_cpu, home_of, cpu_of, queue_of, started, set_queue, with_queue}
use Rattle.model.specs.Sound.{Shape}
use Rattle.model.specs.Switch.{peer_of, stealeable, loot_at, robbed, stolen, can_steal, stealing, try_steal_step}
use Rattle.model.proofs.Steals.{can-steal, peer-cpu}

-- WHICH ENTRY

-- what a search passed over does not pass the test
pub first-before : {A : Type 0} (p : A → Bool) (xs : List A) (d : A) (k : ℕ) → k < first_at p xs → p (get_or xs k d) ≡ false
first-before p [] d k h = absurd (omega (arith, first-nil p))
first-before p (x ∷ xs) d zero h = not_so (p x) (λ e. omega (arith, first_hit p x xs e))
first-before p (x ∷ xs) d (suc k) h =
    first-before p xs d k
    (⊎_elim (λ (e : p x ≡ true). absurd (omega (arith, first_hit p x xs e))) (λ (e : p x ≡ false). omega (arith, first_pass p x xs e))
    (true_or_false (p x)))

-- the first that can be stolen
pub passed_over : (m : Model) (q : List TaskId) (k : ℕ) → k < loot_at m q → stealeable m (get_or q k idle) ≡ false
unfolding loot_at
passed_over m q k h = first-before (stealeable m) q idle k h

pub none_found : (m : Model) (q : List TaskId) → ((k : ℕ) → k < length q → stealeable m (get_or q k idle) ≡ false) → length q ≤ loot_at m q
unfolding loot_at
none_found m q f =
    ⊎_elim (λ (l : first_at (stealeable m) q < length q). absurd (not_both (first_is (stealeable m) q idle l) (f (first_at (stealeable m) q) l)))
    (λ (g : length q ≤ first_at (stealeable m) q). g)
    (lt_or_ge (first_at (stealeable m) q) (length q))

-- WHEN A TRY DOES SOMETHING

module _ (m : Model) (t : ℕ) where
  -- the peer's queue
  abbrev pub peers : List TaskId
  peers = queue_of m (peer_of m t)

  pub can_steal_by : t < length m.cpus → queue_of m t ≡ [] → loot_at m peers < length peers → can_steal m t ≡ true
  unfolding can_steal
  can_steal_by h e l = rw (lt-ltb t (length m.cpus) h, e, lt-ltb (loot_at m peers) (length peers) l)

  pub steals-nothing : can_steal m t ≡ false → stealing m t ≡ m
  unfolding stealing
  steals-nothing e = rw e

  pub steals-none : ((k : ℕ) → k < length peers → stealeable m (get_or peers k idle) ≡ false) → stealing m t ≡ m
  steals-none f =
      steals-nothing
      (not_so (can_steal m t) (λ e. let l = (can-steal m t e).found in omega (arith, none_found m peers f)))

  pub steals : can_steal m t ≡ true → stealing m t ≡ stolen m t (peer_of m t) (loot_at m peers) (get_or peers (loot_at m peers) idle)
  unfolding stealing
  steals e = rw e

  -- a try on a started table answers true exactly when it steals
  pub try_reply : started m ≡ true → (try_steal_step m t).reply ≡ told (can_steal m t)
  unfolding try_steal_step
  try_reply on = rw on

  pub try_true : started m ≡ true → (try_steal_step m t).reply ≡ told true → can_steal m t ≡ true
  try_true on e = let r = try_reply on in cc

-- WHO HAS IT AFTERWARDS

pub peer_apart : (m : Model) → Shape m → (t : ℕ) → t < CPUS → peer_of m t ≡ t → ⊥
peer_apart m shape t h e = let r : (t + 1) % CPUS ≡ t = ap (λ n. (t + 1) % n) (sym shape.cpus) ∙ e in omega arith

module _ (m : Model) (shape : Shape m) (t p j : ℕ) (x : TaskId) (ht : t < CPUS) (hp : p < CPUS) (ne : p ≡ t → ⊥) where
  -- the table without the entry
  abbrev rest : Model
  rest = with_queue m p (robbed j (queue_of m p))

  rest_else : (d : ℕ) → (d ≡ p → ⊥) → queue_of rest d ≡ queue_of m d
  rest_else d f = ap (λ y. y.queue) (get_or-set_other m.cpus p d (set_queue (cpu_of m p) (robbed j (queue_of m p))) no_cpu f)

  stolen_else : (d : ℕ) → (d ≡ t → ⊥) → queue_of (stolen m t p j x) d ≡ queue_of rest d
  unfolding stolen
  stolen_else d f = ap (λ y. y.queue) (get_or-set_other rest.cpus t d (set_queue (cpu_of rest t) (queue_of rest t ++ (x ∷ []))) no_cpu f)

  pub stolen-thief : queue_of (stolen m t p j x) t ≡ queue_of m t ++ (x ∷ [])
  unfolding stolen
  stolen-thief =
      let long : length rest.cpus ≡ CPUS = length-set m.cpus p (set_queue (cpu_of m p) (robbed j (queue_of m p))) ∙ shape.cpus in
      ap (λ y. y.queue) (get_or-set_same rest.cpus t (set_queue (cpu_of rest t) (queue_of rest t ++ (x ∷ []))) no_cpu (omega arith))
      ∙ ap (λ l. l ++ (x ∷ [])) (rest_else t (λ e. ne (sym e)))

  pub stolen-peer : queue_of (stolen m t p j x) p ≡ robbed j (queue_of m p)
  stolen-peer =
      stolen_else p ne ∙ ap (λ y. y.queue) (get_or-set_same m.cpus p (set_queue (cpu_of m p) (robbed j (queue_of m p))) no_cpu (omega (arith, shape.cpus)))

  pub stolen-other : (d : ℕ) → (d ≡ t → ⊥) → (d ≡ p → ⊥) → queue_of (stolen m t p j x) d ≡ queue_of m d
  stolen-other d f g = stolen_else d f ∙ rest_else d g

  pub stolen-home : x.slot < m.n → home_of (stolen m t p j x) x.slot ≡ t
  unfolding stolen
  stolen-home h = get_or-set_same m.homes x.slot t 0 (omega (arith, shape.homes))

-- after a try that steals
module _ (m : Model) (shape : Shape m) (t : ℕ) (can : can_steal m t ≡ true) where
  abbrev j : ℕ
  j = loot_at m (peers m t)

  abbrev loot : TaskId
  loot = get_or (peers m t) j idle

  here : t < CPUS
  here = omega (arith, (can-steal m t can).cpu, shape.cpus)

  -- the thief's queue is just the task, and its home is the thief
  pub thief-queue : queue_of (stealing m t) t ≡ loot ∷ []
  thief-queue =
      ap (λ w. queue_of w t) (steals m t can)
      ∙ stolen-thief m shape t (peer_of m t) j loot here (peer-cpu m shape t) (peer_apart m shape t here)
      ∙ ap (λ l. l ++ (loot ∷ [])) (can-steal m t can).empty

  pub thief-home : home_of (stealing m t) loot.slot ≡ t
  thief-home =
      ap (λ w. home_of w loot.slot) (steals m t can)
      ∙ stolen-home m shape t (peer_of m t) j loot here (peer-cpu m shape t) (peer_apart m shape t here) (can-steal m t can).loot.id.slot

  -- the peer has the rest, and no other queue changes
  pub peer-queue : queue_of (stealing m t) (peer_of m t) ≡ robbed j (peers m t)
  peer-queue =
      ap (λ w. queue_of w (peer_of m t)) (steals m t can)
      ∙ stolen-peer m shape t (peer_of m t) j loot here (peer-cpu m shape t) (peer_apart m shape t here)

  pub other-queue : (d : ℕ) → (d ≡ t → ⊥) → (d ≡ peer_of m t → ⊥) → queue_of (stealing m t) d ≡ queue_of m d
  other-queue d f g =
      ap (λ w. queue_of w d) (steals m t can)
      ∙ stolen-other m shape t (peer_of m t) j loot here (peer-cpu m shape t) (peer_apart m shape t here) d f g
