-- A steal takes an entry out of one queue and joins it to another: it keeps a table sound.
use mathlib.Core.Path.{◌≡◌, refl, sym, ◌∙◌, ap}
use mathlib.Core.Logic.{inl}
use mathlib.Core.Bool.{true, false, ◌&&◌, not}
use mathlib.Core.List.{List, [], ◌∷◌, ◌++◌}
use Prim.Native.Nat.{ℕ, ◌<◌}
use native.Mathlib.Omega.{arith}
use lib.ListN.{length, get_or, set}
use lib.Seq.{get_or-set_same, set-get_or, set-set}
use lib.Dec.{eqb, ltb}
use borrow.Author.Tests.{eq-eqb, ltb-true, not-true}
use Rattle.lists.specs.Search.{first_at, one_if}
use Rattle.lists.proofs.Basics.{both_true, not_both}
use Rattle.lists.proofs.SearchLaws.{first_is}
use Rattle.ids.specs.declared.TaskId.{TaskId}
use Rattle.ids.specs.Id.{idle}
use Rattle.model.specs.Model.{Model, CPUS, EMPTY, READY, BLOCKED, no_cpu, state_of, mark_of, cpu_of, queue_of, current_of, idle_of, known, is_idle, set_queue, with_state, with_queue}
use Rattle.model.specs.Sound.{Known, AllKnown, Shape, Live, Sound}
use Rattle.model.specs.Switch.{peer_of, stealeable, loot_at, robbed, stolen, is_nil, can_steal, stealing, try_steal_step, idles, pulls}
use Rattle.model.proofs.Counting.{get_or-set-kept, ready-there}
use Rattle.model.proofs.Robbed.{occ-robbed, known-robbed}
use Rattle.model.proofs.Core.{lit-by, Core, live_core, live-ends, finish}
use Rattle.model.proofs.SlotMoves.{IdleOnly, join_core, out_core}
use Rattle.model.proofs.Ends.{awake_set, ends_set}
use Rattle.model.proofs.Facts.{known_is, known-tenant, no_idle, by_test, step-started, sound-live}

-- what can be stolen: known, and no idle
pub record Loot (m : Model) (x : TaskId) : Type 0 where
  pub id : Known m x
  pub marked : mark_of m x.slot ≡ true
  pub task : is_idle m x ≡ false

pub loot_is : (m : Model) (x : TaskId) → stealeable m x ≡ true → Loot m x
loot_is m x e =
    let a = both_true (known m x && mark_of m x.slot) (not (is_idle m x)) e in
    let b = both_true (known m x) (mark_of m x.slot) a.0 in
    record { id = known_is m x b.0; marked = b.1; task = not-true (is_idle m x) a.1 }

-- A STEAL LEAVES CURRENTS AND IDLES

module _ (m : Model) (t p j : ℕ) (x : TaskId) where
  -- the table without the entry, but for its home
  abbrev rest : Model
  rest = with_queue m p (robbed j (queue_of m p))

  pub stolen-idle : (d : ℕ) → idle_of (stolen m t p j x) d ≡ idle_of m d
  unfolding stolen
  stolen-idle d =
      get_or-set-kept (λ y. y.idle) rest.cpus t (set_queue (cpu_of rest t) (queue_of rest t ++ (x ∷ []))) no_cpu refl d
      ∙ get_or-set-kept (λ y. y.idle) m.cpus p (set_queue (cpu_of m p) (robbed j (queue_of m p))) no_cpu refl d

  pub stolen-current : (d : ℕ) → current_of (stolen m t p j x) d ≡ current_of m d
  unfolding stolen
  stolen-current d =
      get_or-set-kept (λ y. y.current) rest.cpus t (set_queue (cpu_of rest t) (queue_of rest t ++ (x ∷ []))) no_cpu refl d
      ∙ get_or-set-kept (λ y. y.current) m.cpus p (set_queue (cpu_of m p) (robbed j (queue_of m p))) no_cpu refl d

module _ (m : Model) (t d : ℕ) where
  pub stealing-idle : idle_of (stealing m t) d ≡ idle_of m d
  unfolding stealing
  stealing-idle = by_test (λ (w : Model). idle_of w d ≡ idle_of m d) (can_steal m t) _ m (λ _. stolen-idle m _ _ _ _ d) (λ _. refl)

  pub stealing-current : current_of (stealing m t) d ≡ current_of m d
  unfolding stealing
  stealing-current = by_test (λ (w : Model). current_of w d ≡ current_of m d) (can_steal m t) _ m (λ _. stolen-current m _ _ _ _ d) (λ _. refl)

  pub pulls-idle : idle_of (pulls m t) d ≡ idle_of m d
  unfolding pulls
  pulls-idle = by_test (λ (w : Model). idle_of w d ≡ idle_of m d) (idles m t && is_nil (queue_of m t)) (stealing m t) m (λ _. stealing-idle) (λ _. refl)

  pub pulls-current : current_of (pulls m t) d ≡ current_of m d
  unfolding pulls
  pulls-current = by_test (λ (w : Model). current_of w d ≡ current_of m d) (idles m t && is_nil (queue_of m t)) (stealing m t) m (λ _. stealing-current) (λ _. refl)

-- IT KEEPS A TABLE SOUND

module _ (m : Model) (shape : Shape m) (v : Live m) (t p j : ℕ) (x : TaskId) (ht : t < CPUS) (hp : p < CPUS) (hj : j < length (queue_of m p)) (is : get_or (queue_of m p) j idle ≡ x) (task : is_idle m x ≡ false) where
  abbrev k : Core m CPUS
  k = live_core m shape v

  abbrev s : ℕ
  s = x.slot

  -- without the entry
  abbrev o : Model
  o = with_queue (with_state m s BLOCKED) p (robbed j (queue_of m p))

  parts : Known m x × AllKnown m (robbed j (queue_of m p))
  parts = rw is at (known-robbed m (queue_of m p) j hj (v.cpus p hp).entries)

  out : Core o CPUS
  out = out_core m CPUS k p x (robbed j (queue_of m p)) hp parts.0.slot (λ i. rw is at (occ-robbed i (queue_of m p) j hj)) parts.1

  ready : state_of m s ≡ READY
  ready =
      let one = rw is at (occ-robbed s (queue_of m p) j hj) in
      let seen : one_if (eqb s s) ≡ 1 = rw (eq-eqb s s refl) in
      (ready-there m p s ((v.slots s parts.0.slot).queued p hp) (omega arith)).0

  -- which is Ready already
  as_it_was : set m.states s READY ≡ m.states
  as_it_was = ap (λ e. set m.states s e) (sym ready) ∙ set-get_or m.states s EMPTY

  idle-out : (d : ℕ) → idle_of o d ≡ idle_of m d
  idle-out d = get_or-set-kept (λ y. y.idle) m.cpus p (set_queue (cpu_of m p) (robbed j (queue_of m p))) no_cpu refl d

  no_idle_there : IdleOnly o s t
  no_idle_there d hd l e =
      absurd (omega (arith, no_idle m CPUS k x parts.0 task d hd (sym (lit-by m o d (idle-out d)) ∙ l) (ap (λ y. y.slot) (sym (idle-out d)) ∙ e)))

  stolen_core : Core (stolen m t p j x) CPUS
  unfolding stolen
  stolen_core =
      let blocked : state_of o s ≡ BLOCKED = get_or-set_same m.states s BLOCKED EMPTY (omega (arith, shape.states, parts.0.slot)) in
      rw (set-set m.states s BLOCKED READY, as_it_was, known-tenant m x parts.0) at
      (join_core o CPUS out s t parts.0.slot ht (λ e. omega arith, λ e. omega arith) no_idle_there)

  pub stolen-live : Shape (stolen m t p j x) × Live (stolen m t p j x)
  unfolding stolen
  stolen-live =
      let w = stolen m t p j x in
      let z = live-ends m v in
      let hs = parts.0.slot in
      finish w stolen_core
      (ends_set m w s READY shape hs (sym as_it_was) refl (λ _ _. refl) refl refl (λ e. omega (arith, ready))
      (awake_set m w s READY shape hs (sym as_it_was) (λ d _. stolen-idle m t p j x d) (λ _ _ _ _. inl refl) z.awake)
      z)

-- what a try that succeeds tells
pub record Stealing (m : Model) (t : ℕ) : Type 0 where
  pub cpu : t < length m.cpus
  pub empty : queue_of m t ≡ []
  pub found : loot_at m (queue_of m (peer_of m t)) < length (queue_of m (peer_of m t))
  pub loot : Loot m (get_or (queue_of m (peer_of m t)) (loot_at m (queue_of m (peer_of m t))) idle)

is-nil : (l : List TaskId) → is_nil l ≡ true → l ≡ []
is-nil [] e = refl
is-nil (x ∷ l) e = absurd (not_both refl (sym e))

pub can-steal : (m : Model) (t : ℕ) → can_steal m t ≡ true → Stealing m t
unfolding can_steal loot_at
can-steal m t e =
    let q = queue_of m (peer_of m t) in
    let a = both_true (ltb t (length m.cpus) && is_nil (queue_of m t)) (ltb (first_at (stealeable m) q) (length q)) e in
    let b = both_true (ltb t (length m.cpus)) (is_nil (queue_of m t)) a.0 in
    let found = ltb-true (first_at (stealeable m) q) (length q) a.1 in
    record {
      cpu = ltb-true t (length m.cpus) b.0;
      empty = is-nil (queue_of m t) b.1;
      found = found;
      loot = loot_is m (get_or q (first_at (stealeable m) q) idle) (first_is (stealeable m) q idle found);
    }

pub peer-cpu : (m : Model) → Shape m → (t : ℕ) → peer_of m t < CPUS
peer-cpu m shape t = rw shape.cpus (omega arith)

module _ (m : Model) (shape : Shape m) (v : Live m) where
  pub stealing-live : (t : ℕ) → Shape (stealing m t) × Live (stealing m t)
  unfolding stealing
  stealing-live t =
      let q = queue_of m (peer_of m t) in
      by_test (λ (w : Model). Shape w × Live w) (can_steal m t) (stolen m t (peer_of m t) (loot_at m q) (get_or q (loot_at m q) idle)) m
      (λ e.
      let a = can-steal m t e in
      stolen-live m shape v t (peer_of m t) (loot_at m q) (get_or q (loot_at m q) idle) (omega (arith, a.cpu, shape.cpus)) (peer-cpu m shape t) a.found refl a.loot.task)
      (λ _. (shape, v))

  pub pulls-live : (c : ℕ) → Shape (pulls m c) × Live (pulls m c)
  unfolding pulls
  pulls-live c =
      by_test (λ (w : Model). Shape w × Live w) (idles m c && is_nil (queue_of m c)) (stealing m c) m (λ _. stealing-live c) (λ _. (shape, v))

pub try_steal_sound : (m : Model) (t : ℕ) → Sound m → Sound (try_steal_step m t).after
unfolding try_steal_step
try_steal_sound m t s = step-started m _ s (λ v. sound-live (stealing m t) (stealing-live m s.shape v t))
