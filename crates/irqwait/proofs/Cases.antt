-- What each step comes to, case by case, and what the walk over the waiters says.
use Rattle.std.specs.Prelude.{Option, Some, None}
use mathlib.Core.Path.{◌≡◌, refl, sym, ◌∙◌}
use mathlib.Core.Bool.{Bool, true, false}
use mathlib.Core.List.{List, [], ◌∷◌}
use Prim.Native.Nat.{ℕ, zero, suc, ◌+◌, ◌<◌, ◌≤◌}
use native.Mathlib.Numerals.{add-one}
use native.Mathlib.Omega.{arith}
use borrow.Author.Tests.{le-leb, lt-leb, lt-ltb, le-ltb}
use lib.ListN.{length, get_or, set, drop, drop_of_length-le, get_or-eq_default}
use lib.Seq.{drop-cons}
use Rattle.lists.specs.Search.{first_at}
use Rattle.lists.specs.Entries.{taken, lowest_free}
use Rattle.ids.specs.declared.TaskId.{TaskId}
use Rattle.answers.specs.Reply.{done, told, named}
use Rattle.answers.specs.Contract.{refusing}
use Rattle.irqwait.specs.Waits.{Wait, Waits, MARKS, has_cookie, is_for, is_mark}
use Rattle.irqwait.specs.Steps.{walk, arm_at, arm_by, arm_step, signal_at, signal_step, take_step}

-- THE WALK

module _ (c : ℕ) (id : TaskId) where
  -- at one entry
  walk-cookie : (e : Option Wait) (ws : List (Option Wait)) → taken (has_cookie c) e ≡ true → walk c id (e ∷ ws) ≡ Some 9
  unfolding walk
  walk-cookie e ws h = rw h

  walk-task : (e : Option Wait) (ws : List (Option Wait)) → taken (has_cookie c) e ≡ false → taken (is_for id) e ≡ true → walk c id (e ∷ ws) ≡ Some 10
  unfolding walk
  walk-task e ws h k = rw (h, k)

  walk-on : (e : Option Wait) (ws : List (Option Wait)) → taken (has_cookie c) e ≡ false → taken (is_for id) e ≡ false → walk c id (e ∷ ws) ≡ walk c id ws
  unfolding walk
  walk-on e ws h k = rw (h, k)

  walk_end : walk c id [] ≡ None
  unfolding walk
  walk_end = refl

  -- one that finds nothing: no entry has the cookie, and none the task
  pub walk_clear : (ws : List (Option Wait)) → walk c id ws ≡ None → (i : ℕ) → i < length ws → (taken (has_cookie c) (get_or ws i None) ≡ false) × (taken (is_for id) (get_or ws i None) ≡ false)
  walk_clear [] h i l = absurd (omega arith)
  walk_clear (e ∷ ws) h i l = go (taken (has_cookie c) e) (taken (is_for id) e) refl refl i l (λ m. walk_clear ws m)
    where
      go : (a b : Bool) → taken (has_cookie c) e ≡ a → taken (is_for id) e ≡ b → (i : ℕ) → i < length (e ∷ ws)
          → (walk c id ws ≡ None → (i : ℕ) → i < length ws → (taken (has_cookie c) (get_or ws i None) ≡ false) × (taken (is_for id) (get_or ws i None) ≡ false))
          → (taken (has_cookie c) (get_or (e ∷ ws) i None) ≡ false) × (taken (is_for id) (get_or (e ∷ ws) i None) ≡ false)
      go true b p q i l ih = let z : ◌≡◌ {A = ℕ} 0 1 = cc (walk-cookie e ws p) in absurd (omega arith)
      go false true p q i l ih = let z : ◌≡◌ {A = ℕ} 0 1 = cc (walk-task e ws p q) in absurd (omega arith)
      go false false p q zero l ih = (p, q)
      go false false p q (suc i) l ih = ih (sym (walk-on e ws p q) ∙ h) i (omega arith)

  -- one that finds something says 9 or 10
  pub walk_says : (ws : List (Option Wait)) (n : ℕ) → walk c id ws ≡ Some n → 9 ≤ n
  walk_says [] n h = let z : ◌≡◌ {A = ℕ} 0 1 = cc (walk_end) in absurd (omega arith)
  walk_says (e ∷ ws) n h = go (taken (has_cookie c) e) (taken (is_for id) e) refl refl (λ m. walk_says ws n m)
    where
      go : (a b : Bool) → taken (has_cookie c) e ≡ a → taken (is_for id) e ≡ b → (walk c id ws ≡ Some n → 9 ≤ n) → 9 ≤ n
      go true b p q ih = let z : n ≡ 9 = cc (walk-cookie e ws p) in omega arith
      go false true p q ih = let z : n ≡ 10 = cc (walk-task e ws p q) in omega arith
      go false false p q ih = ih (sym (walk-on e ws p q) ∙ h)

  -- a scan that has walked past the first i
  pub Walked : List (Option Wait) → ℕ → Type 0
  Walked ws i = walk c id ws ≡ walk c id (drop i ws)

  module _ (ws : List (Option Wait)) where
    pub walked_none : Walked ws 0
    unfolding Walked
    walked_none = refl

    pub walked_all : (i : ℕ) → Walked ws i → length ws ≤ i → None ≡ walk c id ws
    unfolding Walked
    walked_all i w h = sym (w ∙ rw (drop_of_length-le ws h, walk_end))

    module _ (i : ℕ) (w : Walked ws i) (more : i < length ws) where
      pub walked_cookie : taken (has_cookie c) (get_or ws i None) ≡ true → Some 9 ≡ walk c id ws
      unfolding Walked
      walked_cookie h = sym (w ∙ rw (drop-cons ws i None more, walk-cookie (get_or ws i None) (drop (suc i) ws) h))

      module _ (other : taken (has_cookie c) (get_or ws i None) ≡ false) where
        pub walked_task : taken (is_for id) (get_or ws i None) ≡ true → Some 10 ≡ walk c id ws
        unfolding Walked
        walked_task h = sym (w ∙ rw (drop-cons ws i None more, walk-task (get_or ws i None) (drop (suc i) ws) other h))

        pub walked_more : taken (is_for id) (get_or ws i None) ≡ false → Walked ws (i + 1)
        unfolding Walked
        walked_more h = w ∙ rw (drop-cons ws i None more, walk-on (get_or ws i None) (drop (suc i) ws) other h, add-one)

-- THE STEPS

abbrev pub armed : Waits → ℕ → TaskId → ℕ → Waits
armed w c id i = record { waiters = set w.waiters i (Some (record { cookie = c; id = id })); pending = w.pending }

abbrev pub signalled : Waits → ℕ → TaskId → Waits
signalled w i id = record { waiters = set w.waiters i None; pending = set w.pending id.slot (Some id) }

abbrev pub took : Waits → ℕ → Waits
took w s = record { waiters = w.waiters; pending = set w.pending s None }

module _ (w : Waits) (c : ℕ) (id : TaskId) where
  pub arm_far : MARKS ≤ id.slot → arm_step w c id ≡ refusing 8 w
  unfolding arm_step
  arm_far h = rw (le-leb MARKS id.slot h)

  module _ (low : id.slot < MARKS) where
    pub arm-busy : (n : ℕ) → walk c id w.waiters ≡ Some n → arm_step w c id ≡ refusing n w
    unfolding arm_step arm_by
    arm-busy n h = rw (lt-leb MARKS id.slot low, h)

    module _ (clear : walk c id w.waiters ≡ None) (i : ℕ) (at : i ≡ lowest_free w.waiters) where
      pub arm_full : length w.waiters ≤ i → arm_step w c id ≡ refusing 11 w
      unfolding arm_step arm_by arm_at
      arm_full h = rw (lt-leb MARKS id.slot low, clear, ← at, le-ltb i (length w.waiters) h)

      pub arm_done : i < length w.waiters → arm_step w c id ≡ record { reply = done; after = armed w c id i }
      unfolding arm_step arm_by arm_at
      arm_done h = rw (lt-leb MARKS id.slot low, clear, ← at, lt-ltb i (length w.waiters) h)

module _ (w : Waits) (c i : ℕ) (at : i ≡ first_at (taken (has_cookie c)) w.waiters) where
  pub signal-at : (e : Option Wait) → get_or w.waiters i None ≡ e → signal_step w c ≡ signal_at w i e
  unfolding signal_step
  signal-at e h = rw (← at, h)

  pub signal-nothing : length w.waiters ≤ i → signal_step w c ≡ record { reply = named None; after = w }
  unfolding signal_at
  signal-nothing h = signal-at None (get_or-eq_default w.waiters None h)

  pub signal_found : (e : Wait) → get_or w.waiters i None ≡ Some e → signal_step w c ≡ record { reply = named (Some e.id); after = signalled w i e.id }
  unfolding signal_at
  signal_found e h = signal-at (Some e) h

module _ (w : Waits) (id : TaskId) where
  pub take-marked : taken (is_mark id) (get_or w.pending id.slot None) ≡ true → take_step w id ≡ record { reply = told true; after = took w id.slot }
  unfolding take_step
  take-marked h = rw h

  pub take_unmarked : taken (is_mark id) (get_or w.pending id.slot None) ≡ false → take_step w id ≡ record { reply = told false; after = w }
  unfolding take_step
  take_unmarked h = rw h
