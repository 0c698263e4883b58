-- The rules of a sound wait table outlast every call: each step takes a sound table to a sound one.
use Rattle.std.specs.Prelude.{Option, Some, None}
use mathlib.Core.Path.{◌≡◌, refl, sym, ◌∙◌}
use mathlib.Core.Logic.{◌⊎◌, ⊎_elim}
use mathlib.Core.List.{List, [], ◌∷◌}
use Prim.Native.Nat.{ℕ, ◌<◌, ◌≤◌}
use native.Mathlib.Decide.{ℕ_discrete}
use borrow.Author.Tests.{ne_eqb}
use lib.ListN.{length, get_or, set, length-set}
use lib.Dec.{eqb}
use Rattle.lists.specs.Search.{first_at}
use Rattle.lists.specs.Entries.{taken, lowest_free, freed}
use Rattle.lists.proofs.Basics.{lt_or_ge, true_or_false}
use Rattle.lists.proofs.EntriesLaws.{distinct_thin, distinct_fresh, length-freed}
use Rattle.ids.specs.declared.TaskId.{TaskId}
use Rattle.answers.specs.Run.{left}
use Rattle.irqwait.specs.Waits.{Wait, Waits, WAITERS, MARKS, has_cookie, is_for, is_mark, same_cookie, same_task, SoundWaiters, SoundMarks, SoundWaits}
use Rattle.irqwait.specs.Steps.{fresh, walk, arm_step, disarm_step, signal_at, signal_step, take_step}
use Rattle.irqwait.specs.Calls.{Call, arm, disarm, signal, take, pending, step}
use Rattle.irqwait.proofs.Places.{holds_thin, holds-put, holds-fresh, thin_set, thin_freed, distinct_add}
use Rattle.irqwait.proofs.Cases.{walk_clear, arm_far, arm-busy, arm_full, arm_done, signal-at, take-marked, take_unmarked}

-- a waiter's slot has a mark; a mark is under its own slot
abbrev pub low_slot : ℕ → Wait → Type 0
low_slot i w = w.id.slot < MARKS

abbrev pub own_slot : ℕ → TaskId → Type 0
own_slot s id = id.slot ≡ s

-- THE PARTS

eqb_turn : (a b : ℕ) → eqb a b ≡ eqb b a
eqb_turn a b = go (ℕ_discrete a b)
  where
    go : Dec (a ≡ b) → eqb a b ≡ eqb b a
    go (yes e) = rw e
    go (no e) = ne_eqb a b e ∙ sym (ne_eqb b a (λ f. e (sym f)))

module _ (ws : List (Option Wait)) (s : SoundWaiters ws) where
  put-waiter : (c : ℕ) (id : TaskId) (i : ℕ) → id.slot < MARKS → walk c id ws ≡ None → SoundWaiters (set ws i (Some (record { cookie = c; id = id })))
  put-waiter c id i low clear =
      let new : Wait = record { cookie = c; id = id } in
      record {
        places = length-set ws i (Some new) ∙ s.places;
        cookies =
            distinct_add same_cookie (λ v w. eqb_turn w.cookie v.cookie) ws i new s.cookies (λ k l. (walk_clear c id ws clear k l).0);
        ids =
            distinct_add same_task (λ v w. rw (eqb_turn w.id.slot v.id.slot, eqb_turn w.id.epoch v.id.epoch)) ws i new s.ids
            (λ k l. (walk_clear c id ws clear k l).1);
        slots = holds-put low_slot ws i new low s.slots;
      }

  thin_waiters : (vs : List (Option Wait)) → length vs ≡ length ws → ((i : ℕ) → (get_or vs i None ≡ None) ⊎ (get_or vs i None ≡ get_or ws i None)) → SoundWaiters vs
  thin_waiters vs len each =
      record {
        places = len ∙ s.places;
        cookies = distinct_thin same_cookie ws vs len each s.cookies;
        ids = distinct_thin same_task ws vs len each s.ids;
        slots = holds_thin low_slot ws vs each s.slots;
      }

module _ (ms : List (Option TaskId)) (s : SoundMarks ms) where
  put-mark : (id : TaskId) → SoundMarks (set ms id.slot (Some id))
  put-mark id =
      record { places = length-set ms id.slot (Some id) ∙ s.places; own = holds-put own_slot ms id.slot id refl s.own }

  clear_mark : (i : ℕ) → SoundMarks (set ms i None)
  clear_mark i =
      record { places = length-set ms i None ∙ s.places; own = holds_thin own_slot ms (set ms i None) (thin_set ms i) s.own }

-- THE STEPS

pub fresh-sound : SoundWaits fresh
fresh-sound =
    record {
      waiters = record {
        places = refl;
        cookies = distinct_fresh same_cookie WAITERS;
        ids = distinct_fresh same_task WAITERS;
        slots = holds-fresh low_slot WAITERS;
      };
      marks = record { places = refl; own = holds-fresh own_slot MARKS };
    }

module _ (w : Waits) (s : SoundWaits w) where
  pub arm_keeps : (c : ℕ) (id : TaskId) → SoundWaits (arm_step w c id).after
  arm_keeps c id =
      ⊎_elim (λ (low : id.slot < MARKS). walked low (walk c id w.waiters) refl) (λ (far : MARKS ≤ id.slot). rw (arm_far w c id far) s) (lt_or_ge id.slot MARKS)
    where
      walked : id.slot < MARKS → (o : Option ℕ) → walk c id w.waiters ≡ o → SoundWaits (arm_step w c id).after
      walked low (Some n) e = rw (arm-busy w c id low n e) s
      walked low None e =
          let i : ℕ = lowest_free w.waiters in
          ⊎_elim
          (λ (room : i < length w.waiters).
          rw (arm_done w c id low e i refl room)
          (record { waiters = put-waiter w.waiters s.waiters c id i low e; marks = s.marks }))
          (λ (full : length w.waiters ≤ i). rw (arm_full w c id low e i refl full) s)
          (lt_or_ge i (length w.waiters))

  pub disarm_keeps : (id : TaskId) → SoundWaits (disarm_step w id).after
  unfolding disarm_step
  disarm_keeps id =
      record {
        waiters =
            thin_waiters w.waiters s.waiters (freed (is_for id) w.waiters) (length-freed (is_for id) w.waiters)
            (thin_freed w.waiters (is_for id));
        marks = s.marks;
      }

  signal_at_keeps : (i : ℕ) (e : Option Wait) → SoundWaits (signal_at w i e).after
  unfolding signal_at
  signal_at_keeps i None = s
  signal_at_keeps i (Some e) =
      record {
        waiters = thin_waiters w.waiters s.waiters (set w.waiters i None) (length-set w.waiters i None) (thin_set w.waiters i);
        marks = put-mark w.pending s.marks e.id;
      }

  pub signal_keeps : (c : ℕ) → SoundWaits (signal_step w c).after
  signal_keeps c =
      let i : ℕ = first_at (taken (has_cookie c)) w.waiters in
      rw (signal-at w c i refl (get_or w.waiters i None) refl) (signal_at_keeps i (get_or w.waiters i None))

  pub take_keeps : (id : TaskId) → SoundWaits (take_step w id).after
  take_keeps id =
      ⊎_elim (λ h. rw (take-marked w id h) (record { waiters = s.waiters; marks = clear_mark w.pending s.marks id.slot }))
      (λ h. rw (take_unmarked w id h) s)
      (true_or_false (taken (is_mark id) (get_or w.pending id.slot None)))

  pub step_keeps : (call : Call) → SoundWaits (step w call).after
  unfolding step
  step_keeps (arm c id) = arm_keeps c id
  step_keeps (disarm id) = disarm_keeps id
  step_keeps (signal c) = signal_keeps c
  step_keeps (take id) = take_keeps id
  step_keeps (pending id) = s

-- whatever is called, one call after the other
pub calls_keep : (w : Waits) → SoundWaits w → (calls : List Call) → SoundWaits (left step w calls)
unfolding left
calls_keep w s [] = s
calls_keep w s (call ∷ calls) = calls_keep (step w call).after (step_keeps w s call) calls
