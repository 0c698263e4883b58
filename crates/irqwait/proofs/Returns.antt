-- What each call on the wait table has to show where it returns, over plain values.
use Rattle.std.specs.Prelude.{Some, None, Result, Ok, Err}
use mathlib.Core.Path.{◌≡◌, refl, sym, ◌∙◌, ap}
use mathlib.Core.Bool.{Bool, true, false}
use mathlib.Core.List.{List}
use Prim.Native.Nat.{ℕ, ◌+◌, ◌<◌, ◌≤◌}
use native.Mathlib.Omega.{arith}
use lib.ListN.{length, get_or, set, replicate, get_or-eq_default}
use Rattle.std.proofs.lemmas.List.{set-get_or}
use Rattle.std.specs.List.{position}
use Rattle.lists.specs.Tab.{tab}
use Rattle.lists.specs.Tells.{Tells}
use Rattle.lists.specs.Flags.{FLAGS}
use Rattle.lists.specs.Search.{first_at}
use Rattle.lists.specs.Entries.{taken, lowest_free}
use Rattle.lists.proofs.Basics.{map-set, tells_no, tells_by, set_holds, get_or-all}
use Rattle.lists.proofs.SearchLaws.{first_is}
use Rattle.lists.proofs.EntriesLaws.{Freeing, freeing_start, freeing_read, freeing_pass, freeing_hit, freeing_all}
use Rattle.lists.proofs.EachLaws.{each_set, each_all}
use Rattle.ids.specs.declared.TaskId.{TaskId}
use Rattle.answers.specs.declared.Refusal.{Refusal}
use Rattle.answers.specs.Reply.{Reply, Refused, refused, done, told, named}
use Rattle.answers.specs.Answers.{refusal_no}
use Rattle.answers.specs.Contract.{Step, Makes, Does, Answers}
use Rattle.answers.proofs.Returns.{answers, does_keep, does}
use Rattle.irqwait.specs.declared.Waiter.{Waiter}
use Rattle.irqwait.specs.declared.WaitTable.{WaitTable}
use Rattle.irqwait.specs.Waits.{Waits, WAITERS, MARKS, wait_of, mark_at, waits_of, view, has_cookie, is_for, is_mark, SoundWaits, LiveKnown, SetKnown, Sound, WaitersFit, MarksFit, waits}
use Rattle.irqwait.specs.Lent.{whole}
use Rattle.irqwait.specs.Steps.{fresh, new_step, refusal_of, walk, arm_step, disarm_step, signal_step, take_step, pending_reply}
use Rattle.irqwait.proofs.Places.{holds_of}
use Rattle.irqwait.proofs.Cases.{walk_says, arm_far, arm-busy, arm_full, arm_done, signal-nothing, signal_found, take-marked, take_unmarked}
use Rattle.irqwait.proofs.Keeps.{low_slot, fresh-sound, arm_keeps, disarm_keeps, signal_keeps, take_keeps}
use Rattle.irqwait.proofs.Laws.{waiting, no_waiter, has_in, is_free, cookie_none, cookie_some, free_none, free_some, waits-length, waits_test, waits-taken, marks-at, marks-sound, marks-own, marks-put, marks-cleared}

-- THE TABLE, MADE AND TESTED

module _ (u : WaitTable) where
  pub made : u.waiters ≡ replicate WAITERS no_waiter → u.pending ≡ replicate MARKS 0 → Makes waits u done new_step
  unfolding view tab
  made e f =
      let after : view u ≡ fresh = rw (e, f) in
      record {
        reply = refl;
        after = after;
        sound = record {
          plain = rw after fresh-sound;
          live = rw e (each_all _ WAITERS no_waiter (omega arith));
          set = λ s l. rw (f, get_or-all {A = ℕ} MARKS s 0) (omega arith);
        };
      }

  pub waiters-bad : (WaitersFit u.waiters → ⊥) → Tells false (Sound u)
  unfolding view
  waiters-bad h = tells_no (λ s. h (record { plain = s.plain.waiters; live = s.live }))

  pub marks_tell : (b : Bool) → WaitersFit u.waiters → Tells b (MarksFit u.pending u.pending_slots) → Tells b (Sound u)
  unfolding view
  marks_tell b w d =
      tells_by b
      (λ e.
      let fit = d.true_is e in
      record {
        plain = record { waiters = w.plain; marks = marks-sound u.pending u.pending_slots u.pending_epochs fit };
        live = w.live;
        set = λ s l. (fit s l).set;
      })
      (λ e v.
      d.false_is e
      (λ s l. record { own = marks-own u.pending u.pending_slots u.pending_epochs v.plain.marks s l; set = v.set s l }))

-- ANY CALL

-- other waiters, the same marks
abbrev with_waiters : WaitTable → List Waiter → WaitTable
with_waiters t ws = whole t.pending t.pending_slots t.pending_epochs ws

module _ (t : WaitTable) (s : Sound t) where
  set_known : (k f : ℕ) → f < FLAGS → SetKnown (set t.pending k f)
  set_known k f h i l = set_holds 0 (λ (v : ℕ). v < FLAGS) t.pending k i f h (s.set i l)

  module _ (want : Step Waits) where
    refuses : (n : ℕ) → want ≡ record { reply = refused n; after = view t } → (n ≡ 1 → ⊥) → Does waits t t (refused n) want
    refuses n e f = does_keep waits t (refused n) want s (λ z. f (cc)) (ap (λ (x : Step Waits). x.reply) (sym e)) (ap (λ (x : Step Waits). x.after) (sym e))

    changes : (u : WaitTable) (got : Reply) → want ≡ record { reply = got; after = view u } → SoundWaits want.after → LiveKnown u.waiters → SetKnown u.pending → (Refused got → ⊥) → Does waits t u got want
    changes u got e k live set f =
        does waits t u got want f (ap (λ (x : Step Waits). x.reply) (sym e)) (ap (λ (x : Step Waits). x.after) (sym e))
        (record { plain = rw e at k; live = live; set = set })

    -- an answer that leaves the table
    leaves : (got : Reply) → want ≡ record { reply = got; after = view t } → SoundWaits want.after → (Refused got → ⊥) → Does waits t t got want
    leaves got e k = changes t got e k s.live s.set

  -- ARM

  module _ (c : ℕ) (id : TaskId) where
    pub arms_far : MARKS ≤ id.slot → Does waits t t (refused 8) (arm_step (view t) c id)
    arms_far h = refuses (arm_step (view t) c id) 8 (arm_far (view t) c id h) (λ z. omega arith)

    module _ (low : id.slot < MARKS) (verdict : Result (Unit {0}) Refusal) (says : refusal_of verdict ≡ walk c id (waits_of t.waiters)) where
      pub arms_busy : (r : Refusal) → verdict ≡ Err r → Does waits t t (refused (refusal_no r)) (arm_step (view t) c id)
      unfolding view
      arms_busy r e =
          let found : walk c id (waits_of t.waiters) ≡ Some (refusal_no r) = sym says ∙ ap refusal_of e in
          let n : 9 ≤ refusal_no r = walk_says c id (waits_of t.waiters) (refusal_no r) found in
          refuses (arm_step (view t) c id) (refusal_no r) (arm-busy (view t) c id low (refusal_no r) found) (λ z. omega arith)

      module _ (clear : verdict ≡ Ok tt) where
        pub arms_full : None ≡ position is_free t.waiters → Does waits t t (refused 11) (arm_step (view t) c id)
        unfolding view
        arms_full e =
            refuses (arm_step (view t) c id) 11
            (arm_full (view t) c id low (sym says ∙ ap refusal_of clear) (lowest_free (waits_of t.waiters)) refl
            (omega (arith, waits-length t.waiters, free_none t.waiters (sym e)))) (λ z. omega arith)

        pub arms : (i : ℕ) → Some i ≡ position is_free t.waiters → (e : Waiter) → e ≡ record { live = 1; cookie = record { 0 = c }; task = id }
            → Does waits t (with_waiters t (set t.waiters i e)) done (arm_step (view t) c id)
        unfolding view
        arms i at e new =
            let there = free_some t.waiters i (sym at) in
            changes (arm_step (view t) c id) (with_waiters t (set t.waiters i e)) done
            (arm_done (view t) c id low (sym says ∙ ap refusal_of clear) i there.0 (omega (arith, waits-length t.waiters, there.1)) ∙ rw (map-set wait_of t.waiters i e, new))
            (arm_keeps (view t) s.plain c id)
            (each_set _ t.waiters i e (rw new (omega arith)) s.live)
            s.set
            (λ z. z)

  -- SIGNAL

  module _ (c : ℕ) where
    pub signals_nothing : None ≡ position (has_in c) t.waiters → Does waits t t (named None) (signal_step (view t) c)
    unfolding view
    signals_nothing e =
        leaves (signal_step (view t) c) (named None)
        (signal-nothing (view t) c (first_at (taken (has_cookie c)) (waits_of t.waiters)) refl
        (omega (arith, waits-length t.waiters, cookie_none t.waiters c (sym e))))
        (signal_keeps (view t) s.plain c)
        (λ z. z)

    module _ (i : ℕ) (at : Some i ≡ position (has_in c) t.waiters) where
      -- what is found is live
      found : get_or (waits_of t.waiters) i None ≡ Some (waiting (get_or t.waiters i no_waiter))
      unfolding view
      found =
          let there = cookie_some t.waiters c i (sym at) in
          let within : first_at (taken (has_cookie c)) (waits_of t.waiters) < length (waits_of t.waiters) = omega (arith, there.0, there.1, waits-length t.waiters) in
          waits-taken t.waiters (has_cookie c) i (rw there.0 (first_is (taken (has_cookie c)) (waits_of t.waiters) None within))

      -- and its slot has a mark
      pub found_low : (i < length t.waiters) × ((get_or t.waiters i no_waiter).task.slot < MARKS)
      unfolding view
      found_low =
          ((cookie_some t.waiters c i (sym at)).1, holds_of (low_slot i) (get_or (waits_of t.waiters) i None) found (s.plain.waiters.slots i))

      pub signals : (e : Waiter) (k f : ℕ) (id : TaskId) → id ≡ (get_or t.waiters i no_waiter).task → e ≡ no_waiter → f ≡ 1 → k ≡ id.slot
          → k < length t.pending → k < length t.pending_slots → k < length t.pending_epochs
          → Does waits t (whole (set t.pending k f) (set t.pending_slots k id.slot) (set t.pending_epochs k id.epoch) (set t.waiters i e)) (named (Some id)) (signal_step (view t) c)
      unfolding view
      signals e k f id is gone flag own p q r =
          let low : k < MARKS = rw (own, is) found_low.1 in
          changes (signal_step (view t) c)
          (whole (set t.pending k f) (set t.pending_slots k id.slot) (set t.pending_epochs k id.epoch) (set t.waiters i e))
          (named (Some id))
          (signal_found (view t) c i (cookie_some t.waiters c i (sym at)).0 (waiting (get_or t.waiters i no_waiter)) found
          ∙ rw (map-set wait_of t.waiters i e, gone, marks-put t.pending t.pending_slots t.pending_epochs k f id.slot id.epoch low p q r flag, own, is))
          (signal_keeps (view t) s.plain c)
          (each_set _ t.waiters i e (rw gone (omega arith)) s.live)
          (set_known k f (omega arith))
          (λ z. z)

  -- MARKS

  module _ (id : TaskId) where
    -- whether the task has a mark, on paper
    marked : Bool
    marked = taken (is_mark id) (get_or (view t).pending id.slot None)

    shows : (b : Bool) → marked ≡ b → Answers waits t (told b) (pending_reply (view t) id)
    unfolding marked
    shows b e = answers waits t (told b) (pending_reply (view t) id) s (λ f. let z : ◌≡◌ {A = ℕ} 0 1 = cc in omega arith) (ap told (sym e))

    takes_nothing : marked ≡ false → Does waits t t (told false) (take_step (view t) id)
    unfolding marked
    takes_nothing e = leaves (take_step (view t) id) (told false) (take_unmarked (view t) id e) (take_keeps (view t) s.plain id) (λ z. z)

    -- a slot past the marks has none
    far_unmarked : MARKS ≤ id.slot → marked ≡ false
    unfolding marked
    far_unmarked h = rw (get_or-eq_default (view t).pending None {n = id.slot} (omega (arith, s.plain.marks.places)))

    pub shows_far : MARKS ≤ id.slot → Answers waits t (told false) (pending_reply (view t) id)
    shows_far h = shows false (far_unmarked h)

    pub takes_far : MARKS ≤ id.slot → Does waits t t (told false) (take_step (view t) id)
    takes_far h = takes_nothing (far_unmarked h)

    module _ (low : id.slot < MARKS) (b : Bool) (says : b ≡ taken (is_mark id) (mark_at t.pending t.pending_slots t.pending_epochs id.slot)) where
      at_slot : marked ≡ b
      unfolding marked view
      at_slot = ap (taken (is_mark id)) (marks-at t.pending t.pending_slots t.pending_epochs id.slot low) ∙ sym says

      pub shows_at : Answers waits t (told b) (pending_reply (view t) id)
      shows_at = shows b at_slot

      pub takes_not : b ≡ false → Does waits t t (told false) (take_step (view t) id)
      takes_not e = takes_nothing (at_slot ∙ e)

      pub takes : b ≡ true → (k f : ℕ) → k ≡ id.slot → f ≡ 0
          → Does waits t (whole (set t.pending k f) t.pending_slots t.pending_epochs t.waiters) (told true) (take_step (view t) id)
      unfolding marked view
      takes e k f own gone =
          changes (take_step (view t) id) (whole (set t.pending k f) t.pending_slots t.pending_epochs t.waiters) (told true)
          (take-marked (view t) id (at_slot ∙ e) ∙ rw (marks-cleared t.pending t.pending_slots t.pending_epochs k f (omega arith) gone, own))
          (take_keeps (view t) s.plain id)
          s.live
          (set_known k f (omega arith))
          (λ z. z)

-- DISARM

-- among the first i waiters, those of the task have been freed, and every flag is known
pub record Disarming (ws : List Waiter) (id : TaskId) (i : ℕ) (vs : List Waiter) : Type 0 where
  pub plain : Freeing (is_for id) (waits_of ws) i (waits_of vs)
  pub live : LiveKnown vs

module _ (t : WaitTable) (id : TaskId) (s : Sound t) where
  pub disarming_start : Disarming t.waiters id 0 t.waiters
  disarming_start = record { plain = freeing_start (is_for id) (waits_of t.waiters); live = s.live }

  module _ (i : ℕ) (vs : List Waiter) (d : Disarming t.waiters id i vs) where
    pub disarms : WAITERS ≤ i → Does waits t (with_waiters t vs) done (disarm_step (view t) id)
    unfolding view disarm_step
    disarms h =
        changes t s (disarm_step (view t) id) (with_waiters t vs) done
        (rw (freeing_all (is_for id) (waits_of t.waiters) i (waits_of vs) d.plain (omega (arith, s.plain.waiters.places))))
        (disarm_keeps (view t) s.plain id)
        d.live
        s.set
        (λ z. z)

    module _ (more : i < WAITERS) (b : Bool) (says : b ≡ taken (is_for id) (wait_of (get_or vs i no_waiter))) where
      within : i < length (waits_of t.waiters)
      unfolding view
      within = omega (arith, s.plain.waiters.places)

      at_place : taken (is_for id) (get_or (waits_of t.waiters) i None) ≡ b
      at_place =
          sym (says ∙ waits_test vs (is_for id) i ∙ ap (taken (is_for id)) (freeing_read (is_for id) (waits_of t.waiters) i (waits_of vs) d.plain within))

      pub disarming_pass : b ≡ false → Disarming t.waiters id (i + 1) vs
      disarming_pass e =
          record { plain = freeing_pass (is_for id) (waits_of t.waiters) i (waits_of vs) d.plain within (at_place ∙ e); live = d.live }

      -- an entry of another is stored as it was
      pub disarming_same : b ≡ false → (f : Waiter) → f ≡ get_or vs i no_waiter → Disarming t.waiters id (i + 1) (set vs i f)
      disarming_same e f is = rw (is, set-get_or vs i no_waiter) (disarming_pass e)

      pub disarming_hit : b ≡ true → (f : Waiter) → f ≡ no_waiter → Disarming t.waiters id (i + 1) (set vs i f)
      disarming_hit e f gone =
          record {
            plain = rw (map-set wait_of vs i f, gone) (freeing_hit (is_for id) (waits_of t.waiters) i (waits_of vs) d.plain within (at_place ∙ e));
            live = each_set _ vs i f (rw gone (omega arith)) d.live;
          }
