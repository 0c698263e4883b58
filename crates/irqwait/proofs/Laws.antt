-- What the arrays in memory are on paper, and what the soundness tests have to show at each turn.
use Rattle.std.specs.Prelude.{Option, Some, None}
use mathlib.Core.Path.{◌≡◌, refl, sym, ◌∙◌, ap}
use mathlib.Core.Bool.{Bool, true, false, ◌||◌}
use mathlib.Core.List.{List}
use mathlib.Core.Logic.{⊎_elim}
use Prim.Native.Nat.{ℕ, zero, suc, ◌+◌, ◌-◌, ◌<◌, ◌≤◌}
use native.Mathlib.Nat.{add-zero, add-suc}
use native.Mathlib.Numerals.{add-one}
use native.Mathlib.Omega.{arith}
use borrow.Author.Count.{below_none, below_more}
use lib.ListN.{length, get_or, set, drop, length-map, get_or-map}
use Rattle.std.proofs.lemmas.List.{length-drop, get_or-drop, get_or_default}
use Rattle.std.proofs.lemmas.List.Folds.{list_any_at, Any-from_list_any}
use Rattle.std.proofs.Math.Bool.{or-true}
use lib.Seq.{get_or-set_same, get_or-set_other}
use lib.Dec.{eqb}
use Rattle.std.specs.List.{position, list_any}
use Rattle.lists.specs.Tells.{Tells}
use Rattle.lists.specs.Flags.{FLAGS, is_set}
use Rattle.lists.specs.Search.{first_at}
use Rattle.lists.specs.Entries.{taken, alike, free, lowest_free, Distinct}
use Rattle.lists.proofs.Basics.{not_both, not_so, true_or_false, tells_yes, tells_no, set_default}
use Rattle.lists.proofs.TabLaws.{length-tab, get_or-tab, tab-set}
use Rattle.lists.proofs.EntriesLaws.{Cleared, Ahead, cleared-none, cleared_more, cleared-free, cleared-all, ahead_none, ahead_more, alike_found}
use Rattle.lists.proofs.EachLaws.{each_at, each_seen}
use Rattle.lists.proofs.FlagLaws.{set_on}
use Rattle.ids.specs.declared.TaskId.{TaskId}
use Rattle.ids.specs.Id.{idle}
use Rattle.irqwait.specs.declared.Waiter.{Waiter}
use Rattle.irqwait.specs.Waits.{Wait, WAITERS, MARKS, wait_of, waits_of, mark_at, marks_of, has_cookie, is_mark, same_cookie, same_task, SoundWaiters, SoundMarks, WaitersFit, MarksFit}
use Rattle.irqwait.proofs.Places.{searched_none, searched_some, taken-on, taken-off, holds_on, holds-off, holds_of, holds_if, Held, held_none, held_more, held_all, alike-on}
use Rattle.irqwait.proofs.Keeps.{low_slot, own_slot}

-- ON PAPER

-- what a live entry says
abbrev pub waiting : Waiter → Wait
waiting w = record { cookie = w.cookie.0; id = w.task }

module _ (w : Waiter) where
  pub wait_live : (w.live ≡ 0 → ⊥) → wait_of w ≡ Some (waiting w)
  wait_live h = rw (set_on w.live h)

  pub wait_dead : w.live ≡ 0 → wait_of w ≡ None
  wait_dead e = rw e

-- the tests of the searches in memory
abbrev pub has_in : ℕ → Waiter → Bool
has_in c w = taken (has_cookie c) (wait_of w)

abbrev pub is_free : Waiter → Bool
is_free w = eqb w.live 0

free-live : (w : Waiter) → free (wait_of w) ≡ eqb w.live 0
free-live w = go (eqb w.live 0) refl
  where
    go : (b : Bool) → eqb w.live 0 ≡ b → free (wait_of w) ≡ eqb w.live 0
    go true e = rw e
    go false e = rw e

-- a free entry
abbrev pub no_waiter : Waiter
no_waiter = record { live = 0; cookie = record { 0 = 0 }; task = idle }

module _ (ws : List Waiter) where
  pub waits-length : length (waits_of ws) ≡ length ws
  waits-length = simp length-map

  waits-at : (i : ℕ) → wait_of (get_or ws i no_waiter) ≡ get_or (waits_of ws) i None
  waits-at i = sym (get_or-map wait_of ws i no_waiter)

  pub waits_test : (p : Wait → Bool) (i : ℕ) → taken p (wait_of (get_or ws i no_waiter)) ≡ taken p (get_or (waits_of ws) i None)
  waits_test p i = ap (taken p) (waits-at i)

  pub waits-live : (i : ℕ) → ((get_or ws i no_waiter).live ≡ 0 → ⊥) → get_or (waits_of ws) i None ≡ Some (waiting (get_or ws i no_waiter))
  waits-live i h = sym (waits-at i) ∙ wait_live (get_or ws i no_waiter) h

  pub waits_dead : (i : ℕ) → (get_or ws i no_waiter).live ≡ 0 → get_or (waits_of ws) i None ≡ None
  waits_dead i h = sym (waits-at i) ∙ wait_dead (get_or ws i no_waiter) h

  -- where a test holds, the entry is live
  pub waits-taken : (p : Wait → Bool) (i : ℕ) → taken p (get_or (waits_of ws) i None) ≡ true → get_or (waits_of ws) i None ≡ Some (waiting (get_or ws i no_waiter))
  waits-taken p i h = waits-live i (λ dead. not_both h (ap (taken p) (waits_dead i dead)))

  -- what they find
  module _ (c : ℕ) where
    pub cookie_none : position (has_in c) ws ≡ None → length ws ≤ first_at (taken (has_cookie c)) (waits_of ws)
    cookie_none e = searched_none wait_of (taken (has_cookie c)) _ (λ w. refl) ws e

    pub cookie_some : (i : ℕ) → position (has_in c) ws ≡ Some i → (i ≡ first_at (taken (has_cookie c)) (waits_of ws)) × (i < length ws)
    cookie_some i e = searched_some wait_of (taken (has_cookie c)) _ (λ w. refl) ws i e

  pub free_none : position is_free ws ≡ None → length ws ≤ lowest_free (waits_of ws)
  free_none e = searched_none wait_of free _ free-live ws e

  pub free_some : (i : ℕ) → position is_free ws ≡ Some i → (i ≡ lowest_free (waits_of ws)) × (i < length ws)
  free_some i e = searched_some wait_of free _ free-live ws i e

-- the id at a slot, which counts where the flag is set
abbrev pub id_at : List ℕ → List ℕ → ℕ → TaskId
id_at slots epochs s = record { slot = get_or slots s 0; epoch = get_or epochs s 0 }

module _ (pending slots epochs : List ℕ) where
  -- whether the mark of a task's slot is the task's
  module _ (id : TaskId) (k : ℕ) (at : k ≡ id.slot) where
    pub mark_clear : get_or pending k 0 ≡ 0 → false ≡ taken (is_mark id) (mark_at pending slots epochs id.slot)
    mark_clear e = taken-off (is_mark id) (mark_at pending slots epochs id.slot) (rw (← at, e))

    pub mark_set : (r : Bool) → (get_or pending k 0 ≡ 0 → ⊥) → r ≡ is_mark id (id_at slots epochs k) → r ≡ taken (is_mark id) (mark_at pending slots epochs id.slot)
    mark_set r h e = e ∙ taken-on (is_mark id) (mark_at pending slots epochs id.slot) (rw (← at, set_on (get_or pending k 0) h))

  marks-length : length (marks_of pending slots epochs) ≡ MARKS
  marks-length = length-tab MARKS (mark_at pending slots epochs)

  pub marks-at : (s : ℕ) → s < MARKS → get_or (marks_of pending slots epochs) s None ≡ mark_at pending slots epochs s
  marks-at s l = get_or-tab MARKS (mark_at pending slots epochs) s None l

  -- marks that fit are sound on paper, and sound ones are under their own slots
  pub marks-sound : MarksFit pending slots → SoundMarks (marks_of pending slots epochs)
  unfolding Held
  marks-sound fit =
      record {
        places = marks-length;
        own = held_all own_slot (marks_of pending slots epochs) MARKS
            (λ s l. rw (marks-at s l) (holds_if (own_slot s) (is_set (get_or pending s 0)) (id_at slots epochs s) (fit s l).own))
            (omega (arith, marks-length));
      }

  pub marks-own : SoundMarks (marks_of pending slots epochs) → (s : ℕ) → s < MARKS → is_set (get_or pending s 0) ≡ true → get_or slots s 0 ≡ s
  marks-own d s l e = holds_of (own_slot s) (mark_at pending slots epochs s) {x = id_at slots epochs s} (rw e) (rw (marks-at s l) at (d.own s))

  -- a mark put, and one taken: only the flag says that it is gone
  pub marks-put : (k f a b : ℕ) → k < MARKS → k < length pending → k < length slots → k < length epochs → f ≡ 1
      → marks_of (set pending k f) (set slots k a) (set epochs k b) ≡ set (marks_of pending slots epochs) k (Some (record { slot = a; epoch = b }))
  marks-put k f a b low p q r e =
      tab-set MARKS (mark_at pending slots epochs) (mark_at (set pending k f) (set slots k a) (set epochs k b)) k
      (λ j ne. rw (get_or-set_other pending k j f 0 ne, get_or-set_other slots k j a 0 ne, get_or-set_other epochs k j b 0 ne))
      low
      ∙ rw (get_or-set_same pending k f 0 p, get_or-set_same slots k a 0 q, get_or-set_same epochs k b 0 r, e)

  pub marks-cleared : (k f : ℕ) → k < MARKS → f ≡ 0 → marks_of (set pending k f) slots epochs ≡ set (marks_of pending slots epochs) k None
  marks-cleared k f low e =
      rw e
      (tab-set MARKS (mark_at pending slots epochs) (mark_at (set pending k 0) slots epochs) k (λ j ne. rw (get_or-set_other pending k j 0 0 ne)) low
      ∙ rw (set_default 0 pending k))

-- THE TEST OF THE WAITERS

-- the entries before i are judged, each against all after it
pub record Judged (ws : List (Option Wait)) (i : ℕ) : Type 0 where
  pub cookies : Cleared same_cookie ws i
  pub ids : Cleared same_task ws i
  pub slots : Held low_slot ws i

module _ (ws : List (Option Wait)) where
  judged_none : Judged ws 0
  judged_none = record { cookies = cleared-none same_cookie ws; ids = cleared-none same_task ws; slots = held_none low_slot ws }

  judged_all : (i : ℕ) → Judged ws i → length ws ≡ WAITERS → length ws ≤ i → SoundWaiters ws
  judged_all i d len past =
      record {
        places = len;
        cookies = cleared-all same_cookie ws i d.cookies past;
        ids = cleared-all same_task ws i d.ids past;
        slots = held_all low_slot ws i d.slots past;
      }

  pub judged_free : (i : ℕ) → Judged ws i → get_or ws i None ≡ None → Judged ws (i + 1)
  judged_free i d h =
      record {
        cookies = cleared-free same_cookie ws i d.cookies h;
        ids = cleared-free same_task ws i d.ids h;
        slots = held_more low_slot ws i d.slots (holds-off (low_slot i) (get_or ws i None) h);
      }

  module _ (i : ℕ) (x : Wait) (here : get_or ws i None ≡ Some x) where
    judged_more : (j : ℕ) → Judged ws i → Ahead same_cookie ws i j → Ahead same_task ws i j → length ws ≤ j → x.id.slot < MARKS → Judged ws (i + 1)
    judged_more j d cookies ids all low =
        record {
          cookies = cleared_more same_cookie ws i j d.cookies cookies all;
          ids = cleared_more same_task ws i j d.ids ids all;
          slots = held_more low_slot ws i d.slots (holds_on (low_slot i) (get_or ws i None) here low);
        }

    pub slot-high : MARKS ≤ x.id.slot → SoundWaiters ws → ⊥
    slot-high h s = let low : x.id.slot < MARKS = holds_of (low_slot i) (get_or ws i None) here (s.slots i) in omega arith

-- an entry has the cookie or the task of a wait
abbrev clash : Wait → Waiter → Bool
clash x w = taken (same_cookie x) (wait_of w) || taken (same_task x) (wait_of w)

-- one of the entries after i has
abbrev pub clash_after : List Waiter → ℕ → Wait → Bool
clash_after ws i x = list_any (clash x) (drop (i + 1) ws)

module _ (ws : List Waiter) (i : ℕ) (x : Wait) (here : get_or (waits_of ws) i None ≡ Some x) where
  module _ (b : ℕ) (after : i < b) (within : b < length ws) where
    clash_at : clash x (get_or ws b no_waiter) ≡ true → clash_after ws i x ≡ true
    clash_at e =
        let at : i + 1 + (b - (i + 1)) ≡ b = omega arith in
        list_any_at (clash x) (drop (i + 1) ws) (b - (i + 1)) no_waiter (rw (length-drop (i + 1) ws) (omega arith))
        (rw (get_or-drop (i + 1) ws (b - (i + 1)) no_waiter, at) e)

    like : (t : Wait → Wait → Bool) → taken (t x) (wait_of (get_or ws b no_waiter)) ≡ true → Distinct t (waits_of ws) → ⊥
    like t e =
        alike_found t (waits_of ws) i b after (omega (arith, waits-length ws))
        (alike-on t (get_or (waits_of ws) i None) (get_or (waits_of ws) b None) here ∙ sym (waits_test ws (t x) b) ∙ e)

    clashing : clash x (get_or ws b no_waiter) ≡ true → SoundWaiters (waits_of ws) → ⊥
    clashing e s =
        ⊎_elim (λ h. like same_cookie h s.cookies) (λ h. like same_task (rw h at e) s.ids)
        (true_or_false (taken (same_cookie x) (wait_of (get_or ws b no_waiter))))

  -- where none clashes, none after i is like it
  module _ (none : clash_after ws i x ≡ false) (t : Wait → Wait → Bool) (by : (w : Waiter) → taken (t x) (wait_of w) ≡ true → clash x w ≡ true) where
    unlike : (b : ℕ) → i < b → b < length ws → alike t (get_or (waits_of ws) i None) (get_or (waits_of ws) b None) ≡ false
    unlike b after within =
        not_so _
        (λ e.
        not_both
        (clash_at b after within
        (by (get_or ws b no_waiter)
        (waits_test ws (t x) b ∙ sym (alike-on t (get_or (waits_of ws) i None) (get_or (waits_of ws) b None) here) ∙ e)))
        none)

    ahead : (n : ℕ) → i + 1 + n ≤ length ws → Ahead t (waits_of ws) i (i + 1 + n)
    ahead zero h = rw add-zero (ahead_none t (waits_of ws) i)
    ahead (suc n) h =
        rw (add-suc (i + 1) n, ← add-one (i + 1 + n))
        (ahead_more t (waits_of ws) i (i + 1 + n) (ahead n (omega arith)) (unlike (i + 1 + n) (omega arith) (omega arith)))

  pub judged_clear : i < length ws → Judged (waits_of ws) i → clash_after ws i x ≡ false → x.id.slot < MARKS → Judged (waits_of ws) (i + 1)
  judged_clear within d none low =
      let n : ℕ = length ws - (i + 1) in
      judged_more (waits_of ws) i x here (i + 1 + n) d (ahead none same_cookie (λ w h. rw h) n (omega arith))
      (ahead none same_task (λ w h. rw (h, or-true)) n (omega arith)) (omega (arith, waits-length ws)) low

  pub clash_found : clash_after ws i x ≡ true → SoundWaiters (waits_of ws) → ⊥
  clash_found e s =
      let f = Any-from_list_any (clash x) (drop (i + 1) ws) e in
      let within : i + 1 + f.0 < length ws = omega (arith, f.2, length-drop (i + 1) ws) in
      let at : get_or ws (i + 1 + f.0) no_waiter ≡ f.1 =
      get_or_default ws (i + 1 + f.0) no_waiter f.1 within ∙ sym (get_or-drop (i + 1) ws f.0 f.1) ∙ f.3
      in
      clashing (i + 1 + f.0) (omega arith) within (rw at f.4) s

-- in memory: the flags of the entries before i are known, and what they are on paper is judged
pub record Tested (ws : List Waiter) (i : ℕ) : Type 0 where
  pub plain : Judged (waits_of ws) i
  pub live : (k : ℕ) → k < i → (get_or ws k no_waiter).live < FLAGS

module _ (ws : List Waiter) where
  pub tested_none : Tested ws 0
  tested_none = record { plain = judged_none (waits_of ws); live = below_none _ }

  module _ (i : ℕ) where
    pub tested_more : Tested ws i → (get_or ws i no_waiter).live < FLAGS → Judged (waits_of ws) (i + 1) → Tested ws (i + 1)
    tested_more d known j = record { plain = j; live = below_more _ i d.live known }

    pub tested_all : Tested ws i → length ws ≡ WAITERS → WAITERS ≤ i → Tells true (WaitersFit ws)
    tested_all d len all =
        tells_yes
        (record {
          plain = judged_all (waits_of ws) i d.plain (waits-length ws ∙ len) (omega (arith, waits-length ws));
          live = each_seen _ ws i no_waiter (omega arith) d.live;
        })

    pub flag_unknown : FLAGS ≤ (get_or ws i no_waiter).live → Tells false (WaitersFit ws)
    flag_unknown h = tells_no (λ s. let known : (get_or ws i no_waiter).live < FLAGS = each_at _ ws i no_waiter (omega arith) s.live in omega arith)
