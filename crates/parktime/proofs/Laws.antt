-- The entries in memory against the deadlines on paper, and what the tests and the returns of the calls show.
use Rattle.std.specs.Prelude.{Option, Some, None, ◌≡◌, Bool, true, false, not, cond, eqb, ltb, map, ℕ, ◌+◌, ◌-◌, ◌<◌, ◌≤◌, List, ◌∷◌}
use Rattle.std.proofs.Common.{refl, sym, ◌∙◌, ap, drop, arith, length-drop, get_or-drop}
use Rattle.std.specs.List.{list_any, Any, position, position_or_len}
use Rattle.std.specs.Option.{option_or}
use Rattle.std.proofs.lemmas.List.{get_or_default}
use Rattle.std.proofs.lemmas.Bool.{ltb-true, ltb-false}
use Rattle.std.proofs.lemmas.Option.{none-some}
use Rattle.std.proofs.lemmas.List.Recursion.{is_position_or_len}
use Rattle.std.proofs.lemmas.List.Folds.{Any-from_list_any, list_any_at}
use borrow.Author.Count.{below_none, below_more}
use lib.ListN.{length, get_or, set, replicate, length-map, get_or-map}
use Rattle.lists.specs.Tells.{Tells}
use Rattle.lists.specs.Flags.{FLAGS, is_set}
use Rattle.lists.specs.Search.{first_at}
use Rattle.lists.specs.Entries.{free, taken, lowest_free, alike, Distinct}
use Rattle.lists.proofs.Basics.{not_both, map-set, map-replicate, tells_yes, tells_no}
use Rattle.lists.proofs.SearchLaws.{first-nil, first_hit, first_pass}
use Rattle.lists.proofs.EntriesLaws.{Freeing, freeing_start, freeing_read, freeing_pass, freeing_hit, freeing_all, alike_found}
use Rattle.lists.proofs.EachLaws.{each_at, each_seen, each_set, each_all}
use Rattle.lists.proofs.FlagLaws.{set_on}
use Rattle.ids.specs.declared.TaskId.{TaskId}
use Rattle.ids.specs.Id.{idle}
use Rattle.answers.specs.Reply.{refused, done}
use Rattle.answers.specs.Contract.{Step, Makes, Does}
use Rattle.answers.proofs.Returns.{does, does_keep}
use Rattle.parktime.specs.declared.Entry.{Entry}
use Rattle.parktime.specs.declared.Table.{Table}
use Rattle.parktime.specs.Deadlines.{Deadline, Deadlines, PLACES, deadline_of, view, is_for, same_task, SoundDeadlines, FlagsKnown, Sound, deadlines}
use Rattle.parktime.specs.Steps.{new_step, place_for, arm_step, disarm_step}
use Rattle.parktime.proofs.Cases.{arm_stores, arm-refuses}
use Rattle.parktime.proofs.Keeps.{alike-some, new_keeps, arm_keeps, disarm_keeps}

-- ONE ENTRY

-- what stands at a place that holds nothing
abbrev pub empty : Entry
empty = record { live = 0; task = idle; deadline = 0 }

-- what a live entry holds
abbrev pub held : Entry → Deadline
held e = record { id = e.task; at = e.deadline }

-- what `arm_in` stores
abbrev pub armed : TaskId → ℕ → Entry
armed id at = record { live = 1; task = id; deadline = at }

module _ (e : Entry) where
  pub dead_none : e.live ≡ 0 → deadline_of e ≡ None
  dead_none h = rw h

  pub live-some : (e.live ≡ 0 → ⊥) → deadline_of e ≡ Some (held e)
  live-some h = rw (set_on e.live h)

  pub taken-held : (p : Deadline → Bool) → taken p (deadline_of e) ≡ true → (deadline_of e ≡ Some (held e)) × (p (held e) ≡ true)
  taken-held p h = go (is_set e.live) h
    where
      go : (b : Bool) → taken p (cond b (Some (held e)) None) ≡ true → (cond b (Some (held e)) None ≡ Some (held e)) × (p (held e) ≡ true)
      go true k = (refl, k)
      go false k = absurd (not_both k refl)

-- THE TABLE

module _ (t : Table) where
  pub view-long : length t.entries ≡ PLACES → length (view t) ≡ PLACES
  unfolding view
  view-long h = simp length-map h

  view-at : (i : ℕ) → get_or (view t) i None ≡ deadline_of (get_or t.entries i empty)
  unfolding view
  view-at i = get_or-map deadline_of t.entries i empty

  view-set : (i : ℕ) (e : Entry) (u : Table) → u.entries ≡ set t.entries i e → view u ≡ set (view t) i (deadline_of e)
  unfolding view
  view-set i e u h = ap (map deadline_of) h ∙ map-set deadline_of t.entries i e

  -- whether an entry is for the task of the one at i
  abbrev pub mate : ℕ → Entry → Bool
  mate i e = taken (is_for (get_or t.entries i empty).task) (deadline_of e)

  -- the test of two places, the first of which is taken
  pair : (i j : ℕ) → ((get_or t.entries i empty).live ≡ 0 → ⊥)
      → alike same_task (get_or (view t) i None) (get_or (view t) j None) ≡ mate i (get_or t.entries j empty)
  pair i j l =
      rw (view-at i, view-at j, live-some (get_or t.entries i empty) l)
      (alike-some (held (get_or t.entries i empty)) (deadline_of (get_or t.entries j empty)))

  -- WHAT `sound` TELLS

  -- no later entry is like the one at i
  abbrev pub Lone : ℕ → Type 0
  Lone i = (j : ℕ) → i < j → j < length (view t) → alike same_task (get_or (view t) i None) (get_or (view t) j None) ≡ true → ⊥

  -- the entries before i: each flag is known, and no later entry is like it
  pub record Tested (i : ℕ) : Type 0 where
    pub ids : (k : ℕ) → k < i → Lone k
    pub flags : (k : ℕ) → k < i → (get_or t.entries k empty).live < FLAGS

  pub tested_none : Tested 0
  tested_none = record { ids = below_none _; flags = below_none _ }

  pub tested_more : (i : ℕ) → Tested i → (get_or t.entries i empty).live < FLAGS → Lone i → Tested (i + 1)
  tested_more i d f c = record { ids = below_more _ i d.ids c; flags = below_more _ i d.flags f }

  pub lone_dead : (i : ℕ) → (get_or t.entries i empty).live ≡ 0 → Lone i
  lone_dead i h j ij jl e = not_both (rw (view-at i, dead_none (get_or t.entries i empty) h) at e) refl

  -- the entries after i
  abbrev pub later : ℕ → List Entry
  later i = drop (i + 1) t.entries

  later-at : (i k : ℕ) → length t.entries ≡ PLACES → get_or (later i) k empty ≡ get_or t.entries (i + 1 + k) empty
  later-at i k n = get_or-drop (i + 1) t.entries k empty

  later-long : (i : ℕ) → length t.entries ≡ PLACES → length (later i) ≡ PLACES - (i + 1)
  later-long i n = length-drop (i + 1) t.entries ∙ rw n

  -- the test of the entries from a place on, however the place after i is spelled
  pub lone_live : (i from : ℕ) → from ≡ i + 1 → length t.entries ≡ PLACES → ((get_or t.entries i empty).live ≡ 0 → ⊥) → list_any (mate i) (drop from t.entries) ≡ false → Lone i
  lone_live i from next n l h j ij jl e =
      let none : list_any (mate i) (later i) ≡ false = ap (λ k. list_any (mate i) (drop k t.entries)) (sym next) ∙ h in
      let k : ℕ = j - (i + 1) in
      let at : i + 1 + k ≡ j = omega arith in
      let there : get_or (later i) k empty ≡ get_or t.entries j empty = later-at i k n ∙ ap (λ m. get_or t.entries m empty) at in
      not_both (list_any_at (mate i) (later i) k empty (omega (arith, later-long i n, view-long n)) (rw there (sym (pair i j l) ∙ e))) none

  pub sound_yes : (i : ℕ) → length t.entries ≡ PLACES → Tested i → PLACES ≤ i → Tells true (Sound t)
  unfolding Distinct
  sound_yes i l d h =
      tells_yes
      (record {
        plain = record { places = view-long l; ids = λ a b ab bl e. d.ids a (omega (arith, view-long l)) b ab bl e };
        flags = each_seen _ t.entries i empty (omega arith) d.flags;
      })

  pub sound_no : (i from : ℕ) → from ≡ i + 1 → length t.entries ≡ PLACES → ((get_or t.entries i empty).live ≡ 0 → ⊥) → list_any (mate i) (drop from t.entries) ≡ true → Tells false (Sound t)
  sound_no i from next n l h =
      go (Any-from_list_any (mate i) (later i) (ap (λ k. list_any (mate i) (drop k t.entries)) (sym next) ∙ h))
    where
      go : Any (λ e. mate i e ≡ true) (later i) → Tells false (Sound t)
      go (k, x, kl, is, h) =
          let at : get_or t.entries (i + 1 + k) empty ≡ x = sym (later-at i k n) ∙ get_or_default (later i) k empty x kl ∙ is in
          tells_no
          (λ s. alike_found same_task (view t) i (i + 1 + k) (omega arith) (omega (arith, view-long n, later-long i n)) (pair i (i + 1 + k) l ∙ rw at h) s.plain.ids)

  pub flag_unknown : (i : ℕ) → FLAGS ≤ (get_or t.entries i empty).live → Tells false (Sound t)
  flag_unknown i h = tells_no (λ s. let known : (get_or t.entries i empty).live < FLAGS = each_at _ t.entries i empty (omega arith) s.flags in omega arith)

-- WHAT THE SEARCHES FIND

-- a search of the entries is one of the places
pub first-view : (p : Option Deadline → Bool) (q : Entry → Bool) → ((e : Entry) → p (deadline_of e) ≡ q e) → (t : Table)
    → first_at p (view t) ≡ position_or_len q t.entries
unfolding view
first-view p q same t = is_position_or_len (λ es. first_at p (map deadline_of es)) q (first-nil p) step t.entries
  where
    step : (x : Entry) (xs : List Entry) → first_at p (map deadline_of (x ∷ xs)) ≡ cond (q x) 0 (1 + first_at p (map deadline_of xs))
    step x xs = go (q x) (same x)
      where
        go : (b : Bool) → p (deadline_of x) ≡ b → first_at p (deadline_of x ∷ map deadline_of xs) ≡ cond b 0 (1 + first_at p (map deadline_of xs))
        go true e = first_hit p (deadline_of x) (map deadline_of xs) e
        go false e = first_pass p (deadline_of x) (map deadline_of xs) e ∙ omega arith

free-dead : (e : Entry) → free (deadline_of e) ≡ eqb e.live 0
free-dead e = go (eqb e.live 0)
  where
    go : (b : Bool) → free (cond (not b) (Some (held e)) None) ≡ b
    go true = refl
    go false = refl

-- the place below n, or none
abbrev within : ℕ → ℕ → Option ℕ
within n i = cond (ltb i n) (Some i) None

-- the first of two places, else the second
either : (n a b : ℕ) → option_or (within n a) (within n b) ≡ within n (cond (ltb a n) a b)
either n a b = go (ltb a n) refl
  where
    go : (t : Bool) → ltb a n ≡ t → option_or (cond t (Some a) None) (within n b) ≡ within n (cond t a b)
    go true e = rw e
    go false e = refl

within-some : (n p i : ℕ) → within n p ≡ Some i → (i ≡ p) × (i < n)
within-some n p i h = go (ltb p n) refl h
  where
    go : (t : Bool) → ltb p n ≡ t → cond t (Some p) None ≡ Some i → (i ≡ p) × (i < n)
    go true e h = let same : p ≡ i = cc in (sym same, omega (arith, ltb-true p n e))
    go false e h = absurd (none-some i h)

within-none : (n p : ℕ) → within n p ≡ None → n ≤ p
within-none n p h = go (ltb p n) refl h
  where
    go : (t : Bool) → ltb p n ≡ t → cond t (Some p) None ≡ None → n ≤ p
    go true e h = absurd (none-some p (sym h))
    go false e h = ltb-false p n e

-- where `arm_in` looks
abbrev pub looked : TaskId → Table → Option ℕ
looked id t = option_or (position (λ e. taken (is_for id) (deadline_of e)) t.entries) (position (λ e. eqb e.live 0) t.entries)

looked-is : (id : TaskId) (t : Table) → length t.entries ≡ PLACES → looked id t ≡ within PLACES (place_for id (view t))
unfolding place_for
looked-is id t n =
    rw (← first-view (taken (is_for id)) (λ e. taken (is_for id) (deadline_of e)) (λ e. refl) t, ← first-view free (λ e. eqb e.live 0) free-dead t, n, view-long t n)
    (either PLACES (first_at (taken (is_for id)) (view t)) (lowest_free (view t)))

-- among the first i, those that p holds of are free, and every flag is known
pub record Emptying (p : Deadline → Bool) (ds : Deadlines) (i : ℕ) (u : Table) : Type 0 where
  pub plain : Freeing p ds i (view u)
  pub flags : FlagsKnown u

pub emptying_start : (p : Deadline → Bool) (t : Table) → Sound t → Emptying p (view t) 0 t
emptying_start p t s = record { plain = freeing_start p (view t); flags = s.flags }

module _ (p : Deadline → Bool) (ds : Deadlines) (i : ℕ) (u : Table) (s : Emptying p ds i u) (more : i < length ds) where
  pub here : deadline_of (get_or u.entries i empty) ≡ get_or ds i None
  here = sym (view-at u i) ∙ freeing_read p ds i (view u) s.plain more

  pub frees : (v : Table) → v.entries ≡ set u.entries i empty
      → taken p (deadline_of (get_or u.entries i empty)) ≡ true → Emptying p ds (i + 1) v
  frees v e h =
      record {
        plain = rw (view-set u i empty v e) (freeing_hit p ds i (view u) s.plain more (rw here at h));
        flags = rw e (each_set _ u.entries i empty (omega arith) s.flags);
      }

  pub leaves : taken p (deadline_of (get_or u.entries i empty)) ≡ false → Emptying p ds (i + 1) u
  leaves h = record { plain = freeing_pass p ds i (view u) s.plain more (rw here at h); flags = s.flags }

-- WHAT THE RETURNS SHOW

pub made : (u : Table) → u.entries ≡ replicate PLACES empty → Makes deadlines u done new_step
unfolding view
made u e =
    let all : view u ≡ new_step.after = ap (map deadline_of) e ∙ map-replicate deadline_of PLACES empty in
    record {
      reply = refl;
      after = all;
      sound = record { plain = rw all new_keeps; flags = rw e (each_all _ PLACES empty (omega arith)) };
    }

module _ (t : Table) (s : Sound t) where
  did : (u : Table) (want : Step Deadlines) → want.reply ≡ done → view u ≡ want.after → SoundDeadlines want.after → FlagsKnown u → Does deadlines t u done want
  did u want r a k f = does deadlines t u done want (λ z. z) (sym r) a (record { plain = rw a k; flags = f })

  module _ (id : TaskId) (at : ℕ) where
    arm-put : (i : ℕ) (u : Table) → i ≡ place_for id (view t) → i < PLACES → u.entries ≡ set t.entries i (armed id at)
        → Does deadlines t u done (arm_step (view t) id at)
    arm-put i u p l e =
        let w = arm_stores (view t) id at (omega (arith, s.plain.places)) in
        did u (arm_step (view t) id at) (rw w) (view-set t i (armed id at) u e ∙ rw (w, p)) (arm_keeps (view t) s.plain id at)
        (rw e (each_set _ t.entries i (armed id at) (omega arith) s.flags))

    pub arm_stored : (i : ℕ) (u : Table) → length t.entries ≡ PLACES → looked id t ≡ Some i → u.entries ≡ set t.entries i (armed id at)
        → Does deadlines t u done (arm_step (view t) id at)
    arm_stored i u n h e =
        let found = within-some PLACES (place_for id (view t)) i (sym (looked-is id t n) ∙ h) in
        arm-put i u found.0 found.1 e

    pub arm_full : length t.entries ≡ PLACES → looked id t ≡ None → Does deadlines t t (refused 11) (arm_step (view t) id at)
    arm_full n h =
        let past = within-none PLACES (place_for id (view t)) (sym (looked-is id t n) ∙ h) in
        let w = arm-refuses (view t) id at (omega (arith, s.plain.places)) in
        does_keep deadlines t (refused 11) (arm_step (view t) id at) s (λ e. let z : ◌≡◌ {A = ℕ} 11 1 = cc in omega arith) (rw w) (rw w)

  pub disarmed : (id : TaskId) (u : Table) (i : ℕ) → Emptying (is_for id) (view t) i u → PLACES ≤ i → Does deadlines t u done (disarm_step (view t) id)
  unfolding disarm_step
  disarmed id u i d l =
      did u (disarm_step (view t) id) refl (freeing_all (is_for id) (view t) i (view u) d.plain (omega (arith, s.plain.places)))
      (disarm_keeps (view t) s.plain id) d.flags
