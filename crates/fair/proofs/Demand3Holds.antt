-- Demand 3: a task that waits, over any calls, from any sound table.
use Rattle.std.specs.Prelude.{Option}
use mathlib.Core.Path.{◌≡◌, refl, sym, ◌∙◌, ap, subst}
use mathlib.Core.Bool.{Bool, true, false}
use mathlib.Core.List.{List, [], ◌∷◌, ◌++◌}
use Prim.Native.Nat.{ℕ, ◌+◌, ◌-◌, ◌≤◌, ◌<◌, min}
use native.Mathlib.Nat.{add-mul}
use native.Mathlib.Omega.{arith}
use lib.ListN.{take, drop, take-append-drop}
use Rattle.lists.specs.Search.{any_of, first_at, one_if}
use Rattle.lists.specs.Entries.{is_there, taken}
use Rattle.lists.proofs.Basics.{not_both}
use Rattle.lists.proofs.SearchLaws.{first_hit}
use Rattle.ids.specs.declared.TaskId.{TaskId}
use Rattle.ids.specs.Id.{same_id}
use Rattle.answers.specs.Run.{left}
use Rattle.model.specs.Model.{Model, CPUS, MOST, queue_of, fresh}
use Rattle.model.specs.Sound.{occ, Live, Sound}
use Rattle.model.specs.Calls.{Call, step}
use Rattle.model.proofs.Counting.{occ-append, room}
use Rattle.model.proofs.Facts.{by_test}
use Rattle.model.proofs.Literal.{counts_once, queue_written}
use Rattle.model.proofs.Claims.{fresh-sound}
use Rattle.model.proofs.Keeps.{step-sound, calls-sound}
use Rattle.model.proofs.Sizes.{step-size}
use Rattle.fair.specs.Fair.{Event, event, loot_of, End, still, chosen, stolen, Watch, through, ended, waits, ahead, watch, bound}
use Rattle.fair.specs.Demand3.{Fair}
use Rattle.fair.proofs.Moves.{Move, joins, turns, robs, moves}
use Rattle.fair.proofs.Placed.{Placed, placed}
use Rattle.fair.proofs.Standing.{Stands, ready_is, ready-live, ready-cpu, ready_stands, stands_waits, standing_live, waiting}

-- what a watch from a table with a queue q, where k stand ahead, to a table f has to be
record Watched (n k : ℕ) (q : List TaskId) (c : ℕ) (x : TaskId) (f : Model) (w : Watch) : Type 0 where
  stands : w.end ≡ still → Stands f c x
  most : w.end ≡ still → w.turns + ahead f c x ≤ bound n k w.steals
  by : w.end ≡ chosen → w.turns ≤ bound n k w.steals + 1
  exact : w.steals ≡ 0 → w.end ≡ chosen → w.turns ≡ k + 1
  order : w.steals ≡ 0 → w.others ≡ take (min w.turns k) q

still-chosen : still ≡ chosen → ⊥
still-chosen e = let z : ◌≡◌ {A = ℕ} 0 1 = cc in omega arith

stolen-still : stolen ≡ still → ⊥
stolen-still e = let z : ◌≡◌ {A = ℕ} 0 1 = cc in omega arith

stolen-chosen : stolen ≡ chosen → ⊥
stolen-chosen e = let z : ◌≡◌ {A = ℕ} 0 1 = cc in omega arith

nobody_yet : (k : ℕ) (q : List TaskId) → [] ≡ take (min 0 k) q
nobody_yet k q = let z : 0 ≡ min 0 k = omega arith in ap (λ i. take i q) z

module _ (c : ℕ) (x : TaskId) (hc : c < CPUS) where
  -- no calls, and a call that steals the task
  at_rest : (m : Model) → Stands m c x → Watched m.n (ahead m c x) (queue_of m c) c x m (ended 0 still)
  at_rest m st =
      record {
        stands = λ _. st;
        most = λ _. omega arith;
        by = λ e. absurd (still-chosen e);
        exact = λ _ e. absurd (still-chosen e);
        order = λ _. nobody_yet (ahead m c x) (queue_of m c);
      }

  is_stolen : (m f : Model) → Watched m.n (ahead m c x) (queue_of m c) c x f (ended 0 stolen)
  is_stolen m f =
      record {
        stands = λ e. absurd (stolen-still e);
        most = λ e. absurd (stolen-still e);
        by = λ e. absurd (stolen-chosen e);
        exact = λ _ e. absurd (stolen-chosen e);
        order = λ _. nobody_yet (ahead m c x) (queue_of m c);
      }

  module _ (m f : Model) (e : Event) (loot : Option TaskId) (r : List TaskId) (mv : Move (queue_of m c) r e loot) where
    -- a call that chooses the task: it was the head
    was-head : any_of (same_id x) e.chosen ≡ true → (e.turn ≡ true) × (ahead m c x ≡ 0)
    unfolding any_of
    was-head h = go mv
      where
        one : (y : TaskId) → any_of (same_id x) (y ∷ []) ≡ true → same_id x y ≡ true
        one y g = pick (same_id x y) refl
          where
            pick : (b : Bool) → same_id x y ≡ b → same_id x y ≡ true
            pick true p = p
            pick false p = absurd (not_both g (rw p))

        go : Move (queue_of m c) r e loot → (e.turn ≡ true) × (ahead m c x ≡ 0)
        go (joins j) = absurd (not_both (rw j.chosen at h) refl)
        go (turns t) = (t.turn, ap (first_at (same_id x)) t.was ∙ first_hit (same_id x) t.head t.rest (one t.head (rw t.chosen at h)))
        go (robs o) = absurd (not_both (rw o.chosen at h) refl)

    is_chosen : any_of (same_id x) e.chosen ≡ true → Watched m.n (ahead m c x) (queue_of m c) c x f (ended (one_if e.turn) chosen)
    is_chosen h =
        let (t, z) = was-head h in
        rw (t, z)
        (record {
          stands = λ g. absurd (still-chosen (sym g));
          most = λ g. absurd (still-chosen (sym g));
          by = λ _. omega arith;
          exact = λ _ _. refl;
          order = λ _. refl;
        })

  -- a call that it waits through, and what comes after that
  waits-on : (m f : Model) (e : Event) (loot : Option TaskId) (r : List TaskId) (w : Watch) → Placed (same_id x) m.n (queue_of m c) r e loot → Watched m.n (first_at (same_id x) r) r c x f w → Watched m.n (ahead m c x) (queue_of m c) c x f (through e loot w)
  waits-on m f e loot r w p v =
      let more = add-mul (one_if (is_there loot)) w.steals (m.n - 3) in
      record {
        stands = v.stands;
        most = λ g. omega (arith, more, v.most g, p.most);
        by = λ g. omega (arith, more, v.by g, p.most);
        exact = λ s g. let a = none_lost (is_there loot) w.steals s in omega (arith, v.exact a.1 g, p.exact a.0);
        order = λ s.
            let a = none_lost (is_there loot) w.steals s in
            let k = first_at (same_id x) r in
            let more : one_if e.turn + min w.turns k ≡ min (one_if e.turn + w.turns) (ahead m c x) = omega (arith, p.exact a.0) in
            ap (λ l. e.chosen ++ l) (v.order a.1) ∙ p.order a.0 (min w.turns k) (omega arith) ∙ ap (λ i. take i (queue_of m c)) more;
      }
    where
      none_lost : (b : Bool) (s : ℕ) → one_if b + s ≡ 0 → (b ≡ false) × (s ≡ 0)
      none_lost true s z = absurd (omega arith)
      none_lost false s z = (refl, omega arith)

  watched : (ks : List Call) (m : Model) → Sound m → Stands m c x → Watched m.n (ahead m c x) (queue_of m c) c x (left step m ks) (watch m c x ks)
  unfolding watch left
  watched [] m s st = at_rest m st
  watched (k ∷ ks) m s st =
      let e = event m c k (step m k).reply in
      let loot = loot_of m c e.thief in
      let u = (step m k).after in
      let mv = moves m c (waiting m c x s hc st) k in
      by_test (λ w. Watched m.n (ahead m c x) (queue_of m c) c x (left step u ks) w) (taken (same_id x) loot) _ _
      (λ _. is_stolen m (left step u ks))
      (λ nt. by_test (λ w. Watched m.n (ahead m c x) (queue_of m c) c x (left step u ks) w) (any_of (same_id x) e.chosen) _ _
      (λ h. is_chosen m (left step u ks) e loot (queue_of u c) mv h)
      (λ nc.
      let p = placed (same_id x) m.n (queue_of m c) (queue_of u c) e loot mv st (room m s.shape (standing_live m c x s hc st) c hc) nt nc in
      waits-on m (left step u ks) e loot (queue_of u c) (watch u c x ks) p
      (subst (λ n. Watched n (ahead u c x) (queue_of u c) c x (left step u ks) (watch u c x ks)) (step-size m k) (watched ks u (step-sound m k s) p.stands))))

-- an entry stands at most once among the first of a queue
once-taken : (m : Model) (v : Live m) (c : ℕ) (hc : c < CPUS) (k i : ℕ) → occ i (take k (queue_of m c)) ≤ 1
once-taken m v c hc k i =
    let q = queue_of m c in
    let parts : occ i q ≡ occ i (take k q) + occ i (drop k q) = ap (occ i) (sym (take-append-drop k q)) ∙ occ-append i (take k q) (drop k q) in
    omega (arith, parts, counts_once i q (queue_written m v c hc).once)

pub fair : (m : Model) (c : ℕ) (x : TaskId) → Sound m → waits m c x ≡ true → (ks : List Call) → Fair m c x ks
fair m c x s wt ks =
    let r = ready_is m c x wt in
    let v = ready-live m c x s r in
    let hc = ready-cpu m c x v r in
    let w = watch m c x ks in
    let h = watched c x hc ks m s (ready_stands m c x v r) in
    let end = calls-sound m ks s in
    record {
      waiting = λ e. let st = h.stands e in (stands_waits (left step m ks) c x (standing_live (left step m ks) c x end hc st) hc st, h.most e);
      chosen_by = h.by;
      comes = λ ns more. ends w.end refl ns (λ e. let most = h.most e in omega arith);
      exact = h.exact;
      in_order = h.order;
      once = λ z i. subst (λ l. occ i l ≤ 1) (sym (h.order z)) (once-taken m v c hc (min w.turns (ahead m c x)) i);
    }
  where
    ends : (z : End) → (watch m c x ks).end ≡ z → ((watch m c x ks).end ≡ stolen → ⊥) → ((watch m c x ks).end ≡ still → ⊥) → (watch m c x ks).end ≡ chosen
    ends still e f g = absurd (g e)
    ends chosen e f g = e
    ends stolen e f g = absurd (f e)

-- a fresh table, started, after any calls, is one to start from
pub fair_from_fresh : (n : ℕ) → 1 ≤ n → n ≤ MOST → (before : List Call) (c : ℕ) (x : TaskId) → waits (left step (fresh n) before) c x ≡ true → (ks : List Call) → Fair (left step (fresh n) before) c x ks
fair_from_fresh n a b before c x wt ks = fair (left step (fresh n) before) c x (calls-sound (fresh n) before (fresh-sound n a b)) wt ks
