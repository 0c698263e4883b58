-- Demand 3: a stolen task is first in its new queue.
use Rattle.std.specs.Prelude.{Some, None}
use mathlib.Core.Path.{◌≡◌, refl, sym, ◌∙◌, ap, subst}
use mathlib.Core.Bool.{Bool, true, false, ◌&&◌, not, cond}
use mathlib.Core.Logic.{◌⊎◌, inl, inr}
use mathlib.Core.List.{[], ◌∷◌}
use Prim.Native.Nat.{ℕ, ◌<◌}
use native.Mathlib.Omega.{arith}
use lib.ListN.{length, get_or}
use lib.Dec.{eqb, ltb}
use borrow.Author.Tests.{eqb-true, lt-ltb}
use Rattle.lists.proofs.Basics.{both_true, not_both}
use Rattle.ids.specs.declared.TaskId.{TaskId}
use Rattle.ids.specs.Id.{idle}
use Rattle.answers.specs.Reply.{is_refused, stays, switched}
use Rattle.answers.specs.Contract.{Step, refusing}
use Rattle.model.specs.Model.{Model, CPUS, queue_of, current_of, started, started_on}
use Rattle.model.specs.Sound.{Sound}
use Rattle.model.specs.Switch.{Kind, yield, preempt, block, exit, is_nil, idles, peer_of, loot_at, can_steal, stealing, try_steal_step, pulls, switch_on, switch_step}
use Rattle.model.specs.Calls.{Call, start, start1, admit, switch, mark, steal, wake, collect, read, step}
use Rattle.model.proofs.Facts.{live}
use Rattle.model.proofs.Steals.{can-steal, pulls-current, pulls-live}
use Rattle.model.proofs.StealLaws.{thief-queue}
use Rattle.model.proofs.Switches.{pulls-on}
use Rattle.model.proofs.SwitchLaws.{turn-yield}
use Rattle.fair.specs.Fair.{event, loot_of, is_yes}
use Rattle.fair.specs.Demand3.{StolenFirst}

none-some : {A : Type 0} {x : A} → None ≡ Some x → ⊥
none-some e = let z : ◌≡◌ {A = ℕ} 0 1 = cc in omega arith

-- what a test gave is what it tested for
gave : {A : Type 0} (b : Bool) (x y : A) → cond b (Some x) None ≡ Some y → (b ≡ true) × (x ≡ y)
gave true x y e = (refl, cc)
gave false x y e = absurd (none-some e)

module _ (m : Model) (c : ℕ) (x : TaskId) (s : Sound m) where
  first-there : (t : ℕ) → can_steal m t ≡ true → loot_of m c (Some t) ≡ Some x → queue_of (stealing m t) t ≡ x ∷ []
  first-there t can e =
      let (here, is) = gave (eqb (peer_of m t) c) (get_or (queue_of m c) (loot_at m (queue_of m c)) idle) x e in
      let peer = eqb-true (peer_of m t) c here in
      thief-queue m s.shape t can ∙ ap (λ y. y ∷ []) (subst (λ d. get_or (queue_of m d) (loot_at m (queue_of m d)) idle ≡ x) (sym peer) is)

  by_try : (t : ℕ) → is_yes (try_steal_step m t).reply ≡ true → (can_steal m t ≡ true) × ((try_steal_step m t).after ≡ stealing m t)
  unfolding try_steal_step
  by_try t y = go (started m) refl y
    where
      go : (b : Bool) → started m ≡ b → is_yes (try_steal_step m t).reply ≡ true → (can_steal m t ≡ true) × ((try_steal_step m t).after ≡ stealing m t)
      go true e h = (rw e at h, rw e)
      go false e h = absurd (not_both (rw e at h) refl)

  -- an unrefused switch on a CPU that there is
  whole : (d : ℕ) (kind : Kind) → d < length m.cpus → started m ≡ true → started_on m d ≡ true → switch_step m d kind ≡ switch_on m d kind
  unfolding switch_step
  whole d kind h e o =
      let s : Step Model = cond (ltb d (length m.cpus)) (cond (started_on m d) (switch_on m d kind) (refusing 6 m)) (record { reply = stays; after = m }) in
      ap (λ b. cond b s (refusing 3 m)) e ∙ rw (lt-ltb d (length m.cpus) h, o)

  is-on : (d : ℕ) (kind : Kind) → not (is_refused (switch_step m d kind).reply) ≡ true → d < length m.cpus → (started m ≡ true) × (started_on m d ≡ true) × (switch_step m d kind ≡ switch_on m d kind)
  unfolding switch_step
  is-on d kind fine h = go (started m) refl (started_on m d) refl fine
    where
      go : (b : Bool) → started m ≡ b → (o : Bool) → started_on m d ≡ o → not (is_refused (cond {A = Step Model} b (cond (ltb d (length m.cpus)) (cond o (switch_on m d kind) (refusing 6 m)) (record { reply = stays; after = m })) (refusing 3 m)).reply) ≡ true
          → (started m ≡ true) × (started_on m d ≡ true) × (switch_step m d kind ≡ switch_on m d kind)
      go true e true o f = (e, o, whole d kind h e o)
      go true e false o f = absurd (not_both (rw (lt-ltb d (length m.cpus) h) at f) refl)
      go false e o p f = absurd (not_both f refl)

  -- what an idle CPU's switch does after it has stolen: a yield chooses the loot, any other kind stays
  module _ (d : ℕ) (on : started m ≡ true) (on-d : started_on m d ≡ true) (hd : d < CPUS) (first : queue_of (pulls m d) d ≡ x ∷ []) (idl : idles m d ≡ true) where
    chosen_next : (kind : Kind) → (queue_of (switch_on m d kind).after d ≡ x ∷ []) ⊎ ((switch_on m d kind).reply ≡ switched (current_of m d) x None)
    unfolding switch_on
    chosen_next yield =
        let v = live m s on in
        let (shape, w) = pulls-live m s.shape v d in
        let t = turn-yield (pulls m d) shape w d hd (pulls-on m s.shape v d on-d) x [] first in
        inr (rw idl (ap (λ (r : Step Model). r.reply) t ∙ ap (λ from. switched from x None) (pulls-current m d d)))
    chosen_next preempt = inl (rw idl first)
    chosen_next block = inl (rw idl first)
    chosen_next exit = inl (rw idl first)

  by_switch : (d : ℕ) (kind : Kind) → (not (is_refused (switch_step m d kind).reply) && idles m d && is_nil (queue_of m d) && can_steal m d) ≡ true → loot_of m c (Some d) ≡ Some x → StolenFirst m (switch d kind) d x
  unfolding step pulls
  by_switch d kind e l =
      let fine = not (is_refused (switch_step m d kind).reply) in
      let (e1, can) = both_true (fine && idles m d && is_nil (queue_of m d)) (can_steal m d) e in
      let (e2, nil) = both_true (fine && idles m d) (is_nil (queue_of m d)) e1 in
      let (ok, idl) = both_true fine (idles m d) e2 in
      let (on, on-d, is) = is-on d kind ok (can-steal m d can).cpu in
      let first = first-there d can l in
      let pulled : queue_of (pulls m d) d ≡ x ∷ [] = rw (idl, nil) first in
      record { first = first; after = rw is (chosen_next d on on-d (omega (arith, (can-steal m d can).cpu, s.shape.cpus)) pulled idl kind) }

  pub stolen-first : (k : Call) (t : ℕ) → (event m c k (step m k).reply).thief ≡ Some t → loot_of m c (Some t) ≡ Some x → StolenFirst m k t x
  unfolding step
  stolen-first start t e l = absurd (none-some e)
  stolen-first start1 t e l = absurd (none-some e)
  stolen-first (admit d) t e l = absurd (none-some e)
  stolen-first (switch d kind) t e l =
      let (b, is) = gave _ d t e in
      subst (λ u. StolenFirst m (switch d kind) u x) is (by_switch d kind b (rw is l))
  stolen-first (mark id b) t e l = absurd (none-some e)
  stolen-first (steal d) t e l =
      let (b, is) = gave (is_yes (try_steal_step m d).reply) d t e in
      let (can, after) = by_try d b in
      let first = first-there d can (rw is l) in
      subst (λ u. StolenFirst m (steal d) u x) is (record { first = first; after = inl (rw after first) })
  stolen-first (wake id) t e l = absurd (none-some e)
  stolen-first collect t e l = absurd (none-some e)
  stolen-first (read q) t e l = absurd (none-some e)
