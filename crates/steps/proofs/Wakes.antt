-- The returns of `wake_in`.
use mathlib.Core.Path.{◌≡◌, refl, sym, ◌∙◌, ap}
use mathlib.Core.Bool.{true, false}
use Prim.Native.Nat.{ℕ, ◌+◌, ◌*◌, ◌≤◌, ◌<◌}
use native.Mathlib.Omega.{arith}
use borrow.Author.Tests.{eq-eqb, ne_eqb}
use lib.ListN.{get_or}
use Rattle.ids.specs.declared.TaskId.{TaskId}
use Rattle.answers.specs.Reply.{told}
use Rattle.answers.specs.Contract.{Step, Does}
use Rattle.runqueue.specs.Ring.{placed}
use Rattle.model.specs.Model.{Model, MOST, CPUS, READY, BLOCKED, with_state, pushed}
use Rattle.model.specs.Steps.{woken, wake_step}
use Rattle.model.proofs.Facts.{known_is, home-cpu}
use Rattle.model.proofs.Joins.{wake-sound}
use Rattle.memory.specs.declared.Tasks.{Tasks}
use Rattle.memory.specs.View.{SPAN, view, head_of, len_of, Sound, table}
use Rattle.memory.specs.Parts.{known_in}
use Rattle.memory.proofs.Puts.{put_state, put_tail}
use Rattle.memory.proofs.ViewLaws.{view_n, view-state, view-home, store_state, rep-state}
use Rattle.memory.proofs.RingStores.{store_tail, rep-tail}
use Rattle.memory.proofs.PartLaws.{view_known}
use Rattle.steps.proofs.Common.{is-on, when_on, lives, has_room, keeps, ends}

-- what a known slot of a started table tells, in memory
pub record Homed (t : Tasks) (s : ℕ) : Type 0 where
  pub slot : s < t.small.n
  pub most : t.small.n ≤ MOST
  pub home : get_or t.homes s 0 < CPUS
  pub head : head_of t (get_or t.homes s 0) < t.small.n
  pub len : len_of t (get_or t.homes s 0) < t.small.n

module _ (t : Tasks) (id : TaskId) (w : Sound t) (on : get_or t.states 0 0 ≡ 0 → ⊥) where
  pub wake_unknown : known_in t.epochs t.small.n id ≡ false → Does table t t (told false) (wake_step (view t) id)
  unfolding wake_step
  wake_unknown h =
      rw (when_on t w _ on, view_known t id, h)
      (keeps t w (told false) _ (λ e. let z : ◌≡◌ {A = ℕ} 0 1 = cc in omega arith) refl refl)

  module _ (k : known_in t.epochs t.small.n id ≡ true) where
    near : id.slot < t.small.n
    near = omega (arith, (known_is (view t) id (view_known t id ∙ k)).slot, view_n t)

    pub homed : Homed t id.slot
    homed =
        let h : get_or t.homes id.slot 0 < CPUS = omega (arith, view-home t id.slot near, home-cpu (view t) (lives t w (is-on t w on)) id.slot (omega (arith, near, view_n t))) in
        record { slot = near; most = w.rep.most; home = h; head = (w.rep.rings (get_or t.homes id.slot 0) h).head; len = has_room t w (is-on t w on) (get_or t.homes id.slot 0) h }

    pub wake-other : (get_or t.states id.slot 0 ≡ 3 → ⊥) → Does table t t (told false) (wake_step (view t) id)
    unfolding wake_step
    wake-other h =
        rw (when_on t w _ on, view_known t id, k, view-state t id.slot near, ne_eqb (get_or t.states id.slot 0) BLOCKED h)
        (keeps t w (told false) _ (λ e. let z : ◌≡◌ {A = ℕ} 0 1 = cc in omega arith) refl refl)

    module _ (blocked : get_or t.states id.slot 0 ≡ 3) where
      wakes : wake_step (view t) id ≡ record { reply = told true; after = woken (view t) id }
      unfolding wake_step
      wakes = rw (when_on t w _ on, view_known t id, k, view-state t id.slot near, eq-eqb (get_or t.states id.slot 0) BLOCKED blocked)

      pub wake-done : (v c i l : ℕ) → v ≡ READY → c ≡ get_or t.homes id.slot 0 → i ≡ c * SPAN + placed t.small.n (head_of t c + len_of t c) → l ≡ len_of t c + 1
          → Does table t (put_tail (put_state t id.slot v) c i l id) (told true) (wake_step (view t) id)
      unfolding woken
      wake-done v c i l ready e p q =
          let f = homed in
          let hc : c < CPUS = omega arith in
          let u = put_state t id.slot v in
          let r = rep-state t id.slot w.rep v in
          let free : len_of u c < u.small.n = has_room t w (is-on t w on) c hc in
          let after : view (put_tail u c i l id) ≡ woken (view t) id =
          store_tail u c i l id r hc free p q
          ∙ ap (λ m. pushed m c id) (store_state t id.slot near v ∙ ap (λ x. with_state (view t) id.slot x) ready)
          ∙ ap (λ d. pushed (with_state (view t) id.slot READY) d id) (e ∙ sym (view-home t id.slot near))
          in
          ends t w (put_tail u c i l id) (told true) (wake_step (view t) id) (rep-tail u c i l id r hc free p q) (λ z. z)
          (ap (λ (s : Step Model). s.reply) (sym wakes)) (after ∙ ap (λ (s : Step Model). s.after) (sym wakes)) (wake-sound (view t) id w.model)
