-- The returns of `set_stealeable_in` and `collect_in`.
use Rattle.std.specs.Prelude.{Option, Some, None}
use mathlib.Core.Path.{◌≡◌, refl, sym, ◌∙◌, ap}
use mathlib.Core.Bool.{Bool, true, false, cond}
use Prim.Native.Nat.{ℕ, ◌<◌}
use native.Mathlib.Omega.{arith}
use lib.ListN.{get_or}
use Rattle.lists.specs.Flags.{is_set}
use Rattle.lists.specs.Search.{one_if}
use Rattle.lists.proofs.FlagLaws.{set-off, set_on, set_one_if, one_if-flag}
use Rattle.ids.specs.declared.TaskId.{TaskId}
use Rattle.answers.specs.Reply.{told, named}
use Rattle.answers.specs.Contract.{Step, Does}
use Rattle.model.specs.Model.{Model, with_mark, with_parked, rest_to}
use Rattle.model.specs.Steps.{mark_step, collect_step}
use Rattle.model.proofs.Facts.{known_is}
use Rattle.model.proofs.Keeps.{mark-sound, collect-sound}
use Rattle.memory.specs.declared.Tasks.{Tasks}
use Rattle.memory.specs.View.{view, Sound, table}
use Rattle.memory.specs.Parts.{known_in, idle_in}
use Rattle.memory.proofs.Puts.{put_mark, put_rest}
use Rattle.memory.proofs.ViewLaws.{view_n, view-parked, store_mark, rep-mark, store_rest, rep-rest}
use Rattle.memory.proofs.PartLaws.{view_known, view-idles}
use Rattle.steps.proofs.Common.{when_on, keeps, ends}

module _ (t : Tasks) (id : TaskId) (b : Bool) (w : Sound t) (on : get_or t.states 0 0 ≡ 0 → ⊥) where
  pub mark_unknown : known_in t.epochs t.small.n id ≡ false → Does table t t (told false) (mark_step (view t) id b)
  unfolding mark_step
  mark_unknown h = rw (when_on t w _ on, view_known t id, h) (keeps t w (told false) _ (λ e. let z : ◌≡◌ {A = ℕ} 0 1 = cc in omega arith) refl refl)

  module _ (k : known_in t.epochs t.small.n id ≡ true) where
    pub mark_near : id.slot < t.small.n
    mark_near = omega (arith, (known_is (view t) id (view_known t id ∙ k)).slot, view_n t)

    pub mark-idle : idle_in t.small.idles id ≡ true → Does table t t (told false) (mark_step (view t) id b)
    unfolding mark_step
    mark-idle h =
        rw (when_on t w _ on, view_known t id, k, view-idles t w.rep id, h) (keeps t w (told false) _ (λ e. let z : ◌≡◌ {A = ℕ} 0 1 = cc in omega arith) refl refl)

    marks : idle_in t.small.idles id ≡ false → mark_step (view t) id b ≡ record { reply = told true; after = with_mark (view t) id.slot b }
    unfolding mark_step
    marks h = rw (when_on t w _ on, view_known t id, k, view-idles t w.rep id, h)

    pub mark-done : idle_in t.small.idles id ≡ false → (v : ℕ) → v ≡ one_if b → Does table t (put_mark t id.slot v) (told true) (mark_step (view t) id b)
    mark-done h v e =
        ends t w (put_mark t id.slot v) (told true) (mark_step (view t) id b) (rep-mark t id.slot w.rep mark_near v (rw e (one_if-flag b))) (λ z. z)
        (ap (λ (x : Step Model). x.reply) (sym (marks h)))
        (store_mark t id.slot mark_near v ∙ ap (with_mark (view t) id.slot) (ap is_set e ∙ set_one_if b) ∙ ap (λ (x : Step Model). x.after) (sym (marks h))) (mark-sound (view t) id b w.model)

module _ (t : Tasks) (w : Sound t) (on : get_or t.states 0 0 ≡ 0 → ⊥) where
  collects : (p : Option TaskId) → (view t).parked ≡ p → collect_step (view t) ≡ record { reply = named p; after = with_parked (view t) None }
  unfolding collect_step
  collects p e = when_on t w _ on ∙ ap (λ x. record { reply = named x; after = with_parked (view t) None }) e

  pub collect-none : t.small.parked ≡ 0 → Does table t t (named None) (collect_step (view t))
  collect-none h =
      let e : (view t).parked ≡ None = view-parked t ∙ rw (set-off t.small.parked h) in
      let c = collects None e in
      keeps t w (named None) (collect_step (view t)) (λ e. let z : ◌≡◌ {A = ℕ} 0 1 = cc in omega arith) (ap (λ (x : Step Model). x.reply) (sym c))
      (ap (λ p. with_parked (view t) p) e ∙ ap (λ (x : Step Model). x.after) (sym c))

  pub collect-done : (b : ℕ) → (t.small.parked ≡ 0 → ⊥) → b ≡ 0 → Does table t (put_rest t b t.small.parked_id t.small.overwrites t.small.block_events t.small.peak) (named (Some t.small.parked_id)) (collect_step (view t))
  unfolding view
  collect-done b h f =
      let c = collects (Some t.small.parked_id) (view-parked t ∙ rw (set_on t.small.parked h)) in
      ends t w (put_rest t b t.small.parked_id t.small.overwrites t.small.block_events t.small.peak) (named (Some t.small.parked_id)) (collect_step (view t))
      (rep-rest t b t.small.parked_id t.small.overwrites t.small.block_events t.small.peak (omega arith) w.rep) (λ z. z)
      (ap (λ (x : Step Model). x.reply) (sym c))
      (store_rest t b t.small.parked_id t.small.overwrites t.small.block_events t.small.peak ∙ ap (λ x. rest_to (view t) (cond x (Some t.small.parked_id) None) t.small.overwrites t.small.block_events t.small.peak) (set-off b f) ∙ ap (λ (x : Step Model). x.after) (sym c)) (collect-sound (view t) w.model)
