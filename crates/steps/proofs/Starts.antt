-- What a claim of a slot comes to, and the returns of `start_in` and `start_cpu_in`.
use Rattle.std.specs.Prelude.{Some, None}
use mathlib.Core.Path.{◌≡◌, refl, sym, ◌∙◌, ap, ap₂}
use mathlib.Core.Bool.{true, false, not}
use Prim.Native.Nat.{ℕ, ◌≤◌, ◌<◌, max}
use native.Mathlib.Omega.{arith}
use borrow.Author.Tests.{lt-ltb, le-ltb, ne_eqb}
use lib.ListN.{get_or, set}
use Rattle.lists.proofs.FlagLaws.{set-off}
use Rattle.ids.specs.declared.TaskId.{TaskId}
use Rattle.ids.specs.Id.{same_id, idle}
use Rattle.answers.specs.Reply.{refused, done, named}
use Rattle.answers.specs.Contract.{Step, Does}
use Rattle.model.specs.Model.{Model, CPUS, RUNNING, tenant, free_slot, queue_of, started_on, with_state, with_home, with_mark, with_cpu, noted}
use Rattle.model.specs.Steps.{claimed, start_step, start_cpu_step}
use Rattle.model.proofs.Claims.{start-sound, start_cpu_sound}
use Rattle.memory.specs.declared.Tasks.{Tasks}
use Rattle.memory.specs.View.{view, Rep, Sound, table}
use Rattle.memory.specs.Parts.{free_in, occupied_in}
use Rattle.memory.proofs.Puts.{put_state, put_home, put_mark, put_owner, put_rest}
use Rattle.memory.proofs.ViewLaws.{view_n, view-idle, store_owner, rep_owner, rep-rest}
use Rattle.memory.proofs.PartLaws.{view-free, store_noted}
use Rattle.steps.proofs.Common.{is-on, is_off, when_on, keeps, ends}
use Rattle.steps.proofs.Admits.{tenant_in, filled, filled-view, filled-rep}

-- A CLAIM

pub claim-done : (t : Tasks) (c s v h k b : ℕ) (id : TaskId) → Rep t → c < CPUS → s < t.small.n → v ≡ RUNNING → h ≡ c → b ≡ 0
    → id ≡ record { slot = s; epoch = get_or t.epochs s 0 } → k ≡ max t.small.peak (occupied_in (set t.states s v) t.small.n)
    → let u = put_rest (put_owner (put_mark (put_home (put_state t s v) s h) s b) c id) t.small.parked t.small.parked_id t.small.overwrites t.small.block_events k in
    Rep u × (view u ≡ claimed (view t) c s) × (id ≡ tenant (view t) s)
unfolding claimed filled
claim-done t c s v h k b id r hc near ev eh eb ei ek =
    let f = filled t s v h b in
    let q = filled-rep t s v h b near (omega arith) r in
    let u = put_owner f c id in
    let name : id ≡ tenant (view t) s = ei ∙ tenant_in t s near in
    let fv : view f ≡ with_mark (with_home (with_state (view t) s RUNNING) s c) s false = filled-view t s v h b near ∙ rw (ev, eh, set-off b eb) in (
      rep-rest u u.small.parked u.small.parked_id u.small.overwrites u.small.block_events k r.flag (rep_owner f c q hc id),
      store_noted u k ek
          ∙ ap noted
          (store_owner f c q hc id
          ∙ ap₂ (λ (m : Model) (x : TaskId). with_cpu m c (record { queue = queue_of m c; current = x; idle = x })) fv name),
      name,
    )

-- START

module _ (t : Tasks) (w : Sound t) where
  pub start_again : (get_or t.states 0 0 ≡ 0 → ⊥) → Does table t t (refused 4) (start_step (view t))
  unfolding start_step
  start_again h = rw (is-on t w h) (keeps t w (refused 4) _ (λ e. let z : ◌≡◌ {A = ℕ} 4 1 = cc in omega arith) refl refl)

  starts : get_or t.states 0 0 ≡ 0 → start_step (view t) ≡ record { reply = done; after = claimed (view t) 0 0 }
  unfolding start_step
  starts h = rw (is_off t w h)

  pub start-done : (u : Tasks) → get_or t.states 0 0 ≡ 0 → Rep u → view u ≡ claimed (view t) 0 0 → Does table t u done (start_step (view t))
  start-done u h r v =
      ends t w u done (start_step (view t)) r (λ z. z) (ap (λ (x : Step Model). x.reply) (sym (starts h))) (v ∙ ap (λ (x : Step Model). x.after) (sym (starts h))) (start-sound (view t) w.model)

-- START OF ANOTHER CPU

module _ (t : Tasks) (c : ℕ) (w : Sound t) (pos : 0 < c) (hc : c < CPUS) (on : get_or t.states 0 0 ≡ 0 → ⊥) where
  abbrev spare : ℕ
  spare = free_in t.states t.small.parked t.small.parked_id.slot t.small.n

  pub on_is : started_on (view t) c ≡ not (same_id (get_or t.small.idles c idle) idle)
  on_is = rw (ne_eqb c 0 (λ e. omega arith)) (ap (λ i. not (same_id i idle)) (view-idle t c hc))

  pub cpu_again : (i : TaskId) → i ≡ get_or t.small.idles c idle → same_id i idle ≡ false → Does table t t (named (Some i)) (start_cpu_step (view t) c)
  unfolding start_cpu_step
  cpu_again i e h =
      let s : started_on (view t) c ≡ true = on_is ∙ ap not (ap (λ x. same_id x idle) (sym e) ∙ h) in
      rw (when_on t w _ on, s) (keeps t w (named (Some i)) _ (λ e. let z : ◌≡◌ {A = ℕ} 0 1 = cc in omega arith) (ap (λ x. named (Some x)) (e ∙ sym (view-idle t c hc))) refl)

  module _ (i : TaskId) (e : i ≡ get_or t.small.idles c idle) (h : same_id i idle ≡ true) (s : ℕ) (at : s ≡ spare) where
    off : started_on (view t) c ≡ false
    off = on_is ∙ ap not (ap (λ x. same_id x idle) (sym e) ∙ h)

    pub cpu-none : t.small.n ≤ s → Does table t t (named None) (start_cpu_step (view t) c)
    unfolding start_cpu_step
    cpu-none l =
        rw (when_on t w _ on, off, le-ltb (free_slot (view t)) (view t).n (omega (arith, view-free t, view_n t)))
        (keeps t w (named None) _ (λ e. let z : ◌≡◌ {A = ℕ} 0 1 = cc in omega arith) refl refl)

    claims : s < t.small.n → start_cpu_step (view t) c ≡ record { reply = named (Some (tenant (view t) s)); after = claimed (view t) c s }
    unfolding start_cpu_step
    claims l = rw (when_on t w _ on, off, lt-ltb (free_slot (view t)) (view t).n (omega (arith, view-free t, view_n t)), view-free t, ← at)

    pub cpu-done : (u : Tasks) (id : TaskId) → s < t.small.n → Rep u → view u ≡ claimed (view t) c s → id ≡ tenant (view t) s → Does table t u (named (Some id)) (start_cpu_step (view t) c)
    cpu-done u id l r v name =
        ends t w u (named (Some id)) (start_cpu_step (view t) c) r (λ z. z) (ap (λ x. named (Some x)) name ∙ ap (λ (x : Step Model). x.reply) (sym (claims l))) (v ∙ ap (λ (x : Step Model). x.after) (sym (claims l))) (start_cpu_sound (view t) c hc w.model)
