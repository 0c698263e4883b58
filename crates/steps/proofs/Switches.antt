-- A switch, part by part: who may go on, the leaver's stores, the head's stores, the parking.
use mathlib.Core.Path.{◌≡◌, refl, sym, ◌∙◌, ap, ap₂}
use mathlib.Core.Bool.{Bool, true, false, ◌&&◌, not, cond}
use mathlib.Core.List.{List, [], ◌∷◌}
use Prim.Native.Nat.{ℕ, ◌≤◌, ◌<◌}
use native.Mathlib.Omega.{arith}
use borrow.Author.Tests.{lt-ltb, le-ltb, eq-eqb, ne_eqb}
use lib.ListN.{length, get_or}
use Rattle.ids.specs.declared.TaskId.{TaskId}
use Rattle.ids.specs.Id.{same_id, idle}
use Rattle.answers.specs.Reply.{refused, stays}
use Rattle.answers.specs.Contract.{Step, Does}
use Rattle.model.specs.Model.{Model, CPUS, queue_of, started_on}
use Rattle.model.specs.Switch.{Kind, is_yield, idles, is_nil, turn, pulls, switch_on, switch_step, stealing}
use Rattle.model.proofs.Switches.{switch-sound}
use Rattle.memory.specs.declared.Tasks.{Tasks}
use Rattle.memory.specs.View.{len_of, view, Rep, Sound, table}
use Rattle.memory.proofs.ViewLaws.{view_ncpus, view-current, view-idle, view-len}
use Rattle.steps.specs.Stealing.{Pulls}
use Rattle.steps.specs.Switching.{Ready}
use Rattle.steps.proofs.Common.{is-on, when_on, keeps, ends}

-- WHETHER THERE IS A SWITCH

switched-idle : (m : Model) (c : ℕ) (k : Kind) → idles m c ≡ true → is_yield k ≡ false → switch_on m c k ≡ record { reply = stays; after = pulls m c }
unfolding switch_on
switched-idle m c k h y = rw (h, y)

pub switched-turn : (m : Model) (c : ℕ) (k : Kind) → (idles m c && not (is_yield k)) ≡ false → switch_on m c k ≡ turn (pulls m c) c k
unfolding switch_on
switched-turn m c k h = rw h

module _ (t : Tasks) (c : ℕ) (k : Kind) (w : Sound t) (on : get_or t.states 0 0 ≡ 0 → ⊥) where
  pub switch_above : CPUS ≤ c → Does table t t stays (switch_step (view t) c k)
  unfolding switch_step
  switch_above h =
      rw (when_on t w _ on, le-ltb c (length (view t).cpus) (omega (arith, view_ncpus t)))
      (keeps t w stays _ (λ e. let z : ◌≡◌ {A = ℕ} 0 1 = cc in omega arith) refl refl)

  module _ (hc : c < CPUS) where
    -- CPU 0 is started with the table, another when it has an idle of its own
    pub cpu_zero : c ≡ 0 → started_on (view t) c ≡ true
    cpu_zero e = rw (eq-eqb c 0 e) (is-on t w on)

    cpu-other : (c ≡ 0 → ⊥) → started_on (view t) c ≡ not (same_id (get_or t.small.idles c idle) idle)
    cpu-other ne = rw (ne_eqb c 0 ne) (ap (λ i. not (same_id i idle)) (view-idle t c hc))

    pub cpu-on : (c ≡ 0 → ⊥) → same_id (get_or t.small.idles c idle) idle ≡ false → started_on (view t) c ≡ true
    cpu-on ne h = cpu-other ne ∙ ap not h

    pub switch-off : (c ≡ 0 → ⊥) → same_id (get_or t.small.idles c idle) idle ≡ true → Does table t t (refused 6) (switch_step (view t) c k)
    unfolding switch_step
    switch-off ne h =
        rw (when_on t w _ on, lt-ltb c (length (view t).cpus) (omega (arith, view_ncpus t)), cpu-other ne, h)
        (keeps t w (refused 6) _ (λ e. let z : ◌≡◌ {A = ℕ} 6 1 = cc in omega arith) refl refl)

    module _ (up : started_on (view t) c ≡ true) where
      pub switches : switch_step (view t) c k ≡ switch_on (view t) c k
      unfolding switch_step
      switches = rw (when_on t w _ on, lt-ltb c (length (view t).cpus) (omega (arith, view_ncpus t)), up)

      rests : (b : Bool) → same_id (get_or t.small.currents c idle) (get_or t.small.idles c idle) ≡ b → idles (view t) c ≡ b
      rests b h = ap₂ same_id (view-current t c hc) (view-idle t c hc) ∙ h

      -- by what the pull did
      pub pulled_busy : (len_of t c ≡ 0 → ⊥) → view t ≡ pulls (view t) c
      unfolding pulls
      pulled_busy h = go (queue_of (view t) c) refl
        where
          go : (q : List TaskId) → queue_of (view t) c ≡ q → view t ≡ cond (idles (view t) c && is_nil (queue_of (view t) c)) (stealing (view t) c) (view t)
          go [] e = absurd (h (sym (view-len t c hc) ∙ ap length e))
          go (x ∷ l) e = rw e (even (idles (view t) c))
            where
              even : (b : Bool) → view t ≡ cond (b && false) (stealing (view t) c) (view t)
              even true = refl
              even false = refl

      pub pulled_none : same_id (get_or t.small.currents c idle) (get_or t.small.idles c idle) ≡ false → view t ≡ pulls (view t) c
      unfolding pulls
      pulled_none h = rw (rests false h)

      pub pulled_tried : same_id (get_or t.small.currents c idle) (get_or t.small.idles c idle) ≡ true → len_of t c ≡ 0 → (u : Tasks) (b : Bool) → Pulls t c u b → view u ≡ pulls (view t) c
      unfolding pulls
      pulled_tried h z u b p = p.after ∙ rw (rests true h) (go (queue_of (view t) c) (view-len t c hc ∙ z))
        where
          go : (q : List TaskId) → length q ≡ 0 → stealing (view t) c ≡ cond (is_nil q) (stealing (view t) c) (view t)
          go [] e = refl
          go (x ∷ l) e = absurd (omega arith)

      -- idle stays, but for a yield
      pub idle-stays : (u : Tasks) → Rep u → view u ≡ pulls (view t) c → same_id (get_or t.small.currents c idle) (get_or t.small.idles c idle) ≡ true → is_yield k ≡ false → Does table t u stays (switch_step (view t) c k)
      idle-stays u r e h y =
          let stay : switch_step (view t) c k ≡ record { reply = stays; after = pulls (view t) c } = switches ∙ switched-idle (view t) c k (rests true h) y in
          ends t w u stays (switch_step (view t) c k) r (λ z. z) (ap (λ (s : Step Model). s.reply) (sym stay)) (e ∙ ap (λ (s : Step Model). s.after) (sym stay)) (switch-sound (view t) c k w.model)

      pub ready-idle : (u : Tasks) → Rep u → view u ≡ pulls (view t) c → is_yield k ≡ true → Ready t c k u
      ready-idle u r e y = record { rep = r; after = e; goes = rw y (go (idles (view t) c)) }
        where
          go : (b : Bool) → (b && false) ≡ false
          go true = refl
          go false = refl

      pub ready-other : (u : Tasks) → Rep u → view u ≡ pulls (view t) c → same_id (get_or t.small.currents c idle) (get_or t.small.idles c idle) ≡ false → Ready t c k u
      ready-other u r e h = record { rep = r; after = e; goes = rw (rests false h) }
