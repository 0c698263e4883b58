-- The returns of `try_steal_into_in`.
use mathlib.Core.Path.{◌≡◌, refl, sym, ◌∙◌, ap}
use mathlib.Core.Bool.{Bool, false, ◌&&◌, and-false}
use Prim.Native.Nat.{ℕ, ◌≤◌, ◌<◌}
use native.Mathlib.Omega.{arith}
use borrow.Author.Tests.{le-ltb}
use lib.Dec.{ltb}
use lib.ListN.{length, get_or}
use Rattle.answers.specs.Reply.{told}
use Rattle.answers.specs.Contract.{Step, Does}
use Rattle.model.specs.Model.{Model, CPUS, queue_of}
use Rattle.model.specs.Switch.{peer_of, loot_at, can_steal, stealing, try_steal_step}
use Rattle.model.proofs.Steals.{try_steal_sound}
use Rattle.memory.specs.declared.Tasks.{Tasks}
use Rattle.memory.specs.View.{len_of, view, Sound, table}
use Rattle.memory.proofs.ViewLaws.{view_ncpus, view-len}
use Rattle.steps.specs.Stealing.{Pulls}
use Rattle.steps.proofs.Common.{not_nil, when_on, keeps, ends}

module _ (t : Tasks) (c : ℕ) where
  pub can_above : CPUS ≤ c → can_steal (view t) c ≡ false
  unfolding can_steal
  can_above h = rw (le-ltb c (length (view t).cpus) (omega (arith, view_ncpus t)))

  pub can_busy : c < CPUS → (len_of t c ≡ 0 → ⊥) → can_steal (view t) c ≡ false
  unfolding can_steal
  can_busy hc h = rw (not_nil (queue_of (view t) c) (λ e. h (sym (view-len t c hc) ∙ e))) (ap (λ b. b && ltb (loot_at (view t) (queue_of (view t) (peer_of (view t) c))) (length (queue_of (view t) (peer_of (view t) c)))) (and-false (ltb c (length (view t).cpus))))

module _ (t : Tasks) (c : ℕ) (w : Sound t) (on : get_or t.states 0 0 ≡ 0 → ⊥) where
  none : can_steal (view t) c ≡ false → Does table t t (told false) (try_steal_step (view t) c)
  unfolding try_steal_step stealing
  none z = rw (when_on t w _ on, z) (keeps t w (told false) _ (λ e. let z : ◌≡◌ {A = ℕ} 0 1 = cc in omega arith) refl refl)

  pub try_above : CPUS ≤ c → Does table t t (told false) (try_steal_step (view t) c)
  try_above h = none (can_above t c h)

  pub try_busy : c < CPUS → (len_of t c ≡ 0 → ⊥) → Does table t t (told false) (try_steal_step (view t) c)
  try_busy hc h = none (can_busy t c hc h)

  pub try_done : (u : Tasks) (b : Bool) → Pulls t c u b → Does table t u (told b) (try_steal_step (view t) c)
  unfolding try_steal_step
  try_done u b p =
      let e = when_on t w (record { reply = told (can_steal (view t) c); after = stealing (view t) c }) on in
      ends t w u (told b) (try_steal_step (view t) c) p.rep (λ z. z)
      (ap told p.answer ∙ ap (λ (x : Step Model). x.reply) (sym e)) (p.after ∙ ap (λ (x : Step Model). x.after) (sym e)) (try_steal_sound (view t) c w.model)
