-- What every call on a sound task table starts from, and how it ends.
use mathlib.Core.Path.{◌≡◌, refl, sym, ◌∙◌, ap, subst}
use mathlib.Core.Bool.{true, false, not}
use mathlib.Core.List.{List, [], ◌∷◌}
use Prim.Native.Nat.{ℕ, ◌<◌}
use native.Mathlib.Omega.{arith}
use borrow.Author.Tests.{eq-eqb, ne_eqb}
use lib.ListN.{length, get_or}
use Rattle.ids.specs.declared.TaskId.{TaskId}
use Rattle.answers.specs.Reply.{Reply, refused, Refused}
use Rattle.answers.specs.Contract.{Step, Does}
use Rattle.answers.proofs.Returns.{does, does_keep}
use Rattle.model.specs.Model.{Model, CPUS, EMPTY, state_of, started, fresh}
use Rattle.model.specs.Steps.{when_started}
use Rattle.model.specs.Switch.{is_nil}
use Rattle.model.specs.Sound as plain
use Rattle.model.proofs.Counting.{room}
use Rattle.model.proofs.Facts.{live, unstarted}
use Rattle.memory.specs.declared.Tasks.{Tasks}
use Rattle.memory.specs.View.{view, len_of, Rep, Sound, table}
use Rattle.memory.proofs.ViewLaws.{view_n, view-state, view-len}

-- a queue by its length
pub nil_of : (l : List TaskId) → length l ≡ 0 → is_nil l ≡ true
nil_of [] h = refl
nil_of (x ∷ l) h = absurd (omega arith)

pub not_nil : (l : List TaskId) → (length l ≡ 0 → ⊥) → is_nil l ≡ false
not_nil [] h = absurd (h refl)
not_nil (x ∷ l) h = refl

module _ (t : Tasks) (w : Sound t) where
  first-state : state_of (view t) 0 ≡ get_or t.states 0 0
  first-state = view-state t 0 w.rep.some

  pub is_off : get_or t.states 0 0 ≡ 0 → started (view t) ≡ false
  is_off h = ap not (eq-eqb (state_of (view t) 0) EMPTY (first-state ∙ h))

  pub is-on : (get_or t.states 0 0 ≡ 0 → ⊥) → started (view t) ≡ true
  is-on h = ap not (ne_eqb (state_of (view t) 0) EMPTY (λ e. h (sym first-state ∙ e)))

  -- 3 NotStarted
  pub not_started : (s : Step Model) → get_or t.states 0 0 ≡ 0 → Does table t t (refused 3) (when_started (view t) s)
  not_started s h = does_keep table t (refused 3) (when_started (view t) s) w (λ e. let z : ◌≡◌ {A = ℕ} 3 1 = cc in omega arith) (rw (is_off h)) (rw (is_off h))

  pub when_on : (s : Step Model) → (get_or t.states 0 0 ≡ 0 → ⊥) → when_started (view t) s ≡ s
  when_on s h = rw (is-on h)

  -- a started table is live
  pub lives : started (view t) ≡ true → plain.Live (view t)
  lives h = live (view t) w.model h

  pub blank : get_or t.states 0 0 ≡ 0 → view t ≡ fresh t.small.n
  blank h = unstarted (view t) w.model (is_off h) ∙ ap fresh (view_n t)

  -- room for one more in any queue
  pub has_room : started (view t) ≡ true → (c : ℕ) → c < CPUS → len_of t c < t.small.n
  has_room h c hc = omega (arith, room (view t) w.model.shape (lives h) c hc, view-len t c hc, view_n t)

  -- handed back with an answer
  pub keeps : (got : Reply) (want : Step Model) → (got ≡ refused 1 → ⊥) → got ≡ want.reply → view t ≡ want.after → Does table t t got want
  keeps got want f e a = does_keep table t got want w f e a

  -- changed, as the model has it
  pub ends : (u : Tasks) (got : Reply) (want : Step Model) → Rep u → (Refused got → ⊥) → got ≡ want.reply → view u ≡ want.after → plain.Sound want.after → Does table t u got want
  ends u got want r f e a s = does table t u got want f e a (record { rep = r; model = subst plain.Sound (sym a) s })
