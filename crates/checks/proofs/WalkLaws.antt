-- Laws of walks that note what they pass, in the form that a loop meets: where it starts, a step, a way out, its end.
use Rattle.std.proofs.Common.{◌≡◌, ℕ, zero, suc, ◌+◌, ◌<◌, ◌≤◌, Bool, true, false, List, refl, ap, ◌∙◌, add-one, arith}
use native.Mathlib.Decide.{ℕ_discrete}
use Rattle.lists.proofs.Basics.{not_both, tells_no}
use Rattle.checks.specs.Walk.{notes_at, Passes, Notes}

-- A TEST THAT NOTES

pub notes_no : {P : Type 0} {v u : List ℕ} → (P → ⊥) → Notes false P v u
notes_no f = record { tells = tells_no f; leaves = λ e. absurd (not_both e refl) }

-- A WALK

-- the first i steps are taken, from the notes w to the notes v
pub record Walked {W : Type 0} (P : ℕ → W → Type 0) (f : ℕ → W → W) (i : ℕ) (w v : W) : Type 0 where
  pub passed : Passes P f i w
  pub left : v ≡ notes_at f i w

module _ {W : Type 0} (P : ℕ → W → Type 0) (f : ℕ → W → W) where
  pub passes_at : (k i : ℕ) (w : W) → i < k → Passes P f k w → P i (notes_at f i w)
  unfolding Passes
  passes_at zero i w h p = absurd (omega arith)
  passes_at (suc k) i w h p =
      elim (ℕ_discrete i k) [ yes e ↦ rw e p.1 | no e ↦ passes_at k i w (omega arith) p.0 ]

  pub passes_first : (k i : ℕ) (w : W) → i ≤ k → Passes P f k w → Passes P f i w
  unfolding Passes
  passes_first zero i w h p = let e : i ≡ 0 = omega arith in rw e tt
  passes_first (suc k) i w h p =
      elim (ℕ_discrete i (suc k)) [ yes e ↦ rw e p | no e ↦ passes_first k i w (omega arith) p.0 ]

  pub walk_start : (w : W) → Walked P f 0 w w
  unfolding Passes notes_at
  walk_start w = record { passed = tt; left = refl }

  pub walk_next : {i : ℕ} {w v : W} (u : W) → Walked P f i w v → P i v → u ≡ f i v → Walked P f (i + 1) w u
  unfolding Passes notes_at
  walk_next {i} {w} {v} u k p e =
      rw add-one (record { passed = (k.passed, rw k.left at p); left = e ∙ ap (f i) k.left })

  pub walk_stop : {i : ℕ} {w v : W} (k : ℕ) → Walked P f i w v → i < k → (P i v → ⊥) → Passes P f k w → ⊥
  walk_stop {i} {w} {v} k g h out p = out (rw g.left (passes_at k i w h p))

-- a loop whose body is a test that notes
module _ (P : ℕ → List ℕ → Type 0) (f : ℕ → List ℕ → List ℕ) where
  pub walk-on : {i : ℕ} {w v u : List ℕ} {r : Bool} → Walked P f i w v → Notes r (P i v) (f i v) u → r ≡ true → Walked P f (i + 1) w u
  walk-on {i} {w} {v} {u} g s y = walk_next P f u g (s.tells.true_is y) (s.leaves y)

  pub walk-off : {i : ℕ} {w v u x : List ℕ} {r : Bool} (k : ℕ) → Walked P f i w v → i < k → Notes r (P i v) (f i v) u → r ≡ false → Notes false (Passes P f k w) (notes_at f k w) x
  walk-off k g h s n = notes_no (walk_stop P f k g h (s.tells.false_is n))
