-- Where the first entry that a test holds of stands: after entries have joined the tail, after a steal, and no later than
-- any entry that the test holds of.
use mathlib.Core.Path.{◌≡◌, refl, sym, ◌∙◌, ap, subst}
use mathlib.Core.Bool.{Bool, true, false}
use mathlib.Core.Logic.{⊎_elim}
use mathlib.Core.List.{List, [], ◌∷◌, ◌++◌}
use Prim.Native.Nat.{ℕ, zero, suc, ◌+◌, ◌-◌, ◌≤◌, ◌<◌}
use native.Mathlib.Omega.{arith}
use native.Mathlib.Decide.{ℕ_discrete}
use lib.ListN.{length, get_or}
use Rattle.lists.specs.Search.{first_at}
use Rattle.lists.proofs.Basics.{lt_or_ge, not_both}
use Rattle.lists.proofs.SearchLaws.{first_hit, first_pass, first_is}
use Rattle.ids.specs.declared.TaskId.{TaskId}
use Rattle.ids.specs.Id.{idle}
use Rattle.model.specs.Switch.{robbed}
use Rattle.model.proofs.Robbed.{robbed-before, robbed-after, robbed-length}

module _ {A : Type 0} (p : A → Bool) where
  pub first-most : (q : List A) (i : ℕ) (d : A) → i < length q → p (get_or q i d) ≡ true → first_at p q ≤ i
  first-most [] i d h e = absurd (omega arith)
  first-most (y ∷ q) zero d h e = rw (first_hit p y q e) (omega arith)
  first-most (y ∷ q) (suc i) d h e = go (p y) refl (first-most q i d (omega arith) e)
    where
      go : (b : Bool) → p y ≡ b → first_at p q ≤ i → first_at p (y ∷ q) ≤ suc i
      go true f r = rw (first_hit p y q f) (omega arith)
      go false f r = rw (first_pass p y q f) (omega arith)

  pub first_joined : (q l : List A) → first_at p q < length q → first_at p (q ++ l) ≡ first_at p q
  first_joined [] l h = absurd (omega arith)
  first_joined (y ∷ q) l h = go (p y) refl (first_joined q l)
    where
      go : (b : Bool) → p y ≡ b → (first_at p q < length q → first_at p (q ++ l) ≡ first_at p q) → first_at p (y ∷ q ++ l) ≡ first_at p (y ∷ q)
      go true f r = first_hit p y (q ++ l) f ∙ sym (first_hit p y q f)
      go false f r =
          first_pass p y (q ++ l) f ∙ ap suc (r (let e = first_pass p y q f in omega arith)) ∙ sym (first_pass p y q f)

-- a steal of another entry pushes it back by at most L - 2 places
module _ (p : TaskId → Bool) (q : List TaskId) (j : ℕ) (hj : j < length q) (other : p (get_or q j idle) ≡ false) (stands : first_at p q < length q) where
  abbrev a : ℕ
  a = first_at p q

  here : p (get_or q a idle) ≡ true
  here = first_is p q idle stands

  -- the two stand at two places
  pub apart : 2 ≤ length q
  apart =
      elim (ℕ_discrete a j) [
        | yes e ↦ absurd (not_both (subst (λ i. p (get_or q i idle) ≡ true) e here) other)
        | no ne ↦ omega arith
      ]

  pub pushed_back : (first_at p (robbed j q) < length (robbed j q)) × (first_at p (robbed j q) ≤ a + (length q - 2))
  pushed_back =
      elim (ℕ_discrete a j) [
        | yes e ↦ absurd (not_both (subst (λ i. p (get_or q i idle) ≡ true) e here) other)
        | no ne ↦
            ⊎_elim
            (λ (l : a < j).
            let most = first-most p (robbed j q) (length q - 1 - j + a) idle (omega (arith, robbed-length q j hj)) (ap p (robbed-before q j hj a idle l) ∙ here) in
            (omega (arith, robbed-length q j hj), omega arith))
            (λ (g : j ≤ a).
            let most = first-most p (robbed j q) (a - j - 1) idle (omega (arith, robbed-length q j hj)) (ap p (robbed-after q j hj a idle (omega arith) stands) ∙ here) in
            (omega (arith, robbed-length q j hj), omega arith))
            (lt_or_ge a j)
      ]
