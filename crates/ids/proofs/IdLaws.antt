-- The test of two ids, and their equality.
use mathlib.Core.Path.{◌≡◌, refl, ap₂}
use mathlib.Core.Bool.{true}
use lib.Dec.{eqb}
use borrow.Author.Tests.{eq-eqb, eqb-true}
use Rattle.lists.proofs.Basics.{both_true}
use Rattle.ids.specs.declared.TaskId.{TaskId}
use Rattle.ids.specs.Id.{same_id}

pub same_eq : (a b : TaskId) → same_id a b ≡ true → a ≡ b
same_eq a b e =
    let p = both_true (eqb a.slot b.slot) (eqb a.epoch b.epoch) e in
    ap₂ (λ s t. record { slot = s; epoch = t }) (eqb-true a.slot b.slot p.0) (eqb-true a.epoch b.epoch p.1)

pub same_self : (a : TaskId) → same_id a a ≡ true
same_self a = rw (eq-eqb a.slot a.slot refl, eq-eqb a.epoch a.epoch refl)
