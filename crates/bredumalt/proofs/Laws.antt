-- A call whose operand crossed as a number has crossed, by what the number was found to name.
use Rattle.std.specs.Prelude.{Option, Some, None}
use mathlib.Core.Path.{◌≡◌, refl, subst}
use Rattle.answers.specs.Reply.{Reply, refused}
use Rattle.answers.specs.Contract.{Kind, Step, Meets}
use Rattle.numbers.specs.declared.Answer.{Answer}
use Rattle.numbers.specs.Numbers.{numbers_of, Crossed}
use Rattle.numbers.specs.Operands.{MeetsNamed}
use Rattle.numbers.proofs.Laws.{crossed}

module _ (k : Kind) {A : Type 0} (step : A → Step k.Plain) (asked : Option A) (a : Answer) (t : k.Memory) where
  -- nothing
  pub unnamed : None ≡ asked → a ≡ numbers_of (refused 12) → Crossed a (λ got. MeetsNamed k t t got step asked)
  unnamed e p = crossed (λ got. MeetsNamed k t t got step asked) a (refused 12) p (subst (λ x. MeetsNamed k t t (refused 12) step x) e (refl, refl))

  -- or something
  pub named_is : (u : k.Memory) (got : Reply) (x : A) → Some x ≡ asked → a ≡ numbers_of got → Meets k t u got (step x) → Crossed a (λ reply. MeetsNamed k t u reply step asked)
  named_is u got x e p m = crossed (λ reply. MeetsNamed k t u reply step asked) a got p (subst (λ y. MeetsNamed k t u got step y) e m)
