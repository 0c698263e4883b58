-- Demand 2 over any calls, proved once for every kind of table: whatever the contracts admit is the model's run.
use mathlib.Core.Path.{refl, ◌∙◌, ap, ap₂}
use mathlib.Core.List.{List, [], ◌∷◌}
use Rattle.lists.specs.Each.{Each}
use Rattle.answers.specs.Reply.{Reply}
use Rattle.answers.specs.Contract.{Kind, Step, Makes}
use Rattle.answers.specs.Run.{replies, trail, Outcome, Admitted, CallMeets, Follows, Kept}
use Rattle.answers.proofs.Coincide.{meets_does, meets_kept}

module _ (k : Kind) {C : Type 0} (step : k.Plain → C → Step k.Plain) where
  -- where on sound tables each call makes what the model does
  pub follows : (admits : k.Memory → C → Reply → k.Memory → Type 0)
      → ((t u : k.Memory) (c : C) (got : Reply) → k.Sound t → admits t c got u → Makes k u got (step (k.view t) c))
      → (t : k.Memory) (cs : List C) (os : List (Outcome k.Memory)) → k.Sound t → Admitted admits t cs os → Follows k step (k.view t) cs os
  unfolding Admitted replies trail Each
  follows admits right t [] [] s a = record { replies_are = refl; tables_are = refl; sound = tt }
  follows admits right t [] (o ∷ os) s a = absurd a
  follows admits right t (c ∷ cs) [] s a = absurd a
  follows admits right t (c ∷ cs) (o ∷ os) s a =
      let one = right t o.table c o.reply s a.0 in
      let rest = follows admits right o.table cs os one.sound a.1 in
      record {
        replies_are = ap₂ (λ x y. x ∷ y) one.reply (rest.replies_are ∙ ap (λ p. replies step p cs) one.after);
        tables_are = ap₂ (λ x y. x ∷ y) one.after (rest.tables_are ∙ ap (λ p. trail step p cs) one.after);
        sound = (one.sound, rest.sound);
      }

  -- calls on one table alone
  pub follows_alone : (t : k.Memory) (cs : List C) (os : List (Outcome k.Memory)) → k.Sound t → Admitted (CallMeets k step) t cs os → Follows k step (k.view t) cs os
  follows_alone = follows (CallMeets k step) (λ t u c got s m. (meets_does k t u got (step (k.view t) c) s m).makes)

  pub kept_alone : (t : k.Memory) (cs : List C) (os : List (Outcome k.Memory)) → Admitted (CallMeets k step) t cs os → Kept t os
  unfolding Admitted Kept
  kept_alone t [] [] a = tt
  kept_alone t [] (o ∷ os) a = absurd a
  kept_alone t (c ∷ cs) [] a = absurd a
  kept_alone t (c ∷ cs) (o ∷ os) a = (meets_kept k t o.table o.reply (step (k.view t) c) a.0, kept_alone o.table cs os a.1)
