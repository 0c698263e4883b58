-- Answers of `pop` that are one reply are one answer.
use Rattle.std.specs.Prelude.{Option, Some, None, Result, option_map}
use Rattle.std.proofs.Common.{◌≡◌, refl, ap}
use Rattle.ids.specs.declared.Token.{Token}
use Rattle.answers.specs.declared.Refusal.{Refusal}
use Rattle.answers.specs.Reply.{value}
use Rattle.answers.proofs.Apart.{same-answer}
use Rattle.wake.specs.Steps.{popped_reply}

same-token : (a b : Option Token) → option_map (λ (t : Token). t.0) a ≡ option_map (λ (t : Token). t.0) b → a ≡ b
same-token None None e = refl
same-token None (Some u) e = cc
same-token (Some t) None e = cc
same-token (Some t) (Some u) e = let same : t.0 ≡ u.0 = cc in ap (λ n. Some (record { 0 = n })) same

pub same-popped : (a b : Result (Option Token) Refusal) → popped_reply a ≡ popped_reply b → a ≡ b
same-popped a b e = same-answer (λ o. value (option_map (λ (t : Token). t.0) o)) (λ x y z. same-token x y (cc)) (λ x n z. cc) a b e
