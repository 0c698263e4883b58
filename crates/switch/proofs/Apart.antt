-- Decisions that are one reply are one decision.
use Rattle.std.specs.Prelude.{Result}
use Rattle.std.proofs.Common.{◌≡◌, ℕ}
use Rattle.answers.specs.declared.Refusal.{Refusal}
use Rattle.answers.specs.Reply.{refused}
use Rattle.answers.proofs.Apart.{same-answer}
use Rattle.switch.specs.declared.Decision as decision
use Rattle.switch.specs.declared.Decision.TheVariants as decision-of
use Rattle.switch.specs.Decisions.{decided, decision_reply}

apart : (a b : decision.Decision) → decided a ≡ decided b → a ≡ b
apart decision-of.Stay decision-of.Stay e = cc
apart decision-of.Stay (decision-of.Switch f g q) e = cc
apart (decision-of.Switch c d p) decision-of.Stay e = cc
apart (decision-of.Switch c d p) (decision-of.Switch f g q) e = cc

tells : (a : decision.Decision) (n : ℕ) → decided a ≡ refused n → ⊥
tells decision-of.Stay n e = cc
tells (decision-of.Switch c d p) n e = cc

pub same-decision : (a b : Result decision.Decision Refusal) → decision_reply a ≡ decision_reply b → a ≡ b
same-decision a b e = same-answer decided apart tells a b e
