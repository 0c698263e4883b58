-- Which kind of switch, and which reply, the code's enums are.
use Rattle.std.specs.Prelude.{Result}
use Rattle.answers.specs.declared.Refusal.{Refusal}
use Rattle.answers.specs.Reply.{Reply, stays, switched}
use Rattle.answers.specs.Answers.{reply}
use Rattle.model.specs.Switch as plain
use Rattle.switch.specs.declared.Kind as kind
use Rattle.switch.specs.declared.Kind.TheVariants as kind-of
use Rattle.switch.specs.declared.Decision as decision
use Rattle.switch.specs.declared.Decision.TheVariants as decision-of

abbrev pub kind_of : kind.Kind → plain.Kind
kind_of kind-of.Yield = plain.yield
kind_of kind-of.Preempt = plain.preempt
kind_of kind-of.Block = plain.block
kind_of kind-of.Exit = plain.exit

abbrev pub decided : decision.Decision → Reply
decided decision-of.Stay = stays
decided (decision-of.Switch a b r) = switched a b r

abbrev pub decision_reply : Result decision.Decision Refusal → Reply
decision_reply r = reply decided r
