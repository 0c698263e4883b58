-- Of an id that is known.
use Rattle.std.proofs.Common.{sym, ◌∙◌}
use Rattle.model.specs.Model.{state_of}
use Rattle.memory.specs.View.{view}
use Rattle.reads.proofs.Laws.{near, unknown, code_known, state_is}
use Rattle.reads.proofs.state_in.Goals as goal

pub returns-then-not-known : goal.returns-then-not-known
returns-then-not-known c = unknown _ c.requires _ (state_of (view _)) (sym c.known.ensures ∙ c.if-not-known.true)

pub named_state-requires : goal.named_state-requires
named_state-requires c = code_known _ c.requires _ (near _ c.requires _ (sym c.known.ensures ∙ c.if-not-known.false))

pub returns : goal.returns
returns c = state_is _ c.requires _ _ (sym c.known.ensures ∙ c.if-not-known.false) c.named_state.ensures
