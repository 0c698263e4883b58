-- Of an id that is known.
use Rattle.std.proofs.Common.{sym, ◌∙◌}
use Rattle.model.specs.Model.{home_of}
use Rattle.memory.specs.View.{view}
use Rattle.reads.proofs.Laws.{unknown, home_is}
use Rattle.reads.proofs.home_of_in.Goals as goal

pub returns-then-not-known : goal.returns-then-not-known
returns-then-not-known c = unknown _ c.requires _ (home_of (view _)) (sym c.known.ensures ∙ c.if-not-known.true)

pub returns : goal.returns
returns c = home_is _ c.requires _ (sym c.known.ensures ∙ c.if-not-known.false)
