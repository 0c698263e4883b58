-- A comparison byte by byte.
use Rattle.std.proofs.Common.{◌∙◌}
use Rattle.text.proofs.ReadLaws.{pointwise_same}
use Rattle.words.proofs.same.Goals as goal

pub returns : goal.returns
returns c = c.eq.ensures ∙ pointwise_same _ _
