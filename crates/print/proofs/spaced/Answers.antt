use Rattle.text.proofs.PrintLaws.{then}
use Rattle.print.proofs.spaced.Goals as goal

pub returns : goal.returns
returns c = then c.text-e.ensures c.id.ensures
