use Rattle.text.proofs.PrintLaws.{then}
use Rattle.print.specs.Texts.{id_text}
use Rattle.print.proofs.id.Goals as goal

pub returns : goal.returns
unfolding id_text
returns c = then (then c.decimal-slash.ensures c.text-epoch.ensures) c.decimal.ensures
