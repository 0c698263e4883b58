use Rattle.text.proofs.PrintLaws.{then}
use Rattle.print.specs.Texts.{line_text}
use Rattle.print.proofs.line.Goals as goal

pub returns : goal.returns
unfolding line_text
returns g c = then (then (then c.decimal-e.ensures c.text-f.ensures) c.reply-g.ensures) c.text.ensures
