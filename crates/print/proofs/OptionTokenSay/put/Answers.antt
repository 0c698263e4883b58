use Rattle.text.proofs.PrintLaws.{then}
use Rattle.print.specs.Texts.{answer_text}
use Rattle.print.proofs.OptionTokenSay.put.Goals as goal

pub returns-in-Some : goal.returns-in-Some
unfolding answer_text
returns-in-Some c = rw c.in-Some.is (then c.text-e.ensures c.decimal.ensures)
