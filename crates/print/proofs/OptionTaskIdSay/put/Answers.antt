use Rattle.text.proofs.PrintLaws.{then}
use Rattle.print.specs.Texts.{answer_text}
use Rattle.print.proofs.OptionTaskIdSay.put.Goals as goal

pub returns : goal.returns
unfolding answer_text
returns c = then c.text-e.ensures c.id_or_none.ensures
