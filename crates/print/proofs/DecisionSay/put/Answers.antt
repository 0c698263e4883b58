use Rattle.text.specs.Text.{bytes}
use Rattle.text.proofs.PrintLaws.{then, then_both}
use Rattle.print.specs.Texts.{id_text, answer_text}
use Rattle.print.proofs.DecisionSay.put.Goals as goal

pub returns-in-Switch : goal.returns-in-Switch
unfolding answer_text
returns-in-Switch c =
    let ids = then_both (bytes " ") (id_text c.in-Switch.to) (then c.text-e.ensures c.id-f.ensures) c.spaced-g.ensures in
    rw c.in-Switch.is (then (then ids c.text-h.ensures) c.id_or_none.ensures)
