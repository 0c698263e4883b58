use Rattle.text.proofs.PrintLaws.{then}
use Rattle.print.specs.Texts.{answer_text}
use Rattle.print.proofs.polled.Goals as goal

pub returns-in-Ok : goal.returns-in-Ok
unfolding answer_text
returns-in-Ok c = rw c.in-Ok.is (then (then c.text-e.ensures c.decimal-f.ensures) c.listing.ensures)
