use Rattle.text.proofs.PrintLaws.{copied}
use Rattle.print.proofs.text.Goals as goal

pub returns : goal.returns
returns c = rw c.copy_from_slice.ensures.after (copied c.args.out.now c.args.s.now c.args.at c.requires)
