use Rattle.std.proofs.Common.{arith}
use Rattle.text.proofs.PrintLaws.{then}
use Rattle.print.specs.Texts.{line_text}
use Rattle.print.proofs.Laws.{poll-short, lengths}
use Rattle.print.proofs.polled_line.Goals as goal

pub polled-g-requires : goal.polled-g-requires
polled-g-requires c =
    let short = poll-short c.args.a c.args.raws.now (λ i. (c.type_inv.raws i).fits) in
    grind (arith, lengths)

pub text-requires : goal.text-requires
text-requires c =
    let short = poll-short c.args.a c.args.raws.now (λ i. (c.type_inv.raws i).fits) in
    grind (arith, lengths)

pub returns : goal.returns
unfolding line_text
returns c = then (then (then c.decimal-e.ensures c.text-f.ensures) c.polled-g.ensures) c.text.ensures
