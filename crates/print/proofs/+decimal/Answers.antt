-- By recursion on the number: a hundredth of it is written by the same function.
use Rattle.std.proofs.Common.{sym}
use Rattle.text.proofs.PrintLaws.{decimal_one, decimal-two, decimal_hundred, then, wrote_as}
use Rattle.print.proofs.+decimal.Goals as goal

pub returns-then-n-lt10 : goal.returns-then-n-lt10
returns-then-n-lt10 t c = wrote_as (sym (decimal_one c.args.n c.if-n-lt10.true)) c.text.ensures

pub returns-then-n-lt100 : goal.returns-then-n-lt100
returns-then-n-lt100 t c = wrote_as (sym (decimal-two c.args.n c.if-n-lt100.true c.if-n-lt10.false)) c.two.ensures

pub returns-else-n-lt100 : goal.returns-else-n-lt100
returns-else-n-lt100 t c =
    wrote_as (sym (decimal_hundred c.args.n c.ranges.n.fits c.if-n-lt100.false)) (then c.decimal-tens.ensures c.two-else-n-lt100.ensures)
