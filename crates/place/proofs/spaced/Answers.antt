-- A space, then the digits.
use native.Mathlib.Omega.{arith}
use Rattle.text.proofs.PrintLaws.{decimal-short, then}
use Rattle.place.proofs.spaced.Goals as goal

pub decimal-requires : goal.decimal-requires
decimal-requires c = let w = c.text-e.ensures in
    omega (arith, w.end, w.size, c.requires, decimal-short c.args.v)

pub returns : goal.returns
returns c = then c.text-e.ensures c.decimal.ensures
