-- Both parts are numbers of 16 bits.
use Rattle.std.proofs.Common.{sym, arith}
use Rattle.words.specs.Words.{largest}
use Rattle.text.proofs.ReadLaws.{number_fits}
use Rattle.words.proofs.pair.Goals as goal

pub overflow_cast-result : goal.overflow_cast-result
overflow_cast-result c = omega (arith, number_fits (largest 16) _ _ (sym c.in_ok-number.ensures))

pub overflow_cast-result-2 : goal.overflow_cast-result-2
overflow_cast-result-2 c = omega (arith, number_fits (largest 16) _ _ (sym c.in_ok-number-2.ensures))
