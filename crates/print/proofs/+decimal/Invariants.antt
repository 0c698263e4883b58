-- By recursion on the number: a hundredth of it is written by the same function.
use Rattle.print.proofs.+decimal.Given as goal

abbrev pub decreases-decimal : goal.decreases-decimal
decreases-decimal l = l.n
