-- The reading digit by digit: the bytes passed are worth v, which is at most max.
use Rattle.std.proofs.Common.{sym, ◌∙◌, arith, rules}
use Rattle.std.proofs.lemmas.Bool.Decides.{nat_tests}
use Rattle.text.proofs.ReadLaws.{number-none, number-start, number_stop, number_big, number_more, number-done}
use Rattle.words.proofs.number.Goals as goal
use Rattle.words.proofs.number.Goals.{then-max-v-via-then-max-v, then-max-v-via-else-max-v+then-max-v-2}

pub returns-then-is_empty : goal.returns-then-is_empty
returns-then-is_empty c = number-none _ _ (search rules)

pub loop-d-init : goal.loop-d-init
loop-d-init c = (omega arith, number-start _ _ (grind (arith, nat_tests)))

pub returns-then-not-is_digit : goal.returns-then-not-is_digit
returns-then-not-is_digit c =
    number_stop _ _ _ _ c.loop-d.invariant.1 c.loop-d-test.true (sym c.is_digit.ensures ∙ c.if-not-is_digit.true)

pub returns-then-max-v : goal.returns-then-max-v
returns-then-max-v c =
    number_big _ _ _ _ c.loop-d.invariant.1 c.loop-d-test.true (sym c.is_digit.ensures ∙ c.if-not-is_digit.false) _ c.from-x.ensures
    (elim c.then-max-v.branch [ then-max-v-via-then-max-v w ↦ omega arith | then-max-v-via-else-max-v+then-max-v-2 w ↦ omega arith ])

pub loop-d-preserved : goal.loop-d-preserved
loop-d-preserved c =
    (omega arith, number_more _ _ _ _ c.loop-d.invariant.1 c.loop-d-test.true (sym c.is_digit.ensures ∙ c.if-not-is_digit.false) _ c.from-x.ensures)

pub returns : goal.returns
returns c = number-done _ _ _ _ c.loop-d.invariant.1 c.loop-d-test.false c.loop-d.invariant.0
