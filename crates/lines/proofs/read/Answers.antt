-- Too long, or of one word, two, three or more.
use Rattle.std.proofs.Common.{sym, ◌∙◌}
use Rattle.lines.proofs.Laws.{too_long, one_by, two_by, three_by, more_by}
use Rattle.lines.proofs.read.Goals as goal

pub returns-then-line-gt-LONGEST : goal.returns-then-line-gt-LONGEST
returns-then-line-gt-LONGEST c = too_long _ c.if-line-gt-LONGEST.true

pub returns-then-line-a : goal.returns-then-line-a
returns-then-line-a c = c.one_word.ensures ∙ sym (one_by _ _ c.if-line-gt-LONGEST.false c.until_from-a.ensures.0 c.if-line-a.true)

pub returns-then-line-b : goal.returns-then-line-b
returns-then-line-b c = c.two_words.ensures
    ∙ sym (two_by _ _ c.if-line-gt-LONGEST.false c.until_from-a.ensures.0 _ c.if-line-a.false c.until_from-b.ensures.0 _ _ c.head.ensures c.rest.ensures c.if-line-b.true)

pub returns-then-c-line : goal.returns-then-c-line
returns-then-c-line c =
    more_by _ _ c.if-line-gt-LONGEST.false c.until_from-a.ensures.0 _ c.if-line-a.false c.until_from-b.ensures.0 _ c.if-line-b.false
    c.until_from-c.ensures.0 c.if-c-line.true

pub returns : goal.returns
returns c = c.three_words.ensures
    ∙ sym (three_by _ _ c.if-line-gt-LONGEST.false c.until_from-a.ensures.0 _ c.if-line-a.false c.until_from-b.ensures.0 _ c.if-line-b.false c.until_from-c.ensures.0 _ _ _ c.head-first.ensures c.part-second.ensures c.rest-third.ensures c.if-c-line.false)
