-- No slash, more than one, or one with a part on either side.
use Rattle.std.proofs.Common.{sym, ◌∙◌}
use Rattle.words.proofs.Laws.{id_one, id_many, id-two}
use Rattle.words.proofs.id.Goals as goal

pub returns-then-w-a : goal.returns-then-w-a
returns-then-w-a c = id_one _ _ c.until-a.ensures.0 c.if-w-a.true

pub returns-then-b-tail : goal.returns-then-b-tail
returns-then-b-tail c =
    id_many _ _ c.until-a.ensures.0 _ _ c.if-w-a.false c.rest-tail.ensures c.until-b.ensures.0 c.if-b-tail.true

pub returns : goal.returns
returns c =
    c.pair.ensures
    ∙ sym (id-two _ _ c.until-a.ensures.0 _ _ c.if-w-a.false c.rest-tail.ensures c.until-b.ensures.0 _ c.if-b-tail.false c.head.ensures)
