-- The law of a line that a line feed ends, and of the last.
use Rattle.output.proofs.Nexts.{next_feed, next_last}
use Rattle.place.proofs.next_line.Goals as goal

pub returns-then-at-e : goal.returns-then-at-e
returns-then-at-e c =
    next_feed _ _ _ _ _ _ c.tail-rest.ensures c.requires c.until-e.ensures.0 c.head.ensures c.read-line.ensures c.if-at-e.true

pub returns : goal.returns
returns c =
    next_last _ _ _ _ _ _ c.tail-rest.ensures c.requires c.until-e.ensures.0 c.head.ensures c.read-line.ensures c.if-at-e.false
