-- The head, or nothing.
use mathlib.Core.Path.{refl}
use Rattle.runqueue.proofs.Laws.{dequeue-none, dequeue-done}
use Rattle.runqueue.proofs.dequeue_in.Goals as goal

pub returns-then-span-eq0 : goal.returns-then-span-eq0
returns-then-span-eq0 c = dequeue-none _ c.requires c.if-span-eq0.true

pub returns : goal.returns
returns c = dequeue-done _ c.requires _ _ c.if-span-eq0.false c.place-span.ensures.0 refl
