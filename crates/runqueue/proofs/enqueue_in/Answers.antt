-- At the tail, or refused where the ring is full.
use mathlib.Core.Path.{refl}
use Rattle.runqueue.proofs.Laws.{enqueue-full, enqueue-done}
use Rattle.runqueue.proofs.enqueue_in.Goals as goal

pub returns-then-span : goal.returns-then-span
returns-then-span c = enqueue-full _ c.requires _ c.if-span.true

pub returns : goal.returns
returns c = enqueue-done _ c.requires _ _ _ c.told-slots c.told-epochs c.if-span.false c.place-tail.ensures.0 refl
