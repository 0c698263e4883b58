-- What the span answers, at these entries.
use Rattle.runqueue.proofs.RunQueue.capacity.Goals as goal

pub returns : goal.returns
returns c = c.capacity_at.ensures c.args.self.slots c.args.self.epochs
