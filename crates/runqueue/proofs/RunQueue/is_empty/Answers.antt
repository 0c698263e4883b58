-- What the span answers, at these entries.
use Rattle.runqueue.proofs.RunQueue.is_empty.Goals as goal

pub returns : goal.returns
returns c = c.is_empty_at.ensures c.args.self.slots c.args.self.epochs
