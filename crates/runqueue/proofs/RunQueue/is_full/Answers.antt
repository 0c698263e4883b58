-- What the span answers, at these entries.
use Rattle.runqueue.proofs.RunQueue.is_full.Goals as goal

pub returns : goal.returns
returns c = c.is_full_at.ensures c.args.self.slots c.args.self.epochs
