-- What the span answers, at these entries.
use Rattle.runqueue.proofs.RunQueue.len.Goals as goal

pub returns : goal.returns
returns c = c.len_at.ensures c.args.self.slots c.args.self.epochs
