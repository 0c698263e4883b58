-- What the ends answer, at these tokens.
use Rattle.wake.proofs.WakeQueue.is_empty.Goals as goal

pub returns : goal.returns
returns c = c.is_empty_at.ensures c.args.self.tokens
