-- What the ends answer, at these tokens.
use Rattle.wake.proofs.WakeQueue.drops.Goals as goal

pub returns : goal.returns
returns c = c.drops_at.ensures c.args.self.tokens
