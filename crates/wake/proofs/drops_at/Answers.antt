-- What the model reads of a sound queue, whatever the tokens are.
use Rattle.wake.proofs.Laws.{drops_is}
use Rattle.wake.proofs.drops_at.Goals as goal

pub returns-then-sound_at : goal.returns-then-sound_at
returns-then-sound_at c = λ tokens. drops_is _ (c.sound_at.ensures.true_is c.if-sound_at.true)
