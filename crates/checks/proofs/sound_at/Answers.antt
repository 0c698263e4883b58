-- `sound_at` tells whether the table that it is shown is sound.
use Rattle.checks.proofs.SoundLaws.{sound-fresh, sound-live}
use Rattle.checks.proofs.sound_at.Goals as goal

pub returns-then-t-eq-EMPTY : goal.returns-then-t-eq-EMPTY
returns-then-t-eq-EMPTY c =
    sound-fresh _ c.typed.ensures (c.rings_fit.ensures.true_is c.if-not-rings_fit.false) c.if-t-eq-EMPTY.true c.is_fresh.ensures

pub returns-else-t-eq-EMPTY : goal.returns-else-t-eq-EMPTY
returns-else-t-eq-EMPTY c =
    sound-live _ c.typed.ensures (c.rings_fit.ensures.true_is c.if-not-rings_fit.false) c.if-t-eq-EMPTY.false c.is_live.ensures
