-- The deadlines that are left, and the output that the poll was lent.
use Rattle.std.proofs.Common.{refl}
use Rattle.output.proofs.Arms.{plays-poll}
use Rattle.script.proofs.poll.Goals as goal

pub returns : goal.returns
returns c = (record { at = refl; number = refl; used = refl }, plays-poll _ _ _ _ c.requires.sound _ _ _ _ _ _ _ _ _ _ refl c.poll_in-answer.ensures c.polled_line.ensures)
