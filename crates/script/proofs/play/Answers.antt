-- By the table that the line is about.
use Rattle.std.proofs.Common.{refl}
use Rattle.output.proofs.Arms.{plays-tasks, plays-waits, plays-deadlines, plays-wakes, plays_unread}
use Rattle.script.proofs.play.Goals as goal

pub returns-in_default : goal.returns-in_default
returns-in_default c = rw c.in_default.is (record { at = refl; number = refl; used = refl }, plays_unread _ _ _ _ c.requires.sound _ _ _ _ _ c.line.ensures)

pub returns-in-Tasks : goal.returns-in-Tasks
returns-in-Tasks c = rw (c.in-Some.is, c.in-Tasks.is) (record { at = refl; number = refl; used = refl }, plays-tasks _ _ _ _ c.requires.sound _ _ _ _ _ _ _ c.on_tasks.ensures)

pub returns-in-Waits : goal.returns-in-Waits
returns-in-Waits c = rw (c.in-Some.is, c.in-Waits.is) (record { at = refl; number = refl; used = refl }, plays-waits _ _ _ _ c.requires.sound _ _ _ _ _ _ _ c.on_waits.ensures)

pub returns-in-Deadlines : goal.returns-in-Deadlines
returns-in-Deadlines c =
    rw (c.in-Some.is, c.in-Deadlines.is) (record { at = refl; number = refl; used = refl }, plays-deadlines _ _ _ _ c.requires.sound _ _ _ _ _ _ _ c.on_deadlines.ensures)

pub returns-in-Wakes : goal.returns-in-Wakes
returns-in-Wakes c = rw (c.in-Some.is, c.in-Wakes.is) (record { at = refl; number = refl; used = refl }, plays-wakes _ _ _ _ c.requires.sound _ _ _ _ _ _ _ c.on_wakes.ensures)
