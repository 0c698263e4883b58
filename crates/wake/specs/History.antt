-- What happened, told from the calls and their answers alone.
use Rattle.std.specs.Prelude.{ℕ, Bool, false, not, List}
use Rattle.answers.specs.Reply.{Reply, refused, done, told, number, named, value, stays, switched}
use Rattle.answers.specs.Run.{times}
use Rattle.wake.specs.Queue.{Queue}
use Rattle.wake.specs.Calls.{Call, push, pop, drops, empty, step}

-- a push that was answered false
abbrev pub failed : Call → Reply → Bool
failed (push t) (told b) = not b
failed (push t) (refused n) = false
failed (push t) done = false
failed (push t) (number n) = false
failed (push t) (named i) = false
failed (push t) (value v) = false
failed (push t) stays = false
failed (push t) (switched a b c) = false
failed pop r = false
failed drops r = false
failed empty r = false

-- how many pushes were answered false, of the calls made one after the other
abbrev pub failures : Queue → List Call → ℕ
failures = times step (λ q k r. failed k r)
