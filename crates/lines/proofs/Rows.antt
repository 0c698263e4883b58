-- Lines and what they ask for, computed: an example, each command once, and what is just inside or just outside what can be
-- read.
use Rattle.std.proofs.Common.{◌≡◌, ◌+◌, true, false, List, [], ◌∷◌, map, length, refl}
use Prim.Native.String.{String}
use Rattle.model.specs.Switch.{yield, preempt, block, exit}
use Rattle.model.specs.Calls as task
use Rattle.irqwait.specs.Calls as wait
use Rattle.parktime.specs.Calls as deadline
use Rattle.wake.specs.Calls as token
use Rattle.runs.specs.Sheet.{id}
use Rattle.runs.specs.Tables.{on_tasks, on_waits, on_deadlines, on_wakes}
use Rattle.text.specs.Text.{bytes, same, split, onto, value, number}
use Rattle.words.specs.Words.{read_id}
use Rattle.lines.specs.Asked.{Asked, afresh, calls, unreadable, poll_at}
use Rattle.lines.specs.Lines.{LONGEST, pick, with_one, with_two, kind_word, mark_word, one_word, two_words, three_words, read_words, read_line}

-- 80 bytes, most of them leading zeros
abbrev widest : String
widest = "poll 000000000000000000000000000000000000000000000000000000000000000000000000007"

abbrev one_more : String
one_more = "poll 0000000000000000000000000000000000000000000000000000000000000000000000000007"

abbrev rows : List (String × Asked)
rows =
    ("new 4", afresh 4)
    ∷ ("start", calls (on_tasks task.start))
    ∷ ("admit 0", calls (on_tasks (task.admit 0)))
    ∷ ("switch 0 yield", calls (on_tasks (task.switch 0 yield)))
    ∷ ("switch 0 exit", calls (on_tasks (task.switch 0 exit)))
    ∷ ("collect", calls (on_tasks task.collect))
    -- the other commands
    ∷ ("start1", calls (on_tasks task.start1))
    ∷ ("switch 1 preempt", calls (on_tasks (task.switch 1 preempt)))
    ∷ ("switch 1 block", calls (on_tasks (task.switch 1 block)))
    ∷ ("mark 3/0 yes", calls (on_tasks (task.mark (id 3 0) true)))
    ∷ ("mark 3/0 no", calls (on_tasks (task.mark (id 3 0) false)))
    ∷ ("steal 1", calls (on_tasks (task.steal 1)))
    ∷ ("wake 1/2", calls (on_tasks (task.wake (id 1 2))))
    ∷ ("irq 30 2/0", calls (on_waits (wait.arm 30 (id 2 0))))
    ∷ ("unirq 2/0", calls (on_waits (wait.disarm (id 2 0))))
    ∷ ("signal 30", calls (on_waits (wait.signal 30)))
    ∷ ("take 2/0", calls (on_waits (wait.take (id 2 0))))
    ∷ ("park 2/0 100", calls (on_deadlines (deadline.arm (id 2 0) 100)))
    ∷ ("unpark 2/0", calls (on_deadlines (deadline.disarm (id 2 0))))
    ∷ ("poll 99", calls (on_deadlines (poll_at 99)))
    ∷ ("push 131075", calls (on_wakes (token.push 131075)))
    ∷ ("pop", calls (on_wakes token.pop))
    -- the largest numbers, and one more
    ∷ ("new 65535", afresh 65535)
    ∷ ("new 65536", unreadable)
    ∷ ("admit 255", calls (on_tasks (task.admit 255)))
    ∷ ("admit 256", unreadable)
    ∷ ("wake 65535/65535", calls (on_tasks (task.wake (id 65535 65535))))
    ∷ ("wake 65536/0", unreadable)
    ∷ ("wake 0/65536", unreadable)
    ∷ ("signal 4294967295", calls (on_waits (wait.signal 4294967295)))
    ∷ ("signal 4294967296", unreadable)
    ∷ ("push 4294967296", unreadable)
    ∷ ("poll 18446744073709551615", calls (on_deadlines (poll_at 18446744073709551615)))
    ∷ ("poll 18446744073709551616", unreadable)
    -- the longest line, and one more byte
    ∷ (widest, calls (on_deadlines (poll_at 7)))
    ∷ (one_more, unreadable)
    -- words that are missing, too many or not one space apart
    ∷ ("", unreadable)
    ∷ ("start x", unreadable)
    ∷ ("admit", unreadable)
    ∷ ("switch 0 yield now", unreadable)
    ∷ ("admit  0", unreadable)
    ∷ (" start", unreadable)
    ∷ ("start ", unreadable)
    ∷ ("admit\t0", unreadable)
    ∷ ("start\r", unreadable)
    -- words and fields that are none
    ∷ ("Start", unreadable)
    ∷ ("star", unreadable)
    ∷ ("start2", unreadable)
    ∷ ("switch 0 Yield", unreadable)
    ∷ ("mark 3/0 maybe", unreadable)
    ∷ ("admit -1", unreadable)
    ∷ ("admit ", unreadable)
    ∷ ("wake 3", unreadable)
    ∷ ("wake 3/", unreadable)
    ∷ ("wake /0", unreadable)
    ∷ ("wake 3/0/0", unreadable)
    ∷ []

pub every_row : map (λ r. read_line (bytes r.0)) rows ≡ map (λ r. r.1) rows
unfolding read_line read_words one_word two_words three_words kind_word mark_word with_one with_two pick read_id number value same split onto
every_row = refl

pub longest : (length (bytes widest) ≡ LONGEST) × (length (bytes one_more) ≡ LONGEST + 1)
longest = (refl, refl)
