-- The commands, and what each field may be. A line has at most 80 bytes, its words stand one space apart, and its first word
-- says what it asks for. Everything else is unreadable: 12.
use Rattle.std.specs.Prelude.{Bool, true, false, cond, List, [], ◌∷◌, ℕ, ltb, length, Option, Some, None}
use Prim.Native.String.{String}
use Rattle.model.specs.Switch.{Kind, yield, preempt, block, exit}
use Rattle.model.specs.Calls as task
use Rattle.irqwait.specs.Calls as wait
use Rattle.parktime.specs.Calls as deadline
use Rattle.wake.specs.Calls as token
use Rattle.runs.specs.Tables.{on_tasks, on_waits, on_deadlines, on_wakes}
use Rattle.text.specs.Text.{SPACE, bytes, same, split, number}
use Rattle.words.specs.Words.{largest, read_id}
use Rattle.lines.specs.Asked.{Asked, afresh, calls, unreadable, poll_at}

-- what a table of words says of a word, or `other` where the word is not in it
unfoldable pub pick : {A : Type 0} → A → List ℕ → List (String × A) → A
pick other w [] = other
pick other w (p ∷ ps) = cond (same w (bytes p.0)) p.1 (pick other w ps)

-- a command with one field or two, where each can be read
unfoldable pub with_one : {A : Type 0} → (A → Asked) → Option A → Asked
with_one ask None = unreadable
with_one ask (Some x) = ask x

unfoldable pub with_two : {A B : Type 0} → (A → B → Asked) → Option A → Option B → Asked
with_two ask None y = unreadable
with_two ask (Some x) None = unreadable
with_two ask (Some x) (Some y) = ask x y

-- FIELDS: N has 16 bits, a CPU 8, a cookie and a token 32, a deadline and NOW 64

unfoldable pub kind_word : List ℕ → Option Kind
kind_word w = pick None w (("yield", Some yield) ∷ ("preempt", Some preempt) ∷ ("block", Some block) ∷ ("exit", Some exit) ∷ [])

unfoldable pub mark_word : List ℕ → Option Bool
mark_word w = pick None w (("yes", Some true) ∷ ("no", Some false) ∷ [])

abbrev pub cpu : List ℕ → Option ℕ
cpu w = number (largest 8) w

-- COMMANDS of one word, of two and of three

unfoldable pub one_word : List ℕ → Asked
one_word a =
    pick unreadable a (
    ("start", calls (on_tasks task.start))
    ∷ ("start1", calls (on_tasks task.start1))
    ∷ ("collect", calls (on_tasks task.collect))
    ∷ ("pop", calls (on_wakes token.pop))
    ∷ []
    )

unfoldable pub two_words : List ℕ → List ℕ → Asked
two_words a b =
    pick unreadable a (
    ("new", with_one afresh (number (largest 16) b))
    ∷ ("admit", with_one (λ c. calls (on_tasks (task.admit c))) (cpu b))
    ∷ ("steal", with_one (λ c. calls (on_tasks (task.steal c))) (cpu b))
    ∷ ("wake", with_one (λ id. calls (on_tasks (task.wake id))) (read_id b))
    ∷ ("unirq", with_one (λ id. calls (on_waits (wait.disarm id))) (read_id b))
    ∷ ("signal", with_one (λ c. calls (on_waits (wait.signal c))) (number (largest 32) b))
    ∷ ("take", with_one (λ id. calls (on_waits (wait.take id))) (read_id b))
    ∷ ("unpark", with_one (λ id. calls (on_deadlines (deadline.disarm id))) (read_id b))
    ∷ ("poll", with_one (λ now. calls (on_deadlines (poll_at now))) (number (largest 64) b))
    ∷ ("push", with_one (λ t. calls (on_wakes (token.push t))) (number (largest 32) b))
    ∷ []
    )

unfoldable pub three_words : List ℕ → List ℕ → List ℕ → Asked
three_words a b c =
    pick unreadable a (
    ("switch", with_two (λ d k. calls (on_tasks (task.switch d k))) (cpu b) (kind_word c))
    ∷ ("mark", with_two (λ id m. calls (on_tasks (task.mark id m))) (read_id b) (mark_word c))
    ∷ ("irq", with_two (λ k id. calls (on_waits (wait.arm k id))) (number (largest 32) b) (read_id c))
    ∷ ("park", with_two (λ id at. calls (on_deadlines (deadline.arm id at))) (read_id b) (number (largest 64) c))
    ∷ []
    )

unfoldable pub read_words : List (List ℕ) → Asked
read_words [] = unreadable
read_words (a ∷ []) = one_word a
read_words (a ∷ b ∷ []) = two_words a b
read_words (a ∷ b ∷ c ∷ []) = three_words a b c
read_words (a ∷ b ∷ c ∷ d ∷ ws) = unreadable

-- the most bytes of a line before its line feed
abbrev pub LONGEST : ℕ
LONGEST = 80

unfoldable pub read_line : List ℕ → Asked
read_line l = cond (ltb LONGEST (length l)) unreadable (read_words (split SPACE l))
