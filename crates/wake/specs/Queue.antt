-- The wake queue in memory, and the list that it is on paper: the tokens that are held, oldest first.
use Rattle.std.specs.Prelude.{◌≡◌, ℕ, ◌+◌, ◌-◌, ◌<◌, Bool, true, ◌||◌, List, ◌==◌, slice_index}
use Rattle.answers.specs.Contract.{Kind}
use Rattle.runqueue.specs.Ring.{placed, around}
use Rattle.wake.specs.declared.WakeQueue.{WakeQueue}

pub record Queue : Type 0 where
  pub c : ℕ
  pub tokens : List ℕ
  pub drops : ℕ

-- a queue has 2, 4, 8, 16, 32 or 64 places
unfoldable pub listed : ℕ → Bool
listed c = c == 2 || c == 4 || c == 8 || c == 16 || c == 32 || c == 64

-- how many are held: from the tail round to the head
abbrev pub held : ℕ → ℕ → ℕ → ℕ
held c head tail = placed c (head + (c - tail))

unfoldable pub view : WakeQueue → Queue
view q =
    record {
      c = q.ends.c;
      tokens = around (λ i. slice_index q.tokens i) q.ends.c 0 q.ends.tail (held q.ends.c q.ends.head q.ends.tail);
      drops = q.ends.drops;
    }

-- a queue is sound where its size is listed and both indexes are below it
pub record Fit (c head tail : ℕ) : Type 0 where
  pub size : listed c ≡ true
  pub headed : head < c
  pub tailed : tail < c

abbrev pub Sound : WakeQueue → Type 0
Sound q = Fit q.ends.c q.ends.head q.ends.tail

abbrev pub wakes : Kind
wakes = record { Memory = WakeQueue; Plain = Queue; Sound = Sound; view = view }
