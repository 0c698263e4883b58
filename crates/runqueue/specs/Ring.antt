-- A ring in memory, and the list that it is on paper: what is queued, from head to tail.
use Rattle.std.specs.Prelude.{List, ℕ, ◌+◌, ◌%◌, ◌≤◌, ◌<◌, get_or}
use Rattle.lists.specs.Tab.{tab}
use Rattle.ids.specs.declared.TaskId.{TaskId}
use Rattle.answers.specs.Contract.{Kind}
use Rattle.answers.specs.Sizes as sizes
use Rattle.runqueue.specs.declared.RunQueue.{RunQueue}

-- the largest table, and so the places that memory holds for a ring
abbrev pub MOST : ℕ
MOST = sizes.MOST

-- where x places from the start of a ring of n lie
unfoldable pub placed : ℕ → ℕ → ℕ
placed n x = x % n

-- what f reads at l places of a ring of n, from its place h on. The ring stands at b, where f counts from.
unfoldable pub around : {A : Type 0} → (ℕ → A) → ℕ → ℕ → ℕ → ℕ → List A
around f n b h l = tab l (λ j. f (b + placed n (h + j)))

-- the id that two arrays hold at an index
abbrev pub id_at : List ℕ → List ℕ → ℕ → TaskId
id_at slots epochs i = record { slot = get_or slots i 0; epoch = get_or epochs i 0 }

-- the queue that two arrays hold
abbrev pub queue_at : List ℕ → List ℕ → ℕ → ℕ → ℕ → ℕ → List TaskId
queue_at slots epochs n b h l = around (id_at slots epochs) n b h l

-- a ring on paper
pub record Ring : Type 0 where
  pub n : ℕ
  pub items : List TaskId

unfoldable pub view : RunQueue → Ring
view q = record { n = q.span.n; items = queue_at q.slots q.epochs q.span.n 0 q.span.head q.span.len }

-- Document 01, "A ring handed in alone": N listed, head below N, length at most N
pub record Fit (n head len : ℕ) : Type 0 where
  pub some : 1 ≤ n
  pub most : n ≤ MOST
  pub headed : head < n
  pub within : len ≤ n

abbrev pub Sound : RunQueue → Type 0
Sound q = Fit q.span.n q.span.head q.span.len

abbrev pub ring : Kind
ring = record { Memory = RunQueue; Plain = Ring; Sound = Sound; view = view }
