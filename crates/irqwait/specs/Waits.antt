-- The wait table in memory and on paper: eight places, each free or with a task that waits for a cookie, and a mark or
-- none under each of 64 slots.
use Rattle.std.specs.Prelude.{◌≡◌, Bool, true, cond, List, map, ℕ, ◌<◌, length, get_or, eqb, Option, Some, None}
use Rattle.lists.specs.Flags.{FLAGS, is_set}
use Rattle.lists.specs.Tab.{tab}
use Rattle.lists.specs.Each.{Each}
use Rattle.lists.specs.Entries.{Distinct, Holds}
use Rattle.ids.specs.declared.TaskId.{TaskId}
use Rattle.ids.specs.Id.{same_id}
use Rattle.answers.specs.Contract.{Kind}
use Rattle.irqwait.specs.declared.Waiter.{Waiter}
use Rattle.irqwait.specs.declared.WaitTable.{WaitTable}

-- how many tasks can wait, and how many slots have a mark
abbrev pub WAITERS : ℕ
WAITERS = 8

abbrev pub MARKS : ℕ
MARKS = 64

pub record Wait : Type 0 where
  pub cookie : ℕ
  pub id : TaskId

pub record Waits : Type 0 where
  pub waiters : List (Option Wait)
  pub pending : List (Option TaskId)

-- what an entry in memory is on paper: one that is not live, or not set, holds nothing
abbrev pub wait_of : Waiter → Option Wait
wait_of w = cond (is_set w.live) (Some (record { cookie = w.cookie.0; id = w.task })) None

abbrev pub mark_at : List ℕ → List ℕ → List ℕ → ℕ → Option TaskId
mark_at pending slots epochs s = cond (is_set (get_or pending s 0)) (Some (record { slot = get_or slots s 0; epoch = get_or epochs s 0 })) None

abbrev pub waits_of : List Waiter → List (Option Wait)
waits_of l = map wait_of l

abbrev pub marks_of : List ℕ → List ℕ → List ℕ → List (Option TaskId)
marks_of pending slots epochs = tab MARKS (mark_at pending slots epochs)

unfoldable pub view : WaitTable → Waits
view t = record { waiters = waits_of t.waiters; pending = marks_of t.pending t.pending_slots t.pending_epochs }

abbrev pub has_cookie : ℕ → Wait → Bool
has_cookie c w = eqb w.cookie c

abbrev pub is_for : TaskId → Wait → Bool
is_for id w = same_id w.id id

abbrev pub is_mark : TaskId → TaskId → Bool
is_mark id m = same_id m id

abbrev pub same_cookie : Wait → Wait → Bool
same_cookie w v = has_cookie w.cookie v

abbrev pub same_task : Wait → Wait → Bool
same_task w v = is_for w.id v

-- the cookies of those that wait are distinct, their ids are distinct, and each id's slot is below 64 ..
pub record SoundWaiters (ws : List (Option Wait)) : Type 0 where
  pub places : length ws ≡ WAITERS
  pub cookies : Distinct same_cookie ws
  pub ids : Distinct same_task ws
  pub slots : (i : ℕ) → Holds (λ (w : Wait). w.id.slot < MARKS) (get_or ws i None)

-- .. each mark kept under its own slot
pub record SoundMarks (ms : List (Option TaskId)) : Type 0 where
  pub places : length ms ≡ MARKS
  pub own : (s : ℕ) → Holds (λ (id : TaskId). id.slot ≡ s) (get_or ms s None)

pub record SoundWaits (w : Waits) : Type 0 where
  pub waiters : SoundWaiters w.waiters
  pub marks : SoundMarks w.pending

-- every flag is known
abbrev pub LiveKnown : List Waiter → Type 0
LiveKnown ws = Each (λ (w : Waiter). w.live < FLAGS) ws

abbrev pub SetKnown : List ℕ → Type 0
SetKnown pending = (s : ℕ) → s < MARKS → get_or pending s 0 < FLAGS

pub record Sound (t : WaitTable) : Type 0 where
  pub plain : SoundWaits (view t)
  pub live : LiveKnown t.waiters
  pub set : SetKnown t.pending

-- THE SAME IN TWO PARTS, as the test tells them

pub record WaitersFit (ws : List Waiter) : Type 0 where
  pub plain : SoundWaiters (waits_of ws)
  pub live : LiveKnown ws

-- a mark is under its own slot, and its flag is known
pub record MarkFits (pending slots : List ℕ) (s : ℕ) : Type 0 where
  pub own : is_set (get_or pending s 0) ≡ true → get_or slots s 0 ≡ s
  pub set : get_or pending s 0 < FLAGS

abbrev pub MarksFit : List ℕ → List ℕ → Type 0
MarksFit pending slots = (s : ℕ) → s < MARKS → MarkFits pending slots s

abbrev pub waits : Kind
waits = record { Memory = WaitTable; Plain = Waits; Sound = Sound; view = view }
