-- The bench sheet, A1 to A10: what each line of it says, as a row of one table. All begin fresh.
use Rattle.std.specs.Prelude.{◌≡◌, true, false, List, [], ◌∷◌, map, ℕ, replicate, Some, None}
use Rattle.ids.specs.declared.TaskId.{TaskId}
use Rattle.ids.specs.Id.{packed}
use Rattle.answers.specs.Reply.{Reply, refused, done, told, number, named, value, stays, switched}
use Rattle.answers.specs.Run.{replies, left}
use Rattle.model.specs.Model.{Cpu}
use Rattle.model.specs.Switch.{yield, preempt, exit}
use Rattle.model.specs.Calls.{start, start1, admit, switch, mark, steal, collect, read, home, overwrites}
use Rattle.irqwait.specs.Calls as wait
use Rattle.parktime.specs.Calls as deadline
use Rattle.wake.specs.Calls as token
use Rattle.runs.specs.Tables.{Call, on_tasks, on_waits, on_deadlines, on_wakes, fresh, step}

pub data Row : Type 0 where
  -- an id and its raw value
  packs : TaskId → ℕ → Row
  -- N, C, calls and their answers
  answers : ℕ → ℕ → List Call → List Reply → Row
  -- N, C, calls, their answers and the queues that they leave, CPU by CPU
  queues : ℕ → ℕ → List Call → List Reply → List (List TaskId) → Row

abbrev pub Holds : Row → Type 0
Holds (packs id raw) = packed id ≡ raw
Holds (answers n c ks rs) = replies step (fresh n c) ks ≡ rs
Holds (queues n c ks rs qs) = (replies step (fresh n c) ks ≡ rs) × (map (λ (k : Cpu). k.queue) (left step (fresh n c) ks).tasks.cpus ≡ qs)

-- slot / epoch
abbrev pub id : ℕ → ℕ → TaskId
id s e = record { slot = s; epoch = e }

abbrev gives : ℕ → ℕ → Reply
gives s e = named (Some (id s e))

-- N 8, start, admit four
abbrev four : List Call → List Call
four ks = on_tasks start ∷ on_tasks (admit 0) ∷ on_tasks (admit 0) ∷ on_tasks (admit 0) ∷ on_tasks (admit 0) ∷ ks

abbrev gives_four : List Reply → List Reply
gives_four rs = done ∷ gives 1 0 ∷ gives 2 0 ∷ gives 3 0 ∷ gives 4 0 ∷ rs

-- where a line of the sheet names no C, it is the script program's
unfoldable pub sheet : List Row
sheet =
    -- A1
    packs (id 3 2) 131075
    -- A2
    ∷ answers 4 32
    (on_tasks start ∷ on_tasks (admit 0) ∷ on_tasks (switch 0 yield) ∷ on_tasks (switch 0 exit) ∷ on_tasks (admit 0) ∷ on_tasks collect ∷ on_tasks (admit 0) ∷ [])
    (done ∷ gives 1 0 ∷ switched (id 0 0) (id 1 0) None ∷ switched (id 1 0) (id 0 0) None ∷ gives 2 0 ∷ gives 1 0 ∷ gives 1 1 ∷ [])
    -- A3
    ∷ queues 8 32
    (four (on_tasks (mark (id 3 0) true) ∷ on_tasks (steal 1) ∷ []))
    (gives_four (told true ∷ told true ∷ []))
    ((id 4 0 ∷ id 1 0 ∷ id 2 0 ∷ []) ∷ (id 3 0 ∷ []) ∷ [])
    -- A4
    ∷ queues 8 32
    (four (on_tasks (steal 1) ∷ []))
    (gives_four (told false ∷ []))
    ((id 1 0 ∷ id 2 0 ∷ id 3 0 ∷ id 4 0 ∷ []) ∷ [] ∷ [])
    -- A5
    ∷ answers 8 32
    (on_tasks start ∷ on_tasks start1 ∷ on_tasks (admit 0) ∷ on_tasks (mark (id 2 0) true) ∷ on_tasks (switch 1 preempt) ∷ on_tasks (read (home (id 2 0))) ∷ on_tasks (switch 1 yield) ∷ [])
    (done ∷ gives 1 0 ∷ gives 2 0 ∷ told true ∷ stays ∷ value (Some 1) ∷ switched (id 1 0) (id 2 0) None ∷ [])
    -- A6
    ∷ answers 4 32
    (on_tasks start ∷ on_tasks (admit 0) ∷ on_tasks (admit 0) ∷ on_tasks (switch 0 yield) ∷ on_tasks (switch 0 yield) ∷ on_tasks (switch 0 yield) ∷ [])
    (done ∷ gives 1 0 ∷ gives 2 0 ∷ switched (id 0 0) (id 1 0) None ∷ switched (id 1 0) (id 2 0) None ∷ switched (id 2 0) (id 0 0) None ∷ [])
    -- A7
    ∷ answers 4 32
    (on_tasks start ∷ on_tasks (admit 0) ∷ on_tasks (admit 0) ∷ on_tasks (switch 0 yield) ∷ on_tasks (switch 0 exit) ∷ on_tasks (switch 0 exit) ∷ on_tasks (read overwrites) ∷ [])
    (done ∷ gives 1 0 ∷ gives 2 0 ∷ switched (id 0 0) (id 1 0) None ∷ switched (id 1 0) (id 2 0) None ∷ switched (id 2 0) (id 0 0) (Some (id 1 0)) ∷ number 1 ∷ [])
    -- A8
    ∷ answers 57 4
    (on_wakes (token.push 7) ∷ on_wakes (token.push 8) ∷ on_wakes (token.push 9) ∷ on_wakes (token.push 10) ∷ on_wakes token.drops ∷ [])
    (told true ∷ told true ∷ told true ∷ told false ∷ number 1 ∷ [])
    -- A9
    ∷ answers 57 32
    (on_waits (wait.arm 30 (id 2 0)) ∷ on_waits (wait.arm 31 (id 3 0)) ∷ on_waits (wait.arm 31 (id 2 0)) ∷ on_waits (wait.arm 30 (id 3 0)) ∷ [])
    (done ∷ done ∷ refused 10 ∷ refused 9 ∷ [])
    -- A10
    ∷ answers 57 32
    (on_deadlines (deadline.arm (id 1 0) 100) ∷ on_deadlines (deadline.poll 99 (replicate 16 0)) ∷ on_deadlines (deadline.poll 100 (replicate 16 0)) ∷ [])
    (done ∷ number 0 ∷ number 1 ∷ [])
    ∷ []
