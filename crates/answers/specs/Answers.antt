-- Which reply each answer of the code is: its number and its values on paper.
use Rattle.std.specs.Prelude.{ℕ, Bool, Option, Result, Ok, Err, option_map}
use Rattle.ids.specs.declared.TaskId.{TaskId}
use Rattle.answers.specs.declared.Refusal.{Refusal}
use Rattle.answers.specs.declared.Refusal.TheVariants.{BadTable, BadSize, NotStarted, Again, BadCpu, CpuOff, ShortOut, BadTask, CookieBusy, TaskBusy, Full, BadLine, TooLong}
use Rattle.answers.specs.declared.State.{State}
use Rattle.answers.specs.declared.State.TheVariants.{Empty, Ready, Running, Blocked}
use Rattle.answers.specs.Reply.{Reply, refused, done, told, number, named, value}

abbrev pub refusal_no : Refusal → ℕ
refusal_no BadTable = 1
refusal_no BadSize = 2
refusal_no NotStarted = 3
refusal_no Again = 4
refusal_no BadCpu = 5
refusal_no CpuOff = 6
refusal_no ShortOut = 7
refusal_no BadTask = 8
refusal_no CookieBusy = 9
refusal_no TaskBusy = 10
refusal_no Full = 11
refusal_no BadLine = 12
refusal_no TooLong = 13

-- what a call says where it does not refuse, and else the number of its refusal
abbrev pub reply : {A : Type 0} → (A → Reply) → Result A Refusal → Reply
reply says (Ok a) = says a
reply says (Err r) = refused (refusal_no r)

abbrev pub ack_reply : Result (Unit {0}) Refusal → Reply
ack_reply r = reply (λ _. done) r

abbrev pub told_reply : Result Bool Refusal → Reply
told_reply r = reply told r

abbrev pub count_reply : Result ℕ Refusal → Reply
count_reply r = reply number r

abbrev pub named_reply : Result (Option TaskId) Refusal → Reply
named_reply r = reply named r

-- the code of a state
abbrev pub state_no : State → ℕ
state_no Empty = 0
state_no Ready = 1
state_no Running = 2
state_no Blocked = 3

abbrev pub stated_reply : Result (Option State) Refusal → Reply
stated_reply r = reply (λ s. value (option_map state_no s)) r

abbrev pub homed_reply : Result (Option ℕ) Refusal → Reply
homed_reply r = reply value r
