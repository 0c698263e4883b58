-- Answers of the code that are one reply are one answer. `Coincide` speaks of replies; so it holds of the code's answers too.
use Rattle.std.specs.Prelude.{◌≡◌, Bool, List, [], ◌∷◌, ℕ, get_or, Option, Some, None, Result, Ok, Err, option_map}
use mathlib.Core.Path.{refl, sym, ◌∙◌, ap}
use Rattle.ids.specs.declared.TaskId.{TaskId}
use Rattle.answers.specs.declared.Refusal.{Refusal}
use Rattle.answers.specs.declared.Refusal.TheVariants.{BadTable, BadSize, NotStarted, Again, BadCpu, CpuOff, ShortOut, BadTask, CookieBusy, TaskBusy, Full, BadLine, TooLong}
use Rattle.answers.specs.declared.State.{State}
use Rattle.answers.specs.declared.State.TheVariants.{Empty, Ready, Running, Blocked}
use Rattle.answers.specs.Reply.{Reply, refused, done, told, number, named, value}
use Rattle.answers.specs.Answers.{refusal_no, state_no, reply, ack_reply, told_reply, count_reply, named_reply, stated_reply, homed_reply}

-- NUMBERS AND CODES

-- by number; no refusal has the number 0
abbrev refusals : List Refusal
refusals = BadTable ∷ BadTable ∷ BadSize ∷ NotStarted ∷ Again ∷ BadCpu ∷ CpuOff ∷ ShortOut ∷ BadTask ∷ CookieBusy ∷ TaskBusy ∷ Full ∷ BadLine ∷ TooLong ∷ []

by_number : (r : Refusal) → get_or refusals (refusal_no r) BadTable ≡ r
by_number BadTable = refl
by_number BadSize = refl
by_number NotStarted = refl
by_number Again = refl
by_number BadCpu = refl
by_number CpuOff = refl
by_number ShortOut = refl
by_number BadTask = refl
by_number CookieBusy = refl
by_number TaskBusy = refl
by_number Full = refl
by_number BadLine = refl
by_number TooLong = refl

pub same-refusal : (a b : Refusal) → refusal_no a ≡ refusal_no b → a ≡ b
same-refusal a b e = sym (by_number a) ∙ ap (λ n. get_or refusals n BadTable) e ∙ by_number b

abbrev states : List State
states = Empty ∷ Ready ∷ Running ∷ Blocked ∷ []

by_code : (s : State) → get_or states (state_no s) Empty ≡ s
by_code Empty = refl
by_code Ready = refl
by_code Running = refl
by_code Blocked = refl

pub same-state : (a b : State) → state_no a ≡ state_no b → a ≡ b
same-state a b e = sym (by_code a) ∙ ap (λ n. get_or states n Empty) e ∙ by_code b

-- ANSWERS

-- whatever a call says where it does not refuse, if that tells its values apart and is no refusal
module _ {A : Type 0} (says : A → Reply) (apart : (x y : A) → says x ≡ says y → x ≡ y) (tells : (x : A) (n : ℕ) → says x ≡ refused n → ⊥) where
  pub same-answer : (a b : Result A Refusal) → reply says a ≡ reply says b → a ≡ b
  same-answer (Ok x) (Ok y) e = ap Ok (apart x y e)
  same-answer (Ok x) (Err s) e = absurd (tells x (refusal_no s) e)
  same-answer (Err r) (Ok y) e = absurd (tells y (refusal_no r) (sym e))
  same-answer (Err r) (Err s) e = ap Err (same-refusal r s (cc))

pub same-ack : (a b : Result (Unit {0}) Refusal) → ack_reply a ≡ ack_reply b → a ≡ b
same-ack a b e = same-answer (λ _. done) (λ x y z. refl) (λ x n z. cc) a b e

pub same-told : (a b : Result Bool Refusal) → told_reply a ≡ told_reply b → a ≡ b
same-told a b e = same-answer told (λ x y z. cc) (λ x n z. cc) a b e

pub same_count : (a b : Result ℕ Refusal) → count_reply a ≡ count_reply b → a ≡ b
same_count a b e = same-answer number (λ x y z. cc) (λ x n z. cc) a b e

pub same-named : (a b : Result (Option TaskId) Refusal) → named_reply a ≡ named_reply b → a ≡ b
same-named a b e = same-answer named (λ x y z. cc) (λ x n z. cc) a b e

same-state-or_none : (a b : Option State) → option_map state_no a ≡ option_map state_no b → a ≡ b
same-state-or_none None None e = refl
same-state-or_none None (Some y) e = cc
same-state-or_none (Some x) None e = cc
same-state-or_none (Some x) (Some y) e = ap Some (same-state x y (cc))

pub same-stated : (a b : Result (Option State) Refusal) → stated_reply a ≡ stated_reply b → a ≡ b
same-stated a b e = same-answer (λ s. value (option_map state_no s)) (λ x y z. same-state-or_none x y (cc)) (λ x n z. cc) a b e

pub same-homed : (a b : Result (Option ℕ) Refusal) → homed_reply a ≡ homed_reply b → a ≡ b
same-homed a b e = same-answer value (λ x y z. cc) (λ x n z. cc) a b e
