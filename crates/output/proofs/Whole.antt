-- Whatever chunks a program writes one after the other, from fresh tables at the start of a script to its end: with the
-- header before and the end after them they are the output.
use mathlib.Core.Path.{◌≡◌, refl, sym, ◌∙◌, ap}
use mathlib.Core.List.{List, [], ◌∷◌, ◌++◌, append_assoc}
use Prim.Native.Nat.{ℕ, ◌≤◌, ◌<◌}
use lib.ListN.{length, take, drop_of_length-le}
use borrow.Author.Tests.{lt-ltb, le-ltb}
use Rattle.runs.specs.Tables.{fresh}
use Rattle.runs.specs.Outcomes.{Memory, view}
use Rattle.text.specs.Text.{lines}
use Rattle.text.proofs.ReadLaws.{lines_none}
use Rattle.output.specs.Output.{TASKS, TOKENS, INPUT, HEADER, REFUSAL, run, end_text, events_text}
use Rattle.output.specs.Places.{to_write, Filled}

-- a place between two chunks
pub record Place : Type 0 where
  pub tables : Memory
  pub number : ℕ
  pub at : ℕ

pub data Chunks (input : List ℕ) : Place → List (List ℕ) → Place → Type 0 where
  none : {p : Place} → Chunks input p [] p
  more : {p q r : Place} {used : ℕ} {o : List ℕ} {cs : List (List ℕ)} → Filled input p.tables p.number p.at q.tables q.number q.at used o → Chunks input q cs r → Chunks input p (take used o ∷ cs) r

abbrev pub joined : List (List ℕ) → List ℕ
joined [] = []
joined (c ∷ cs) = c ++ joined cs

abbrev left : List ℕ → Place → List ℕ
left input p = to_write input p.tables p.number p.at

chunks_told : (input : List ℕ) {p r : Place} {cs : List (List ℕ)} → Chunks input p cs r → left input p ≡ joined cs ++ left input r
chunks_told input none = refl
chunks_told input (more {p} {q} {r} {used} {o} {cs} f k) =
    f.told ∙ ap (λ x. take used o ++ x) (chunks_told input k) ∙ sym (append_assoc (take used o) (joined cs) (left input r))

at-end : (input : List ℕ) (r : Place) → length input ≤ r.at → left input r ≡ end_text r.number (view r.tables)
unfolding run
at-end input r h = ap (λ l. run (view r.tables) r.number (lines l)) (drop_of_length-le input h) ∙ ap (run (view r.tables) r.number) lines_none

pub whole : (input : List ℕ) (t : Memory) (r : Place) (cs : List (List ℕ)) → length input ≤ INPUT → view t ≡ fresh TASKS TOKENS → Chunks input (record { tables = t; number = 0; at = 0 }) cs r → length input ≤ r.at
    → events_text input ≡ HEADER ++ (joined cs ++ end_text r.number (view r.tables))
unfolding events_text
whole input t r cs short e k h =
    rw (le-ltb INPUT (length input) short)
    (ap (λ x. HEADER ++ x) (ap (λ p. run p 0 (lines input)) (sym e) ∙ chunks_told input k ∙ ap (λ x. joined cs ++ x) (at-end input r h)))

-- and of a script that is too long
pub too_long : (input : List ℕ) → INPUT < length input → events_text input ≡ HEADER ++ REFUSAL
unfolding events_text
too_long input h = rw (lt-ltb INPUT (length input) h)
