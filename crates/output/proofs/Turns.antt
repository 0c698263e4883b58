-- What a loop over the lines of a script keeps, and what one line does to it.
use mathlib.Core.Path.{◌≡◌, refl, sym, ◌∙◌, ap}
use mathlib.Core.Logic.{⊎_elim}
use mathlib.Core.List.{List, ◌++◌, append_assoc}
use Prim.Native.Nat.{ℕ, ◌+◌, ◌-◌, ◌≤◌, ◌<◌}
use native.Mathlib.Omega.{arith}
use lib.ListN.{length, take, drop, length-append}
use lib.Seq.{take_at, length-take-le}
use Rattle.lists.proofs.Basics.{lt_or_ge}
use Rattle.runs.specs.Outcomes.{Memory, AllSound, view}
use Rattle.text.specs.Text.{lines}
use Rattle.text.specs.Print.{put, Wrote}
use Rattle.lines.specs.Asked.{Asked}
use Rattle.print.specs.Texts.{line_text}
use Rattle.output.specs.Output.{plays, printed, run}
use Rattle.output.specs.Places.{to_write, Next, Plays, Filled}

-- from the tables t₀ at index at₀ with n₀ lines behind, with nothing of the buffer used, to the tables t at index at
pub record Loop (input : List ℕ) (t₀ : Memory) (n₀ at₀ size : ℕ) (out : List ℕ) (t : Memory) (n at used : ℕ) : Type 0 where
  pub sound : AllSound t
  pub within : at ≤ length input
  pub counted : n ≤ at
  pub room : used ≤ length out
  pub long : length out ≡ size
  pub since : at₀ ≤ at
  -- while nothing is read nothing is written
  pub idle : at ≤ at₀ → used ≡ 0
  pub told : to_write input t₀ n₀ at₀ ≡ take used out ++ to_write input t n at

pub begin : (input out : List ℕ) (t : Memory) (n at : ℕ) → AllSound t → at ≤ length input → n ≤ at → Loop input t n at (length out) out t n at 0
begin input out t n at s h c = record { sound = s; within = h; counted = c; room = omega arith; long = refl; since = omega arith; idle = λ _. refl; told = refl }

-- what stands before the index after a text
wrote_take : (o p t : List ℕ) (at r : ℕ) → Wrote o at t r p → take r p ≡ take at o ++ t
unfolding put
wrote_take o p t at r w =
    let e : length (take at o ++ t) ≡ r = length-append (take at o) t ∙ ap (λ k. k + length t) (length-take-le at o (omega arith)) ∙ sym w.end in
    ap (take r) w.all ∙ take_at (take at o ++ t) (drop (at + length t) o) r e

module _ (input : List ℕ) (t₀ : Memory) (n₀ at₀ size : ℕ) (out : List ℕ) (t : Memory) (n at used : ℕ) (l : Loop input t₀ n₀ at₀ size out t n at used) where
  -- a line that asks for `asked` is read, run and answered
  pub turn : (asked : Asked) (r : ℕ) (u : Memory) (out' : List ℕ) (used' : ℕ) → Next input at asked r → Plays t asked u (n + 1) out used used' out' → Loop input t₀ n₀ at₀ size out' u (n + 1) r used'
  unfolding run
  turn asked r u out' used' x p =
      let w = p.said in
      let said = line_text (n + 1) (plays (view t) asked).reply (plays (view t) asked).after.out in
      let one : to_write input t n at ≡ said ++ to_write input u (n + 1) r =
      ap (run (view t) n) x.first
      ∙ ap (λ a. line_text (n + 1) (plays (view t) a).reply (plays (view t) a).after.out ++ run (printed (plays (view t) a).after) (n + 1) (lines (drop r input))) (sym x.asks)
      ∙ ap (λ q. said ++ run q (n + 1) (lines (drop r input))) (sym p.after) in
      record {
        sound = p.sound;
        within = x.within;
        counted = omega (arith, l.counted, x.more);
        room = omega (arith, w.fits, w.size);
        long = w.size ∙ l.long;
        since = omega (arith, l.since, x.more);
        idle = λ e. absurd (omega (arith, l.since, x.more, e));
        told =
            l.told ∙ ap (λ y. take used out ++ y) one ∙ sym (append_assoc (take used out) said (to_write input u (n + 1) r))
            ∙ ap (λ y. y ++ to_write input u (n + 1) r) (sym (wrote_take out out' said used used' w));
      }

  -- the buffer is full
  pub full : (room : ℕ) → room ≤ size → length out - used < room → Filled input t₀ n₀ at₀ t n at used out
  full room big h =
      record {
        sound = l.sound;
        within = l.within;
        counted = l.counted;
        room = l.room;
        more = λ k. ⊎_elim (λ (m : at₀ < at). m) (λ (m : at ≤ at₀). absurd (omega (arith, l.idle m, l.long))) (lt_or_ge at₀ at);
        told = l.told;
      }

  -- all is read
  pub ended : length input ≤ at → Filled input t₀ n₀ at₀ t n at used out
  ended h = record { sound = l.sound; within = l.within; counted = l.counted; room = l.room; more = λ k. omega arith; told = l.told }
