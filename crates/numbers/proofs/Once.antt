-- Nothing is lost on the way over the boundary, and any two outcomes that an export's contract admits coincide, as those of the
-- call that it wraps do.
use Rattle.std.specs.Prelude.{Option, Some, None}
use mathlib.Core.Path.{◌≡◌, refl, sym, ◌∙◌, ap}
use mathlib.Core.Bool.{true, false}
use borrow.Author.Tests.{ne_eqb}
use Rattle.answers.specs.Reply.{Reply, refused, done, told, number, named, value, stays, switched, Refused}
use Rattle.answers.specs.Contract.{Kind, Step, Makes, MakesAt, Meets}
use Rattle.answers.proofs.Coincide.{Same, made-once, made-at-once, coincide}
use Rattle.numbers.specs.declared.Answer.{Answer}
use Rattle.numbers.specs.Numbers.{numbers_of, Crossed}
use Rattle.numbers.specs.Operands.{MeetsNamed}
use Rattle.numbers.specs.Reading.{by_kind, reply_of}

-- every reply is read back as it was, since no refusal has the number 0
pub read_back : (r : Reply) → (r ≡ refused 0 → ⊥) → reply_of (numbers_of r) ≡ r
unfolding reply_of by_kind
read_back (refused n) f = rw (ne_eqb n 0 (λ (e : n ≡ 0). f (ap refused e)))
read_back done f = refl
read_back (told true) f = refl
read_back (told false) f = refl
read_back (number n) f = refl
read_back (named None) f = refl
read_back (named (Some i)) f = refl
read_back (value None) f = refl
read_back (value (Some v)) f = refl
read_back stays f = refl
read_back (switched from to None) f = refl
read_back (switched from to (Some i)) f = refl

-- two outcomes of an export: the answers are one, the tables are equal as document 01 compares them, and on a refusal they are one
pub record SameExport (k : Kind) (u v : k.Memory) (a b : Answer) : Type 0 where
  pub answer : a ≡ b
  pub after : k.view u ≡ k.view v
  pub whole : (a.refusal ≡ 0 → ⊥) → u ≡ v

-- a reply whose number is not 0 is a refusal
refuses : (r : Reply) → ((numbers_of r).refusal ≡ 0 → ⊥) → Refused r
refuses (refused n) h = tt
refuses done h = absurd (h refl)
refuses (told b) h = absurd (h refl)
refuses (number n) h = absurd (h refl)
refuses (named i) h = absurd (h refl)
refuses (value v) h = absurd (h refl)
refuses stays h = absurd (h refl)
refuses (switched a b c) h = absurd (h refl)

module _ (a b : Answer) (k : Kind) where
  same_export : (u v : k.Memory) (p q : Reply) → a ≡ numbers_of p → b ≡ numbers_of q → Same k u v p q → SameExport k u v a b
  same_export u v p q x y s =
      record {
        answer = x ∙ ap numbers_of s.reply ∙ sym y;
        after = s.after;
        whole = λ h. s.whole (refuses p (λ e. h (ap (λ (n : Answer). n.refusal) x ∙ e)));
      }

  pub export_once : (t u v : k.Memory) (want : Step k.Plain) → Crossed a (λ got. Meets k t u got want) → Crossed b (λ got. Meets k t v got want) → SameExport k u v a b
  export_once t u v want x y =
      same_export u v x.reply y.reply x.numbers y.numbers (coincide k t u v x.reply y.reply want x.holds y.holds)

  -- one whose operand crossed as a number
  pub export_named_once : {A : Type 0} (t u v : k.Memory) (step : A → Step k.Plain) (asked : Option A) → Crossed a (λ got. MeetsNamed k t u got step asked) → Crossed b (λ got. MeetsNamed k t v got step asked) → SameExport k u v a b
  export_named_once t u v step (Some c) x y = export_once t u v (step c) x y
  export_named_once t u v step None x y =
      let e : u ≡ v = x.holds.1 ∙ sym y.holds.1 in
      same_export u v x.reply y.reply x.numbers y.numbers (record { reply = x.holds.0 ∙ sym y.holds.0; after = ap k.view e; whole = λ _. e })

  pub export_made_at_once : (t u v : k.Memory) (want : Step k.Plain) → Crossed a (λ got. MakesAt k t u got want) → Crossed b (λ got. MakesAt k t v got want) → SameExport k u v a b
  export_made_at_once t u v want x y =
      same_export u v x.reply y.reply x.numbers y.numbers (made-at-once k t u v x.reply y.reply want x.holds y.holds)

  pub export_made_once : (u v : k.Memory) (want : Step k.Plain) → Crossed a (λ got. Makes k u got want) → Crossed b (λ got. Makes k v got want) → (a ≡ b) × (k.view u ≡ k.view v)
  export_made_once u v want x y =
      let s = made-once k u v x.reply y.reply want x.holds y.holds in (x.numbers ∙ ap numbers_of s.0 ∙ sym y.numbers, s.1)
