-- What a `return` has to show, by the kind of its answer.
use mathlib.Core.Path.{◌≡◌, refl, sym, subst}
use mathlib.Core.Bool.{Bool, true, false, cond}
use Prim.Native.Nat.{ℕ}
use native.Mathlib.Omega.{arith}
use Rattle.answers.specs.Reply.{Reply, refused, done, Refused}
use Rattle.answers.specs.Contract.{Kind, Step, Makes, MakesAt, Does, Reads, Meets, Answers, refusing}

module _ (k : Kind) (t : k.Memory) where
  -- the test failed
  pub meets_bad : (want : Step k.Plain) → (k.Sound t → ⊥) → Meets k t t (refused 1) want
  meets_bad want f = record { bad = λ _. (f, refl); good = λ g. absurd (g refl) }

  -- the test held, and the inner call did the rest
  pub meets : (u : k.Memory) (got : Reply) (want : Step k.Plain) → k.Sound t → Does k t u got want → Meets k t u got want
  meets u got want s d = record { bad = λ e. absurd (d.fine e); good = λ _. (s, d) }

  -- a sound table, read
  pub reads : (got want : Reply) → k.Sound t → (got ≡ refused 1 → ⊥) → got ≡ want → Reads k t got want
  reads got want s f e = record { fine = f; makes = record { reply = e; after = refl; sound = s }; kept = λ _. refl }

  pub answers : (got want : Reply) → k.Sound t → (got ≡ refused 1 → ⊥) → got ≡ want → Answers k t got want
  answers got want s f e = meets t got (record { reply = want; after = k.view t }) s (reads got want s f e)

  -- a sound table, handed back with any answer but 1
  pub does_keep : (got : Reply) (want : Step k.Plain) → k.Sound t → (got ≡ refused 1 → ⊥) → got ≡ want.reply → k.view t ≡ want.after → Does k t t got want
  does_keep got want s f e a = record { fine = f; makes = record { reply = e; after = a; sound = s }; kept = λ _. refl }

  -- a changed table, with an answer that is no refusal
  pub does : (u : k.Memory) (got : Reply) (want : Step k.Plain) → (Refused got → ⊥) → got ≡ want.reply → k.view u ≡ want.after → k.Sound u → Does k t u got want
  does u got want f e a s =
      record { fine = λ z. f (subst Refused (sym z) tt); makes = record { reply = e; after = a; sound = s }; kept = λ r. absurd (f r) }

  -- a maker over a place: the size will not do, or the table is made
  pub leaves_at : (n : ℕ) (want : Step k.Plain) → refused n ≡ want.reply → MakesAt k t t (refused n) want
  leaves_at n want e = record { reply = e; made = λ f. absurd (f tt); kept = λ _. refl }

  pub makes-at : (u : k.Memory) (want : Step k.Plain) → Makes k u done want → MakesAt k t u done want
  makes-at u want m = record { reply = m.reply; made = λ _. m; kept = λ r. absurd r }

-- A MAKER'S ANSWER

-- done says that the size is listed, a refusal that it is not, and is 2
module _ {P : Type 0} (p q : P) where
  pub listed_by : (t : Bool) → done ≡ (cond t (record { reply = done; after = p }) (refusing 2 q)).reply → t ≡ true
  listed_by true e = refl
  listed_by false e = let z : ◌≡◌ {A = ℕ} 0 1 = cc in absurd (omega arith)

  pub unlisted_by : (t : Bool) (k : ℕ) → refused k ≡ (cond t (record { reply = done; after = p }) (refusing 2 q)).reply → (t ≡ false) × (k ≡ 2)
  unlisted_by true k e = let z : ◌≡◌ {A = ℕ} 0 1 = cc in absurd (omega arith)
  unlisted_by false k e = (refl, cc)
