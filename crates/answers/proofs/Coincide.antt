-- Document 01, "What the contracts have to nail": any two outcomes that a contract admits coincide. Proved once, for
-- every kind of table and every call on a table, since the contract of such a call has one of these four shapes.
use mathlib.Core.Path.{◌≡◌, refl, sym, ◌∙◌, ap}
use mathlib.Core.Bool.{Bool, true, false}
use Prim.Native.Nat.{ℕ}
use native.Mathlib.Decide.{ℕ_discrete}
use native.Mathlib.Omega.{arith}
use Rattle.answers.specs.Reply.{Reply, refused, done, told, number, named, value, stays, switched, is_refused, Refused}
use Rattle.answers.specs.Contract.{Kind, Step, Makes, MakesAt, Does, Meets}

-- whether an answer is 1
is_bad : (r : Reply) → Dec (r ≡ refused 1)
is_bad (refused n) = go (ℕ_discrete n 1)
  where
    go : Dec (n ≡ 1) → Dec (refused n ≡ refused 1)
    go (yes e) = yes (ap refused e)
    go (no h) = no (λ e. h (cc))
is_bad done = no (λ e. let z : ◌≡◌ {A = ℕ} 0 1 = cc in omega arith)
is_bad (told b) = no (λ e. let z : ◌≡◌ {A = ℕ} 0 1 = cc in omega arith)
is_bad (number n) = no (λ e. let z : ◌≡◌ {A = ℕ} 0 1 = cc in omega arith)
is_bad (named i) = no (λ e. let z : ◌≡◌ {A = ℕ} 0 1 = cc in omega arith)
is_bad (value v) = no (λ e. let z : ◌≡◌ {A = ℕ} 0 1 = cc in omega arith)
is_bad stays = no (λ e. let z : ◌≡◌ {A = ℕ} 0 1 = cc in omega arith)
is_bad (switched a b c) = no (λ e. let z : ◌≡◌ {A = ℕ} 0 1 = cc in omega arith)

-- two outcomes: the replies are one, the tables are equal as document 01 compares them, and on a refusal they are one
pub record Same (k : Kind) (u v : k.Memory) (a b : Reply) : Type 0 where
  pub reply : a ≡ b
  pub after : k.view u ≡ k.view v
  pub whole : Refused a → u ≡ v

module _ (k : Kind) where
  pub made-once : (u v : k.Memory) (a b : Reply) (want : Step k.Plain) → Makes k u a want → Makes k v b want → (a ≡ b) × (k.view u ≡ k.view v)
  made-once u v a b want m n = (m.reply ∙ sym n.reply, m.after ∙ sym n.after)

  pub made-at-once : (t u v : k.Memory) (a b : Reply) (want : Step k.Plain) → MakesAt k t u a want → MakesAt k t v b want → Same k u v a b
  made-at-once t u v a b want m n = record { reply = e; after = go (is_refused a) refl; whole = one }
    where
      e : a ≡ b
      e = m.reply ∙ sym n.reply

      one : Refused a → u ≡ v
      one r = m.kept r ∙ sym (n.kept (rw e at r))

      go : (x : Bool) → is_refused a ≡ x → k.view u ≡ k.view v
      go true h = ap k.view (one (rw h tt))
      go false h = (m.made (λ r. rw h at r)).after ∙ sym (n.made (λ r. rw (sym e, h) at r)).after

  pub done-once : (t u v : k.Memory) (a b : Reply) (want : Step k.Plain) → Does k t u a want → Does k t v b want → Same k u v a b
  done-once t u v a b want m n =
      let e : a ≡ b = m.makes.reply ∙ sym n.makes.reply in
      record {
        reply = e;
        after = m.makes.after ∙ sym n.makes.after;
        whole = λ r. m.kept r ∙ sym (n.kept (rw e at r));
      }

  -- on a sound table a call of the product does what its inner call does
  pub meets_does : (t u : k.Memory) (got : Reply) (want : Step k.Plain) → k.Sound t → Meets k t u got want → Does k t u got want
  meets_does t u got want s m = (m.good (λ e. (m.bad e).0 s)).1

  -- whatever the table, a refusal hands it back
  pub meets_kept : (t u : k.Memory) (got : Reply) (want : Step k.Plain) → Meets k t u got want → Refused got → u ≡ t
  meets_kept t u got want m r = go (is_bad got)
    where
      go : Dec (got ≡ refused 1) → u ≡ t
      go (yes x) = (m.bad x).1
      go (no x) = (m.good x).1.kept r

  pub coincide : (t u v : k.Memory) (a b : Reply) (want : Step k.Plain) → Meets k t u a want → Meets k t v b want → Same k u v a b
  coincide t u v a b want m n = go (is_bad a) (is_bad b)
    where
      go : Dec (a ≡ refused 1) → Dec (b ≡ refused 1) → Same k u v a b
      go (yes x) (yes y) =
          let e : u ≡ v = (m.bad x).1 ∙ sym (n.bad y).1 in
          record { reply = x ∙ sym y; after = ap k.view e; whole = λ _. e }
      go (yes x) (no y) = absurd ((m.bad x).0 (n.good y).0)
      go (no x) (yes y) = absurd ((n.bad y).0 (m.good x).0)
      go (no x) (no y) = done-once t u v a b want (m.good x).1 (n.good y).1
