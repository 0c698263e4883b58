-- One slot: that its note is the one that its state asks is what a sound table says of its state, its queue and its current.
use Rattle.std.proofs.Common.{◌≡◌, ℕ, ◌<◌, ◌≤◌, Bool, true, false, ◌&&◌, eqb, ◌⊎◌, sym, refl, ◌∙◌, ⊎_elim, arith, eq-eqb, ne_eqb}
use native.Mathlib.Decide.{ℕ_discrete}
use Rattle.lists.specs.Search.{one_if}
use Rattle.model.specs.Model.{CPUS, STATES, READY, RUNNING, BLOCKED}
use Rattle.checks.specs.Parts.{asked}

pub one_most : (b : Bool) → one_if b ≤ 1
one_most true = omega arith
one_most false = omega arith

pub one_zero : (b : Bool) → one_if b ≡ 0 → b ≡ false
one_zero true e = absurd (omega arith)
one_zero false e = refl

pub asked-blocked : (s : ℕ) → s ≡ BLOCKED → asked s ≡ 0
asked-blocked s e = rw (eq-eqb s BLOCKED e)

pub asked_else : (s : ℕ) → (s ≡ BLOCKED → ⊥) → asked s ≡ s
asked_else s e = rw (ne_eqb s BLOCKED e)

ready_yes : (s h : ℕ) → s ≡ READY → one_if (eqb s READY && eqb h h) ≡ 1
ready_yes s h e = rw (eq-eqb s READY e, eq-eqb h h refl)

ready-state : (s h c : ℕ) → (s ≡ READY → ⊥) → one_if (eqb s READY && eqb h c) ≡ 0
ready-state s h c e = rw (ne_eqb s READY e)

ready-home : (s h c : ℕ) → (h ≡ c → ⊥) → one_if (eqb s READY && eqb h c) ≡ 0
ready-home s h c e =
    elim (ℕ_discrete s READY) [ yes r ↦ rw (eq-eqb s READY r, ne_eqb h c e) | no r ↦ ready-state s h c r ]

-- Of a slot with home h and note w: o says how often it stands in each queue, R that it is a current.
pub record Tallied (R : Type 0) (o : ℕ → ℕ) (h w : ℕ) : Type 0 where
  pub decided : R ⊎ (R → ⊥)
  pub runs : R → (w ≡ RUNNING) × (o h ≡ 0)
  pub rests : (R → ⊥) → w ≡ o h
  pub most : o h ≤ 1
  pub away : (c : ℕ) → c < CPUS → (h ≡ c → ⊥) → o c ≡ 0

module _ {R : Type 0} {o : ℕ → ℕ} {h w : ℕ} (s : ℕ) (g : Tallied R o h w) where
  pub running-note : w ≡ asked s → R → s ≡ RUNNING
  running-note e r =
      elim (ℕ_discrete s BLOCKED) [
        | yes b ↦ absurd (omega (arith, (g.runs r).0, asked-blocked s b))
        | no b ↦ omega (arith, (g.runs r).0, asked_else s b)
      ]

  pub note-running : w ≡ asked s → s ≡ RUNNING → R
  note-running e z =
      ⊎_elim (λ r. r) (λ r. absurd (omega (arith, g.rests r, g.most, asked_else s (λ b. omega arith)))) g.decided

  at_home : w ≡ asked s → o h ≡ one_if (eqb s READY && eqb h h)
  at_home e =
      elim (ℕ_discrete s READY) [
        | yes y ↦ omega (arith, g.rests (λ r. omega (arith, running-note e r)), asked_else s (λ b. omega arith), ready_yes s h y)
        | no y ↦
            ⊎_elim (λ r. omega (arith, (g.runs r).1, ready-state s h h y))
            (λ r.
            elim (ℕ_discrete s BLOCKED) [
              | yes b ↦ omega (arith, g.rests r, asked-blocked s b, ready-state s h h y)
              | no b ↦ omega (arith, g.rests r, g.most, asked_else s b, ready-state s h h y)
            ])
            g.decided
      ]

  pub note-queued : w ≡ asked s → (c : ℕ) → c < CPUS → o c ≡ one_if (eqb s READY && eqb h c)
  note-queued e c hc =
      elim (ℕ_discrete h c) [ yes y ↦ rw (← y) (at_home e) | no y ↦ g.away c hc y ∙ sym (ready-home s h c y) ]

  -- and the other way
  pub note-asked : s < STATES → o h ≡ one_if (eqb s READY && eqb h h) → (R → s ≡ RUNNING) → (s ≡ RUNNING → R) → w ≡ asked s
  note-asked hs q to from =
      ⊎_elim (λ r. let z = to r in omega (arith, (g.runs r).0, asked_else s (λ b. omega arith)))
      (λ r.
      elim (ℕ_discrete s READY) [
        | yes y ↦ omega (arith, g.rests r, q, ready_yes s h y, asked_else s (λ b. omega arith))
        | no y ↦
            elim (ℕ_discrete s BLOCKED) [
              | yes b ↦ omega (arith, g.rests r, q, ready-state s h h y, asked-blocked s b)
              | no b ↦ let z : s ≡ RUNNING → ⊥ = λ z. r (from z) in omega (arith, g.rests r, q, ready-state s h h y, asked_else s b)
            ]
      ])
      g.decided
