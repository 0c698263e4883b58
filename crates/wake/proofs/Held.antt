-- How many tokens two indexes hold between them, and what one step of either does to that.
use Rattle.std.proofs.Common.{◌≡◌, ℕ, ◌+◌, ◌-◌, ◌<◌, ◌≤◌, Bool, true, false, ◌||◌, eqb, ◌⊎◌, refl, ◌∙◌, inl, inr, ⊎_elim, arith, eqb-true}
use Rattle.runqueue.specs.Ring.{placed}
use Rattle.runqueue.proofs.Places.{wrap}
use Rattle.wake.specs.Queue.{listed, held}

or_true : (a b : Bool) → (a || b) ≡ true → (a ≡ true) ⊎ (b ≡ true)
or_true true b e = inl refl
or_true false b e = inr e

-- a size that is listed is 2 to 64
pub listed_small : (c : ℕ) → listed c ≡ true → (2 ≤ c) × (c ≤ 64)
unfolding listed
listed_small c e =
    more (eqb c 2 || eqb c 4 || eqb c 8 || eqb c 16 || eqb c 32) 64 (omega arith)
    (more (eqb c 2 || eqb c 4 || eqb c 8 || eqb c 16) 32 (omega arith)
    (more (eqb c 2 || eqb c 4 || eqb c 8) 16 (omega arith)
    (more (eqb c 2 || eqb c 4) 8 (omega arith)
    (more (eqb c 2) 4 (omega arith) (λ f. let g = eqb-true c 2 f in omega arith))))) e
  where
    more : (a : Bool) (k : ℕ) → (2 ≤ k) × (k ≤ 64) → (a ≡ true → (2 ≤ c) × (c ≤ 64)) → (a || eqb c k) ≡ true → (2 ≤ c) × (c ≤ 64)
    more a k b f h = ⊎_elim f (λ (g : eqb c k ≡ true). let i = eqb-true c k g in omega arith) (or_true a (eqb c k) h)

module _ (c h t : ℕ) (hc : h < c) (tc : t < c) where
  -- the head is ahead of the tail, or has gone round
  pub held_is : ((t ≤ h) × (held c h t ≡ h - t)) ⊎ ((h < t) × (held c h t ≡ h + (c - t)))
  held_is =
      ⊎_elim (λ w. inr (omega arith, w.1)) (λ w. inl (omega arith, w.1 ∙ omega arith)) (wrap c (h + (c - t)) (omega arith))

  pub held_below : held c h t < c
  held_below = ⊎_elim (λ w. omega arith) (λ w. omega arith) held_is

  -- the head stands where the tail would be after all that are held
  pub head-after : placed c (t + held c h t) ≡ h
  head-after =
      let b = held_below in
      ⊎_elim
      (λ w. ⊎_elim (λ v. omega arith) (λ v. omega arith) (wrap c (t + held c h t) (omega arith)))
      (λ w. ⊎_elim (λ v. omega arith) (λ v. omega arith) (wrap c (t + held c h t) (omega arith)))
      held_is

  pub none-held : h ≡ t → held c h t ≡ 0
  none-held e = ⊎_elim (λ w. omega arith) (λ w. omega arith) held_is

  pub some-held : (h ≡ t → ⊥) → held c h t ≡ 0 → ⊥
  some-held ne e = ⊎_elim (λ w. omega arith) (λ w. omega arith) held_is

  module _ (x : ℕ) (next : x ≡ placed c (h + 1)) where
    -- the next head is the tail exactly where c - 1 are held
    pub held-full : x ≡ t → held c h t + 1 ≡ c
    held-full e =
        ⊎_elim
        (λ w. ⊎_elim (λ v. omega arith) (λ v. omega arith) (wrap c (h + 1) (omega arith)))
        (λ w. ⊎_elim (λ v. omega arith) (λ v. omega arith) (wrap c (h + 1) (omega arith)))
        held_is

    pub held-room : (x ≡ t → ⊥) → held c h t + 1 < c
    held-room ne =
        ⊎_elim
        (λ w. ⊎_elim (λ v. omega arith) (λ v. omega arith) (wrap c (h + 1) (omega arith)))
        (λ w. ⊎_elim (λ v. omega arith) (λ v. omega arith) (wrap c (h + 1) (omega arith)))
        held_is

-- one more behind the head
pub held_more : (c h t x : ℕ) → h < c → t < c → x ≡ placed c (h + 1) → x < c → (x ≡ t → ⊥) → held c x t ≡ held c h t + 1
held_more c h t x hc tc next xc ne =
    ⊎_elim
    (λ w. ⊎_elim (λ v. ⊎_elim (λ u. omega arith) (λ u. omega arith) (held_is c x t xc tc)) (λ v. ⊎_elim (λ u. omega arith) (λ u. omega arith) (held_is c x t xc tc)) (wrap c (h + 1) (omega arith)))
    (λ w. ⊎_elim (λ v. ⊎_elim (λ u. omega arith) (λ u. omega arith) (held_is c x t xc tc)) (λ v. ⊎_elim (λ u. omega arith) (λ u. omega arith) (held_is c x t xc tc)) (wrap c (h + 1) (omega arith)))
    (held_is c h t hc tc)

-- one fewer before the tail
pub held_less : (c h t x : ℕ) → h < c → t < c → x ≡ placed c (t + 1) → x < c → (t ≡ h → ⊥) → held c h t ≡ held c h x + 1
held_less c h t x hc tc next xc ne =
    ⊎_elim
    (λ w. ⊎_elim (λ v. ⊎_elim (λ u. omega arith) (λ u. omega arith) (held_is c h x hc xc)) (λ v. ⊎_elim (λ u. omega arith) (λ u. omega arith) (held_is c h x hc xc)) (wrap c (t + 1) (omega arith)))
    (λ w. ⊎_elim (λ v. ⊎_elim (λ u. omega arith) (λ u. omega arith) (held_is c h x hc xc)) (λ v. ⊎_elim (λ u. omega arith) (λ u. omega arith) (held_is c h x hc xc)) (wrap c (t + 1) (omega arith)))
    (held_is c h t hc tc)
