-- What one call does to the place of a task that waits through it.
use Rattle.std.specs.Prelude.{Option}
use mathlib.Core.Path.{◌≡◌, refl, ◌∙◌, ap}
use mathlib.Core.Bool.{Bool, true, false}
use mathlib.Core.List.{List, [], ◌∷◌, ◌++◌}
use Prim.Native.Nat.{ℕ, suc, ◌+◌, ◌-◌, ◌*◌, ◌≤◌, ◌<◌}
use native.Mathlib.Nat.{zero-add}
use native.Mathlib.Omega.{arith}
use lib.ListN.{length, take, length-append}
use lib.Seq.{take-append-le}
use Rattle.lists.specs.Search.{first_at, any_of, one_if}
use Rattle.lists.specs.Entries.{is_there, taken}
use Rattle.lists.proofs.Basics.{not_both}
use Rattle.lists.proofs.SearchLaws.{first_pass}
use Rattle.ids.specs.declared.TaskId.{TaskId}
use Rattle.fair.specs.Fair.{Event}
use Rattle.fair.proofs.Places.{first_joined, apart, pushed_back}
use Rattle.fair.proofs.Moves.{Move, joins, turns, robs}

module _ (p : TaskId → Bool) (n : ℕ) (q r : List TaskId) (e : Event) (loot : Option TaskId) where
  pub record Placed : Type 0 where
    -- it stands in the queue
    pub stands : first_at p r < length r
    -- a turn takes one from in front of it, a steal puts it back by at most N - 3
    pub most : one_if e.turn + first_at p r ≤ first_at p q + one_if (is_there loot) * (n - 3)
    -- who is stolen stands there too, and the queue never holds all of the table
    pub room : is_there loot ≡ true → 3 ≤ n
    -- without a steal its place is exact, and who is chosen, now and from the queue then, stood ahead of it, in order
    pub exact : is_there loot ≡ false → one_if e.turn + first_at p r ≡ first_at p q
    pub order : is_there loot ≡ false → (i : ℕ) → i ≤ first_at p r → e.chosen ++ take i r ≡ take (one_if e.turn + i) q

  any_one : (x : TaskId) → any_of p (x ∷ []) ≡ false → p x ≡ false
  unfolding any_of
  any_one x f = go (p x) refl
    where
      go : (b : Bool) → p x ≡ b → p x ≡ false
      go true h = absurd (not_both (rw h) f)
      go false h = h

  pub placed : Move q r e loot → first_at p q < length q → length q < n → taken p loot ≡ false → any_of p e.chosen ≡ false → Placed
  placed (joins j) st lt nt nc =
      let k : first_at p r ≡ first_at p q = ap (first_at p) j.is ∙ first_joined p q j.back st in
      let l : length r ≡ length q + length j.back = ap length j.is ∙ length-append q j.back in
      rw (j.turn, j.none_lost, j.chosen)
      (record {
        stands = omega arith;
        most = omega arith;
        room = λ z. absurd (not_both z refl);
        exact = λ _. omega arith;
        order = λ _ i h. rw (j.is, zero-add i) (take-append-le i q j.back (omega arith));
      })
  placed (turns t) st lt nt nc =
      let pass = any_one t.head (rw t.chosen at nc) in
      let was : first_at p q ≡ suc (first_at p t.rest) = ap (first_at p) t.was ∙ first_pass p t.head t.rest pass in
      let long : length q ≡ suc (length t.rest) = ap length t.was in
      let k : first_at p r ≡ first_at p t.rest = ap (first_at p) t.is ∙ first_joined p t.rest t.back (omega arith) in
      let l : length r ≡ length t.rest + length t.back = ap length t.is ∙ length-append t.rest t.back in
      rw (t.turn, t.none_lost, t.chosen)
      (record {
        stands = omega arith;
        most = omega arith;
        room = λ z. absurd (not_both z refl);
        exact = λ _. omega arith;
        order = λ _ i h. let one : 1 + i ≡ suc i = omega arith in rw (t.is, t.was, one) (ap (λ l. t.head ∷ l) (take-append-le i t.rest t.back (omega arith)));
      })
  placed (robs o) st lt nt nc =
      let back = pushed_back p q o.place o.below (rw o.lost at nt) st in
      rw (o.turn, o.lost, o.chosen)
      (record {
        stands = rw o.is back.0;
        most = rw o.is (omega arith);
        room = λ _. omega (arith, apart p q o.place o.below (rw o.lost at nt) st);
        exact = λ z. absurd (not_both refl z);
        order = λ z. absurd (not_both refl z);
      })
