-- The loops that test every ring, every slot or every CPU: what holds below i and at i holds below i + 1.
use Rattle.std.proofs.Common.{◌≡◌, ℕ, zero, suc, ◌+◌, ◌*◌, ◌<◌, ◌≤◌, Bool, true, false, cond, not, eqb, List, [], ◌∷◌, ◌++◌, get_or, sym, refl, ap, ◌∙◌, add-one, arith, below_more, eq-eqb, ne_eqb, eqb-true}
use native.Mathlib.Decide.{ℕ_discrete}
use borrow.Author.Tests.{eqb-false, not-false}
use Rattle.lists.specs.Tells.{Tells}
use Rattle.lists.specs.Tab.{tab}
use Rattle.lists.specs.Search.{count_of, one_if}
use Rattle.lists.proofs.Basics.{tells_yes, tells_by}
use Rattle.lists.proofs.TabLaws.{tab-snoc}
use Rattle.runqueue.specs.Ring.{placed, id_at}
use Rattle.model.specs.Model.{EMPTY, READY}
use Rattle.memory.specs.View.{SPAN}
use Rattle.checks.specs.Walk.{Notes}
use Rattle.checks.specs.Parts.{noted, Free, entry_at, SlotFits, Misfits, occupied_in}
use Rattle.checks.proofs.SlotLaws.{one_most, one_zero}

-- AN ENTRY OF A QUEUE

-- by its index in the arrays of the rings
pub entry-noted : (epochs homes slots tenures : List ℕ) (n c head j at : ℕ) (want : List ℕ) {u : List ℕ} {r : Bool} → at ≡ c * SPAN + placed n (head + j) → Notes r (Free epochs homes n c (id_at slots tenures at) want) (noted READY (id_at slots tenures at) want) u → Notes r (Free epochs homes n c (entry_at slots tenures n c head j) want) (noted READY (entry_at slots tenures n c head j) want) u
entry-noted epochs homes slots tenures n c head j at want e g = rw e at g

-- THE SUMS OVER THE SLOTS

count-snoc : {A : Type 0} (p : A → Bool) (l : List A) (x : A) → count_of p (l ++ (x ∷ [])) ≡ count_of p l + one_if (p x)
unfolding count_of
count-snoc p [] x = go (p x)
  where
    go : (b : Bool) → cond b (suc zero) zero ≡ 0 + one_if b
    go true = omega arith
    go false = omega arith
count-snoc p (y ∷ l) x = go (p y) (count-snoc p l x)
  where
    go : (b : Bool) → count_of p (l ++ (x ∷ [])) ≡ count_of p l + one_if (p x) → cond b (suc (count_of p (l ++ (x ∷ [])))) (count_of p (l ++ (x ∷ []))) ≡ cond b (suc (count_of p l)) (count_of p l) + one_if (p x)
    go true e = omega arith
    go false e = omega arith

-- a count of faults is zero where there are none
zero_of : {P : Type 0} (x : ℕ) → Tells (eqb x 0) P → P → x ≡ 0
zero_of x g p = elim (ℕ_discrete x 0) [ yes e ↦ e | no e ↦ absurd (g.false_is (ne_eqb x 0 e) p) ]

-- whether there are any, as a number
none_of : (m b : ℕ) → b ≡ one_if (not (eqb m 0)) → b ≡ 0 → eqb m 0 ≡ true
none_of m b e z = not-false (eqb m 0) (one_zero (not (eqb m 0)) (sym e ∙ z))

of_none : (m b : ℕ) → b ≡ one_if (not (eqb m 0)) → m ≡ 0 → b ≡ 0
of_none m b e z = e ∙ rw (eq-eqb m 0 z)

-- of the first i slots: what is wrong with them, and how many are not Empty
pub record Summed (states homes marks want : List ℕ) (i bad used : ℕ) : Type 0 where
  pub tells : Tells (eqb bad 0) ((k : ℕ) → k < i → SlotFits (get_or states k 0) (get_or homes k 0) (get_or marks k 0) (get_or want k 0))
  pub low : bad ≤ i
  pub used_is : used ≡ occupied_in states i
  pub few : used ≤ i

module _ (states homes marks want : List ℕ) where
  pub summed_none : Summed states homes marks want 0 0 0
  unfolding count_of tab
  summed_none = record { tells = tells_yes (λ k h. absurd (omega arith)); low = omega arith; used_is = refl; few = omega arith }

  pub summed_more : {i bad used : ℕ} (m b u : ℕ) → Summed states homes marks want i bad used → Misfits (get_or states i 0) (get_or homes i 0) (get_or marks i 0) (get_or want i 0) m → b ≡ one_if (not (eqb m 0)) → u ≡ one_if (not (eqb (get_or states i 0) EMPTY)) → u ≤ 1 → Summed states homes marks want (i + 1) (bad + b) (used + u)
  summed_more {i} {bad} {used} m b u s f eb e l =
      record {
        tells =
            tells_by (eqb (bad + b) 0)
            (λ y.
            let z = eqb-true (bad + b) 0 y in
            below_more (λ k. SlotFits (get_or states k 0) (get_or homes k 0) (get_or marks k 0) (get_or want k 0)) i (s.tells.true_is (eq-eqb bad 0 (omega arith))) (f.tells.true_is (none_of m b eb (omega arith))))
            (λ y all. eqb-false (bad + b) 0 y (omega (arith, zero_of bad s.tells (λ k h. all k (omega arith)), of_none m b eb (zero_of m f.tells (all i (omega arith))))));
        low = omega (arith, rw (← eb) at (one_most (not (eqb m 0))), s.low);
        used_is =
            rw (add-one, tab-snoc i (λ i. get_or states i 0))
            (ap (λ x. x + u) s.used_is ∙ ap (λ x. occupied_in states i + x) e ∙ sym (count-snoc (λ s. not (eqb s EMPTY)) (tab i (λ i. get_or states i 0)) (get_or states i 0)));
        few = omega (arith, s.few);
      }
