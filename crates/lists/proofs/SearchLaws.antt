-- Laws of `first_at`, in the form that a scan from the front meets.
use mathlib.Core.Path.{◌≡◌, refl, sym, ◌∙◌, ap}
use mathlib.Core.Bool.{Bool, true, false, cond, ◌||◌}
use mathlib.Core.List.{List, [], ◌∷◌, ◌++◌}
use Prim.Native.Nat.{ℕ, zero, suc, ◌+◌, ◌<◌, ◌≤◌}
use native.Mathlib.Nat.{add-zero, zero-add, add-suc, suc-add}
use native.Mathlib.Numerals.{add-one}
use native.Mathlib.Omega.{arith}
use lib.ListN.{length, get_or, take, drop, drop_of_length-le}
use lib.Seq.{drop-cons, take-suc, take_all}
use Rattle.lists.specs.Search.{first_at, count_of, any_of}

module _ {A : Type 0} (p : A → Bool) where
  pub first_hit : (x : A) (xs : List A) → p x ≡ true → first_at p (x ∷ xs) ≡ 0
  unfolding first_at
  first_hit x xs e = rw e

  pub first_pass : (x : A) (xs : List A) → p x ≡ false → first_at p (x ∷ xs) ≡ suc (first_at p xs)
  unfolding first_at
  first_pass x xs e = rw e

  pub first-nil : first_at p [] ≡ 0
  unfolding first_at
  first-nil = refl

  -- what is found passes the test
  pub first_is : (xs : List A) (d : A) → first_at p xs < length xs → p (get_or xs (first_at p xs) d) ≡ true
  first_is [] d h = absurd (omega arith)
  first_is (x ∷ xs) d h = go (p x) refl (λ l. first_is xs d l)
    where
      go : (b : Bool) → p x ≡ b → (first_at p xs < length xs → p (get_or xs (first_at p xs) d) ≡ true) → p (get_or (x ∷ xs) (first_at p (x ∷ xs)) d) ≡ true
      go true e ih = rw (first_hit x xs e) e
      go false e ih = let m = first_pass x xs e in rw m (ih (omega arith))

  -- where nothing is found, no element passes
  pub first-none : (xs : List A) (d : A) → length xs ≤ first_at p xs → (i : ℕ) → i < length xs → p (get_or xs i d) ≡ false
  first-none [] d h i l = absurd (omega arith)
  first-none (x ∷ xs) d h i l = go (p x) refl i l (λ m. first-none xs d m)
    where
      go : (b : Bool) → p x ≡ b → (i : ℕ) → i < length (x ∷ xs) → (length xs ≤ first_at p xs → (i : ℕ) → i < length xs → p (get_or xs i d) ≡ false) → p (get_or (x ∷ xs) i d) ≡ false
      go true e i l ih = absurd (omega (arith, first_hit x xs e))
      go false e zero l ih = e
      go false e (suc i) l ih = ih (omega (arith, first_pass x xs e)) i (omega arith)

  -- a scan that has passed the first i: none of them was it
  pub Passed : List A → ℕ → Type 0
  Passed xs i = (i ≤ length xs) × (first_at p xs ≡ i + first_at p (drop i xs))

  module _ (xs : List A) where
    pub passed_none : Passed xs 0
    unfolding Passed
    passed_none = (omega arith, rw zero-add)

    pub passed_more : (i : ℕ) (d : A) → Passed xs i → i < length xs → p (get_or xs i d) ≡ false → Passed xs (i + 1)
    unfolding Passed
    passed_more i d c h e =
        (omega arith, c.1 ∙ rw (drop-cons xs i d h, first_pass (get_or xs i d) (drop (suc i) xs) e, add-one, add-suc, suc-add))

    pub passed_hit : (i : ℕ) (d : A) → Passed xs i → i < length xs → p (get_or xs i d) ≡ true → i ≡ first_at p xs
    unfolding Passed
    passed_hit i d c h e = sym (c.1 ∙ rw (drop-cons xs i d h, first_hit (get_or xs i d) (drop (suc i) xs) e, add-zero))

    pub passed_all : (i : ℕ) → Passed xs i → length xs ≤ i → i ≡ first_at p xs
    unfolding Passed
    passed_all i c h = sym (c.1 ∙ rw (drop_of_length-le xs h, first-nil, add-zero))

-- COUNTING

module _ {A : Type 0} (p : A → Bool) where
  pub count-append : (xs ys : List A) → count_of p (xs ++ ys) ≡ count_of p xs + count_of p ys
  unfolding count_of
  count-append [] ys = sym (zero-add (count_of p ys))
  count-append (x ∷ xs) ys = go (p x) (count-append xs ys)
    where
      go : (b : Bool) → count_of p (xs ++ ys) ≡ count_of p xs + count_of p ys → cond b (suc (count_of p (xs ++ ys))) (count_of p (xs ++ ys)) ≡ cond b (suc (count_of p xs)) (count_of p xs) + count_of p ys
      go true h = ap suc h ∙ sym (suc-add (count_of p xs) (count_of p ys))
      go false h = h

  pub count_hit : (x : A) → p x ≡ true → count_of p (x ∷ []) ≡ 1
  unfolding count_of
  count_hit x e = rw e

  pub count_pass : (x : A) → p x ≡ false → count_of p (x ∷ []) ≡ 0
  unfolding count_of
  count_pass x e = rw e

  pub count_most : (xs : List A) → count_of p xs ≤ length xs
  unfolding count_of
  count_most [] = omega arith
  count_most (x ∷ xs) = go (p x) (count_most xs)
    where
      go : (b : Bool) → count_of p xs ≤ length xs → cond b (suc (count_of p xs)) (count_of p xs) ≤ suc (length xs)
      go true h = omega arith
      go false h = omega arith

  -- a scan that has counted among the first i
  pub record Counting (xs : List A) (i k : ℕ) : Type 0 where
    pub within : i ≤ length xs
    pub most : k ≤ i
    pub count : k ≡ count_of p (take i xs)

  module _ (xs : List A) where
    pub counting_none : Counting xs 0 0
    unfolding count_of
    counting_none = record { within = omega arith; most = omega arith; count = refl }

    module _ (i k : ℕ) (d : A) (c : Counting xs i k) (h : i < length xs) where
      pub counting_hit : p (get_or xs i d) ≡ true → Counting xs (i + 1) (k + 1)
      counting_hit e =
          record {
            within = omega arith;
            most = omega (arith, c.most);
            count = rw (add-one i, take-suc xs i d h, count-append (take i xs) (get_or xs i d ∷ []), count_hit (get_or xs i d) e, ← c.count);
          }

      pub counting_pass : p (get_or xs i d) ≡ false → Counting xs (i + 1) k
      counting_pass e =
          record {
            within = omega arith;
            most = omega (arith, c.most);
            count = rw (add-one i, take-suc xs i d h, count-append (take i xs) (get_or xs i d ∷ []), count_pass (get_or xs i d) e, ← c.count, add-zero);
          }

    pub counting_all : (i k : ℕ) → Counting xs i k → length xs ≤ i → k ≡ count_of p xs
    counting_all i k c h = c.count ∙ ap (count_of p) (take_all i xs h)

  -- ANY

  pub any_hit : (xs : List A) (i : ℕ) (d : A) → i < length xs → p (get_or xs i d) ≡ true → any_of p xs ≡ true
  unfolding any_of
  any_hit [] i d h e = absurd (omega arith)
  any_hit (x ∷ xs) zero d h e = rw e
  any_hit (x ∷ xs) (suc i) d h e = go (p x) (any_hit xs i d (omega arith) e)
    where
      go : (b : Bool) → any_of p xs ≡ true → (b || any_of p xs) ≡ true
      go true f = refl
      go false f = f

  pub any_none : (xs : List A) (d : A) → ((i : ℕ) → i < length xs → p (get_or xs i d) ≡ false) → any_of p xs ≡ false
  unfolding any_of
  any_none [] d h = refl
  any_none (x ∷ xs) d h = rw (h 0 (omega arith), any_none xs d (λ i l. h (suc i) (omega arith)))
