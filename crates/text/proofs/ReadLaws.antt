-- Laws on texts that are read, in the form that the readers' code meets.
use Rattle.std.proofs.Common.{Option, Some, None, ◌≡◌, refl, sym, ap, ◌∙◌, Bool, true, false, cond, ◌&&◌, List, [], ◌∷◌, ⊎_elim, ℕ, suc, ◌+◌, ◌*◌, ◌-◌, ◌≤◌, ◌<◌, zero-le, suc-le-suc, le_of_suc-le-suc, not-suc-le-zero, add-one, arith, eqb-true, le-leb, leb-true, eqb, leb, ltb, length, take, drop, get_or, drop_of_length-le, drop-cons, take_all}
use borrow.Author.Tests.{lt-leb}
use Rattle.std.specs.Cmp.Lexicographic.{pointwise}
use Rattle.std.specs.Option.{unwrap_or}
use Rattle.std.specs.List.{position, position_or_len}
use Rattle.std.proofs.lemmas.Bool.{ltb-false}
use Rattle.std.proofs.lemmas.List.Recursion.{is_position_or_len}
use Rattle.lists.proofs.Basics.{lt_or_ge, not_both}
use Rattle.text.specs.Text.{SPACE, SLASH, FEED, bytes, same, split, onto, trim, lines, up_to, is_digit, value, at_most, number}

-- ROWS

literal : bytes "admit" ≡ 97 ∷ 100 ∷ 109 ∷ 105 ∷ 116 ∷ []
literal = refl

-- two spaces have an empty word between them, and a space at the end has one after it
two_spaces : split SPACE (bytes "a  bc ") ≡ bytes "a" ∷ [] ∷ bytes "bc" ∷ [] ∷ []
unfolding split onto
two_spaces = refl

id-parts : split SLASH (bytes "3/2") ≡ bytes "3" ∷ bytes "2" ∷ []
unfolding split onto
id-parts = refl

case_counts : same (bytes "pop") (bytes "Pop") ≡ false
unfolding same
case_counts = refl

leading_zeros : number 65535 (bytes "00065535") ≡ Some 65535
unfolding number value
leading_zeros = refl

one_too_large : number 65535 (bytes "65536") ≡ None
unfolding number value
one_too_large = refl

largest_of_all : number 18446744073709551615 (bytes "18446744073709551615") ≡ Some 18446744073709551615
unfolding number value
largest_of_all = refl

beyond_all : number 18446744073709551615 (bytes "18446744073709551616") ≡ None
unfolding number value
beyond_all = refl

no_digits : number 65535 [] ≡ None
unfolding number
no_digits = refl

no_sign : number 65535 (bytes "+1") ≡ None
unfolding number value
no_sign = refl

-- the byte after 9
no_colon : number 65535 (bytes "1:") ≡ None
unfolding number value
no_colon = refl

no_line : lines (bytes "") ≡ []
unfolding lines trim split onto
no_line = refl

empty-line : lines (bytes "\n") ≡ [] ∷ []
unfolding lines trim split onto
empty-line = refl

ended-line : lines (bytes "a\n") ≡ bytes "a" ∷ []
unfolding lines trim split onto
ended-line = refl

open_line : lines (bytes "a") ≡ bytes "a" ∷ []
unfolding lines trim split onto
open_line = refl

line_between : lines (bytes "a\n\nbc") ≡ bytes "a" ∷ [] ∷ bytes "bc" ∷ []
unfolding lines trim split onto
line_between = refl

-- THE SAME BYTES

pub same_is : (a b : List ℕ) → same a b ≡ true → a ≡ b
unfolding same
same_is [] [] e = refl
same_is [] (y ∷ b) e = absurd (not_both e refl)
same_is (x ∷ a) [] e = absurd (not_both e refl)
same_is (x ∷ a) (y ∷ b) e = go (eqb x y) refl e (same_is a b)
  where
    go : (t : Bool) → eqb x y ≡ t → cond t (same a b) false ≡ true → (same a b ≡ true → a ≡ b) → ◌≡◌ {A = List ℕ} (x ∷ a) (y ∷ b)
    go true f g r = rw (eqb-true x y f, r g)
    go false f g r = absurd (not_both g refl)

-- what `==` says of two slices
pub pointwise_same : (a b : List ℕ) → pointwise eqb a b ≡ same a b
unfolding same
pointwise_same [] [] = refl
pointwise_same [] (y ∷ b) = refl
pointwise_same (x ∷ a) [] = refl
pointwise_same (x ∷ a) (y ∷ b) = go (eqb x y) (pointwise_same a b)
  where
    go : (t : Bool) → pointwise eqb a b ≡ same a b → (t && pointwise eqb a b) ≡ cond t (same a b) false
    go true r = r
    go false r = refl

-- PARTS

pub up_to-most : (s : ℕ) (l : List ℕ) → up_to s l ≤ length l
unfolding up_to
up_to-most s [] = zero-le
up_to-most s (x ∷ l) = go (eqb x s) (up_to-most s l)
  where
    go : (t : Bool) → up_to s l ≤ length l → cond t 0 (suc (up_to s l)) ≤ suc (length l)
    go true h = zero-le
    go false h = suc-le-suc h

up_to_place : (s : ℕ) (l : List ℕ) → up_to s l ≡ position_or_len (λ x. eqb x s) l
unfolding up_to
up_to_place s l = is_position_or_len (up_to s) (λ x. eqb x s) refl (λ x xs. ap (cond (eqb x s) 0) (omega arith)) l

-- a search for the separator like any other
pub up_to_position : (s : ℕ) (l : List ℕ) → up_to s l ≡ unwrap_or (position (λ x. eqb x s) l) (length l)
up_to_position s l = found (ltb (position_or_len (λ x. eqb x s) l) (length l)) refl
  where
    found : (t : Bool) → ltb (position_or_len (λ x. eqb x s) l) (length l) ≡ t
        → up_to s l ≡ unwrap_or (cond t (Some (position_or_len (λ x. eqb x s) l)) None) (length l)
    found true e = up_to_place s l
    found false e = omega (arith, up_to_place s l, up_to-most s l, ltb-false _ _ e)

split_last : (s : ℕ) (l : List ℕ) → length l ≤ up_to s l → split s l ≡ l ∷ []
unfolding split up_to onto
split_last s [] h = refl
split_last s (x ∷ l) h = go (eqb x s) (split_last s l) h
  where
    go : (t : Bool) → (length l ≤ up_to s l → split s l ≡ l ∷ []) → suc (length l) ≤ cond t 0 (suc (up_to s l)) → cond t ([] ∷ split s l) (onto x (split s l)) ≡ (x ∷ l) ∷ []
    go true r h = absurd (not-suc-le-zero h)
    go false r h = rw (r (le_of_suc-le-suc h))

split-more : (s : ℕ) (l : List ℕ) → up_to s l < length l → split s l ≡ take (up_to s l) l ∷ split s (drop (suc (up_to s l)) l)
unfolding split up_to onto
split-more s [] h = absurd (not-suc-le-zero h)
split-more s (x ∷ l) h = go (eqb x s) (split-more s l) h
  where
    go : (t : Bool)
        → (up_to s l < length l → split s l ≡ take (up_to s l) l ∷ split s (drop (suc (up_to s l)) l))
        → cond t 0 (suc (up_to s l)) < suc (length l)
        → cond t ([] ∷ split s l) (onto x (split s l)) ≡ take (cond t 0 (suc (up_to s l))) (x ∷ l) ∷ split s (drop (cond t 0 (suc (up_to s l))) l)
    go true r h = refl
    go false r h = rw (r (le_of_suc-le-suc h))

-- there is always a part
pub split-some : (s : ℕ) (l : List ℕ) → 0 < length (split s l)
unfolding split onto
split-some s [] = suc-le-suc zero-le
split-some s (x ∷ l) = go (eqb x s) (split s l)
  where
    go : (t : Bool) (ps : List (List ℕ)) → 0 < length (cond t ([] ∷ ps) (onto x ps))
    go true ps = suc-le-suc zero-le
    go false [] = suc-le-suc zero-le
    go false (p ∷ ps) = suc-le-suc zero-le

-- a text whose first separator stands at a, or none where a is its length
module _ (s a : ℕ) (l : List ℕ) (e : a ≡ up_to s l) where
  pub split_one : length l ≤ a → split s l ≡ l ∷ []
  split_one h = split_last s l (omega arith)

  -- w stands before the separator and r after it
  pub split-cons : (w r : List ℕ) → a < length l → w ≡ take a l → r ≡ drop (a + 1) l → split s l ≡ w ∷ split s r
  split-cons w r h f g = split-more s l (omega arith) ∙ sym (rw (f, g, add-one, e))

-- LINES

trim-cons : (a : List ℕ) (ps : List (List ℕ)) → 0 < length ps → trim (a ∷ ps) ≡ a ∷ trim ps
unfolding trim
trim-cons a [] h = absurd (not-suc-le-zero h)
trim-cons [] (p ∷ ps) h = refl
trim-cons (x ∷ a) (p ∷ ps) h = refl

trim_last : (l : List ℕ) → 0 < length l → trim (l ∷ []) ≡ l ∷ []
unfolding trim
trim_last [] h = absurd (not-suc-le-zero h)
trim_last (x ∷ l) h = refl

pub lines_none : lines [] ≡ []
unfolding lines trim split
lines_none = refl

-- a text that is not empty has a first line w, of a bytes, and the lines of what stands after its line feed
pub lines_cons : (l w r : List ℕ) (a : ℕ) → 0 < length l → a ≡ up_to FEED l → w ≡ take a l → r ≡ drop (a + 1) l → lines l ≡ w ∷ lines r
unfolding lines
lines_cons l w r a h e f g = ⊎_elim (λ (m : a < length l). more m) (λ (m : length l ≤ a). last m) (lt_or_ge a (length l))
  where
    more : a < length l → trim (split FEED l) ≡ w ∷ trim (split FEED r)
    more m = rw (split-cons FEED a l e w r m f g) (trim-cons w (split FEED r) (split-some FEED r))

    last : length l ≤ a → trim (split FEED l) ≡ w ∷ trim (split FEED r)
    last m =
        let past : length l ≤ a + 1 = omega arith in
        let all : l ≡ w = sym (f ∙ take_all a l m) in
        let left : [] ≡ r = sym (g ∙ drop_of_length-le l past) in
        ap trim (split_one FEED a l e m) ∙ trim_last l h ∙ rw (all, sym lines_none, left)

-- NUMBERS

pub number-none : (max : ℕ) (w : List ℕ) → length w ≡ 0 → None ≡ number max w
unfolding number
number-none max [] h = refl
number-none max (d ∷ l) h = absurd (omega arith)

pub number-start : (max : ℕ) (w : List ℕ) → 0 < length w → number max w ≡ at_most max (value 0 w)
unfolding number
number-start max [] h = absurd (not-suc-le-zero h)
number-start max (d ∷ l) h = refl

-- digits never make a number smaller, so that a reader may stop at the first that makes it too large
value_grows : (max v : ℕ) (l : List ℕ) → max < v → at_most max (value v l) ≡ None
unfolding value
value_grows max v [] h = rw (lt-leb v max h)
value_grows max v (d ∷ l) h = go (is_digit d) (value_grows max (v * 10 + (d - 48)) l (omega arith))
  where
    go : (t : Bool) → at_most max (value (v * 10 + (d - 48)) l) ≡ None → at_most max (cond t (value (v * 10 + (d - 48)) l) None) ≡ None
    go true r = r
    go false r = refl

-- a reader that has passed i bytes worth v
module _ (max v i : ℕ) (w : List ℕ) (inv : number max w ≡ at_most max (value v (drop i w))) where
  pub number-done : length w ≤ i → v ≤ max → Some v ≡ number max w
  unfolding value
  number-done h m = rw (inv, drop_of_length-le w h, le-leb v max m)

  module _ (h : i < length w) where
    pub number_stop : is_digit (get_or w i 0) ≡ false → None ≡ number max w
    unfolding value
    number_stop e = rw (inv, drop-cons w i 0 h, e)

    module _ (e : is_digit (get_or w i 0) ≡ true) where
      pub number_more : (x : ℕ) → x ≡ get_or w i 0 - 48 → number max w ≡ at_most max (value (v * 10 + x) (drop (i + 1) w))
      unfolding value
      number_more x f = rw (inv, add-one, drop-cons w i 0 h, e, f)

      pub number_big : (x : ℕ) → x ≡ get_or w i 0 - 48 → max < v * 10 + x → None ≡ number max w
      number_big x f big = sym (number_more x f ∙ value_grows max _ _ big)

pub number_fits : (max : ℕ) (w : List ℕ) (v : ℕ) → number max w ≡ Some v → v ≤ max
unfolding number
number_fits max [] v e = let z : ◌≡◌ {A = ℕ} 0 1 = cc in omega arith
number_fits max (d ∷ l) v e = of (value 0 (d ∷ l)) e
  where
    pick : (x : ℕ) (t : Bool) → leb x max ≡ t → cond t (Some x) None ≡ Some v → v ≤ max
    pick x true m e = let z : x ≡ v = cc in omega (arith, leb-true x max m)
    pick x false m e = let z : ◌≡◌ {A = ℕ} 0 1 = cc in omega arith

    of : (o : Option ℕ) → at_most max o ≡ Some v → v ≤ max
    of None e = let z : ◌≡◌ {A = ℕ} 0 1 = cc in omega arith
    of (Some x) e = pick x (leb x max) refl e
