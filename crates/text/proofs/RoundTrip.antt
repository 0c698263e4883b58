-- What is printed reads back as what it was.
use Rattle.std.proofs.Common.{Some, None, ◌≡◌, refl, sym, ap, ◌∙◌, Bool, true, false, cond, ◌&&◌, List, [], ◌∷◌, ◌++◌, append-nil, ℕ, zero, suc, ◌+◌, ◌*◌, ◌-◌, ◌/◌, ◌%◌, ◌^◌, ◌≤◌, ◌<◌, pow-suc, arith, leb, ltb, length, length-append, le-leb, leb-true, ltb-true, eq-eqb, ne_eqb}
use lib.Seq.{append_snoc}
use Rattle.text.specs.Text.{is_digit, value, number, split, onto}
use Rattle.text.specs.Print.{digits, decimal}
use Rattle.text.proofs.ReadLaws.{number-start}

-- NUMBERS

-- digits after others go on from what those are worth
value_on : (v u : ℕ) (l r : List ℕ) → value v l ≡ Some u → value v (l ++ r) ≡ value u r
unfolding value
value_on v u [] r e = let z : v ≡ u = cc in rw z
value_on v u (d ∷ l) r e = go (is_digit d) (value_on (v * 10 + (d - 48)) u l r) e
  where
    go : (t : Bool) → (value (v * 10 + (d - 48)) l ≡ Some u → value (v * 10 + (d - 48)) (l ++ r) ≡ value u r)
        → cond t (value (v * 10 + (d - 48)) l) None ≡ Some u → cond t (value (v * 10 + (d - 48)) (l ++ r)) None ≡ value u r
    go true k e = k e
    go false k e = let z : ◌≡◌ {A = ℕ} 0 1 = cc in absurd (omega arith)

one_digit : (v d n : ℕ) → d < 10 → v * 10 + d ≡ n → value v ((48 + d) ∷ []) ≡ Some n
unfolding value
one_digit v d n h k =
    let e : 48 + d - 48 ≡ d = omega arith in rw (le-leb 48 (48 + d) (omega arith), le-leb (48 + d) 57 (omega arith), e, k)

digits_back : (f n : ℕ) → n < 10 ^ suc f → value 0 (digits f n) ≡ Some n
unfolding digits
digits_back zero n h = one_digit 0 n n h (omega arith)
digits_back (suc f) n h = go (ltb n 10) refl (digits_back f (n / 10) (omega (arith, simp pow-suc at h)))
  where
    go : (t : Bool) → ltb n 10 ≡ t → value 0 (digits f (n / 10)) ≡ Some (n / 10)
        → value 0 (cond t ((48 + n) ∷ []) (digits f (n / 10) ++ ((48 + n % 10) ∷ []))) ≡ Some n
    go true e k = one_digit 0 n n (ltb-true n 10 e) (omega arith)
    go false e k =
        value_on 0 (n / 10) (digits f (n / 10)) _ k ∙ one_digit (n / 10) (n % 10) n (omega arith) (omega arith)

value_back : (n : ℕ) → n < 10 ^ 20 → value 0 (decimal n) ≡ Some n
unfolding decimal
value_back n w = digits_back 19 n w

not_empty : (f n : ℕ) → 0 < length (digits f n)
unfolding digits
not_empty zero n = omega arith
not_empty (suc f) n = go (ltb n 10)
  where
    go : (t : Bool) → 0 < length (cond t ((48 + n) ∷ []) (digits f (n / 10) ++ ((48 + n % 10) ∷ [])))
    go true = omega arith
    go false = simp length-append (omega arith)

pub number_back : (max n : ℕ) → n < 10 ^ 20 → n ≤ max → number max (decimal n) ≡ Some n
unfolding decimal
number_back max n w h = number-start max (decimal n) (not_empty 19 n) ∙ rw (digits_back 19 n w, le-leb n max h)

-- NUMBERS BETWEEN SEPARATORS

first-digit : (v u d : ℕ) (l : List ℕ) → value v (d ∷ l) ≡ Some u → (48 ≤ d) × (value (v * 10 + (d - 48)) l ≡ Some u)
unfolding value
first-digit v u d l e = go (leb 48 d) (leb d 57) refl e
  where
    go : (a b : Bool) → leb 48 d ≡ a → cond (a && b) (value (v * 10 + (d - 48)) l) None ≡ Some u → (48 ≤ d) × (value (v * 10 + (d - 48)) l ≡ Some u)
    go true true m e = (leb-true 48 d m, e)
    go true false m e = let z : ◌≡◌ {A = ℕ} 0 1 = cc in absurd (omega arith)
    go false b m e = let z : ◌≡◌ {A = ℕ} 0 1 = cc in absurd (omega arith)

-- a separator that is no digit falls into no number
uncut : (s v u : ℕ) (l r : List ℕ) (ps : List (List ℕ)) → s < 48 → value v l ≡ Some u → split s r ≡ [] ∷ ps → split s (l ++ r) ≡ l ∷ ps
unfolding split onto
uncut s v u [] r ps h e k = k
uncut s v u (d ∷ l) r ps h e k =
    let f = first-digit v u d l e in
    rw (ne_eqb d s (λ z. omega (arith, f.0, z)), uncut s (v * 10 + (d - 48)) u l r ps h f.1 k)

pub split_back : (s a b : ℕ) → s < 48 → a < 10 ^ 20 → b < 10 ^ 20 → split s (decimal a ++ (s ∷ []) ++ decimal b) ≡ decimal a ∷ decimal b ∷ []
unfolding split
split_back s a b h wa wb =
    let last : split s (decimal b) ≡ decimal b ∷ [] = ap (split s) (sym (append-nil (decimal b))) ∙ uncut s 0 b (decimal b) [] [] h (value_back b wb) refl in
    let cut : split s (s ∷ decimal b) ≡ [] ∷ decimal b ∷ [] = rw (eq-eqb s s refl, last) in
    ap (split s) (append_snoc (decimal a) s (decimal b)) ∙ uncut s 0 a (decimal a) (s ∷ decimal b) (decimal b ∷ []) h (value_back a wa) cut
