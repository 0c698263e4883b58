-- Laws on texts that are written.
use Rattle.std.proofs.Common.{◌≡◌, refl, sym, ap, subst, ◌∙◌, Bool, true, false, cond, List, [], ◌∷◌, ◌++◌, append_assoc, ℕ, zero, suc, ◌+◌, ◌-◌, ◌/◌, ◌%◌, ◌^◌, ◌≤◌, ◌<◌, zero-le, suc-le-suc, pow-suc, arith, ltb, length, take, drop, length-append, take_at, drop_at, drop-drop, length-take-le, rules, lt-ltb, le-ltb}
use lib.Seq.{paste-zero}
use borrow.Rule.Slice.PartMut.{put_mid}
use Rattle.std.proofs.lemmas.Slice.{overwrites}
use Rattle.text.specs.Print.{digits, decimal, two_digits, put, Wrote}

-- DIGITS

-- where n has at most one digit more than f, and than g, either allowance gives the same text
enough : (f g n : ℕ) → n < 10 ^ suc f → n < 10 ^ suc g → digits f n ≡ digits g n
unfolding digits
enough zero zero n h k = refl
enough zero (suc g) n h k = rw (lt-ltb n 10 h)
enough (suc f) zero n h k = rw (lt-ltb n 10 k)
enough (suc f) (suc g) n h k =
    go (ltb n 10) (enough f g (n / 10) (omega (arith, simp pow-suc at h)) (omega (arith, simp pow-suc at k)))
  where
    go : (t : Bool) → digits f (n / 10) ≡ digits g (n / 10)
        → cond t ((48 + n) ∷ []) (digits f (n / 10) ++ ((48 + n % 10) ∷ [])) ≡ cond t ((48 + n) ∷ []) (digits g (n / 10) ++ ((48 + n % 10) ∷ []))
    go true r = refl
    go false r = rw r

longer : (t : Bool) (x y m : ℕ) (l : List ℕ) → length l ≤ suc m → length (cond t (x ∷ []) (l ++ (y ∷ []))) ≤ suc (suc m)
longer true x y m l r = omega arith
longer false x y m l r = simp length-append (omega arith)

short : (f n : ℕ) → length (digits f n) ≤ suc f
unfolding digits
short zero n = suc-le-suc zero-le
short (suc f) n = longer (ltb n 10) (48 + n) (48 + n % 10) f (digits f (n / 10)) (short f (n / 10))

within : (f d n : ℕ) → n < 10 ^ suc d → length (digits f n) ≤ suc d
unfolding digits
within zero d n h = suc-le-suc zero-le
within (suc f) zero n h = rw (lt-ltb n 10 h) (suc-le-suc zero-le)
within (suc f) (suc d) n h =
    longer (ltb n 10) (48 + n) (48 + n % 10) d (digits f (n / 10)) (within f d (n / 10) (omega (arith, simp pow-suc at h)))

pub decimal_one : (n : ℕ) → n < 10 → decimal n ≡ (48 + n) ∷ []
unfolding decimal digits
decimal_one n h = rw (lt-ltb n 10 h)

step : (f n : ℕ) → 10 ≤ n → digits (suc f) n ≡ digits f (n / 10) ++ ((48 + n % 10) ∷ [])
unfolding digits
step f n h = rw (le-ltb n 10 h)

pub decimal-more : (n : ℕ) → n < 2 ^ 64 → 10 ≤ n → decimal n ≡ decimal (n / 10) ++ ((48 + n % 10) ∷ [])
unfolding decimal
decimal-more n w h = step 18 n h ∙ ap (λ (l : List ℕ). l ++ ((48 + n % 10) ∷ [])) (enough 18 19 (n / 10) (omega arith) (omega arith))

pub length_one : (n : ℕ) → n < 10 → length (decimal n) ≡ 1
length_one n h = ap length (decimal_one n h)

-- two digits at a time
pub decimal-two : (n : ℕ) → n < 100 → 10 ≤ n → decimal n ≡ two_digits n
decimal-two n h m =
    decimal-more n (omega arith) m ∙ ap (λ (l : List ℕ). l ++ ((48 + n % 10) ∷ [])) (decimal_one (n / 10) (omega arith))

pub decimal_hundred : (n : ℕ) → n < 2 ^ 64 → 100 ≤ n → decimal n ≡ decimal (n / 100) ++ two_digits (n % 100)
decimal_hundred n w h =
    let hundred : n / 10 / 10 ≡ n / 100 = omega arith in
    let tens : n / 10 % 10 ≡ n % 100 / 10 = omega arith in
    let ones : n % 10 ≡ n % 100 % 10 = omega arith in
    decimal-more n w (omega arith)
    ∙ ap (λ (l : List ℕ). l ++ ((48 + n % 10) ∷ [])) (decimal-more (n / 10) (omega arith) (omega arith) ∙ ap (λ k. decimal k ++ ((48 + n / 10 % 10) ∷ [])) hundred)
    ∙ append_assoc (decimal (n / 100)) ((48 + n / 10 % 10) ∷ []) ((48 + n % 10) ∷ [])
    ∙ ap (λ t. decimal (n / 100) ++ ((48 + t) ∷ (48 + n % 10) ∷ [])) tens
    ∙ ap (λ t. decimal (n / 100) ++ ((48 + n % 100 / 10) ∷ (48 + t) ∷ [])) ones

pub length_two : (n : ℕ) → n < 100 → 10 ≤ n → length (decimal n) ≡ 2
length_two n h m = ap length (decimal-two n h m)

pub length_hundred : (n : ℕ) → n < 2 ^ 64 → 100 ≤ n → length (decimal n) ≡ length (decimal (n / 100)) + 2
length_hundred n w h = ap length (decimal_hundred n w h) ∙ length-append (decimal (n / 100)) (two_digits (n % 100))

-- any number, and one below a power of ten
pub decimal-short : (n : ℕ) → length (decimal n) ≤ 20
unfolding decimal
decimal-short n = short 19 n

pub decimal-within : (d n : ℕ) → n < 10 ^ suc d → length (decimal n) ≤ suc d
unfolding decimal
decimal-within d n h = within 19 d n h

-- TEXTS IN A BUFFER

put-put : (o : List ℕ) (at : ℕ) (s t : List ℕ) → at + (length s + length t) ≤ length o → put (put o at s) (at + length s) t ≡ put o at (s ++ t)
unfolding put
put-put o at s t h =
    let P : List ℕ = take at o in
    let n : ℕ = at + length s in
    let D : List ℕ = drop n o in
    let e : length (P ++ s) ≡ n = length-append P s ∙ ap (λ (k : ℕ). k + length s) (length-take-le at o (omega arith)) in
    let k : n + length t ≡ at + length (s ++ t) = omega (arith, length-append s t) in
    ap (λ (l : List ℕ). l ++ t ++ drop (n + length t) (P ++ s ++ D)) (take_at (P ++ s) D n e)
    ∙ ap (λ (l : List ℕ). P ++ s ++ t ++ l) (sym (drop-drop (length t) n (P ++ s ++ D)) ∙ ap (drop (length t)) (drop_at (P ++ s) D n e) ∙ drop-drop (length t) n o)
    ∙ ap (λ (l : List ℕ). l ++ drop (n + length t) o) (append_assoc P s t)
    ∙ ap (λ (m : ℕ). P ++ (s ++ t) ++ drop m o) k

-- a text under another name
pub wrote_as : {o p : List ℕ} {at r : ℕ} {s t : List ℕ} → s ≡ t → Wrote o at s r p → Wrote o at t r p
wrote_as {o} {p} {at} {r} e w = subst (λ (l : List ℕ). Wrote o at l r p) e w

-- two texts, the second from where the first ends, are one
pub then : {o p q : List ℕ} {at r e : ℕ} {s t : List ℕ} → Wrote o at s r p → Wrote p r t e q → Wrote o at (s ++ t) e q
then {o} {p} {q} {at} {r} {e} {s} {t} a b =
    record {
      fits = omega arith;
      end = omega (arith, length-append s t, a.end, b.end);
      size = b.size ∙ a.size;
      all = b.all ∙ ap (λ (l : List ℕ). put l r t) a.all ∙ ap (λ (n : ℕ). put (put o at s) n t) a.end ∙ put-put o at s t (omega arith);
    }

-- likewise, where the second text is two
pub then_both : {o p q : List ℕ} {at r e : ℕ} {s : List ℕ} (t u : List ℕ) → Wrote o at s r p → Wrote p r (t ++ u) e q → Wrote o at (s ++ t ++ u) e q
then_both {o} {p} {q} {at} {r} {e} {s} t u a b = wrote_as (sym (append_assoc s t u)) (then a b)

pub wrote_none : (o : List ℕ) (at : ℕ) → at ≤ length o → Wrote o at [] at o
unfolding put
wrote_none o at h = record { end = omega arith; fits = h; size = refl; all = paste-zero o at [] }

-- a text that is copied into its place is written
pub copied : (o s : List ℕ) (at : ℕ) → at + length s ≤ length o → Wrote o at s (at + length s) (put_mid at (at + length s - at) o s)
unfolding put
copied o s at h =
    let n : at + length s - at ≡ length s = omega arith in
    record {
      end = refl;
      fits = h;
      size = search (rules, overwrites);
      all = rw (n, sym (drop-drop (length s) at o)) (sym (append_assoc (take at o) s (drop (length s) (drop at o))));
    }
