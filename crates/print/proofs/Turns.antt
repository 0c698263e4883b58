-- The loop that lists ids.
use Rattle.std.proofs.Common.{◌≡◌, refl, sym, ap, ◌∙◌, List, [], ◌∷◌, ◌++◌, append-nil, append_assoc, ℕ, ◌+◌, ◌≤◌, ◌<◌, add-one, arith, length, take, drop, get_or, length-append, take-append-drop, take-suc, take_all}
use Rattle.ids.specs.Id.{unpacked}
use Rattle.text.specs.Text.{bytes}
use Rattle.text.specs.Print.{Wrote}
use Rattle.text.proofs.PrintLaws.{then, wrote_none, wrote_as}
use Rattle.print.specs.Texts.{id_text, ids_text}

ids-append : (a b : List ℕ) → ids_text (a ++ b) ≡ ids_text a ++ ids_text b
unfolding ids_text
ids-append [] b = refl
ids-append (x ∷ a) b =
    ap (λ (t : List ℕ). bytes " " ++ id_text (unpacked x) ++ t) (ids-append a b)
    ∙ sym (append_assoc (bytes " " ++ id_text (unpacked x)) (ids_text a) (ids_text b))

ids_one : (raw : ℕ) → ids_text (raw ∷ []) ≡ bytes " " ++ id_text (unpacked raw)
unfolding ids_text
ids_one raw = append-nil (bytes " " ++ id_text (unpacked raw))

-- one id more
ids_next : (raws : List ℕ) (i raw : ℕ) → i < length raws → raw ≡ get_or raws i raw
    → ids_text (take (i + 1) raws) ≡ ids_text (take i raws) ++ (bytes " " ++ id_text (unpacked raw))
ids_next raws i raw h read =
    ap (λ (n : ℕ). ids_text (take n raws)) (add-one i)
    ∙ ap ids_text (take-suc raws i raw h)
    ∙ ids-append (take i raws) (get_or raws i raw ∷ [])
    ∙ ap (λ (t : List ℕ). ids_text (take i raws) ++ t) (ids_one (get_or raws i raw) ∙ ap (λ (x : ℕ). bytes " " ++ id_text (unpacked x)) (sym read))

-- fewer ids are no longer text
ids_fewer : (raws : List ℕ) (i : ℕ) → length (ids_text (take i raws)) ≤ length (ids_text raws)
ids_fewer raws i =
    let whole : ids_text raws ≡ ids_text (take i raws) ++ ids_text (drop i raws) =
    ap ids_text (sym (take-append-drop i raws)) ∙ ids-append (take i raws) (drop i raws) in
    omega (arith, ap length whole, length-append (ids_text (take i raws)) (ids_text (drop i raws)))

-- i of the ids are written, before e
pub record Listing (o : List ℕ) (at : ℕ) (raws p : List ℕ) (e i : ℕ) : Type 0 where
  pub fits : at + length (ids_text raws) ≤ length o
  pub wrote : Wrote o at (ids_text (take i raws)) e p

pub begin : (o : List ℕ) (at : ℕ) (raws : List ℕ) → at + length (ids_text raws) ≤ length o → Listing o at raws o at 0
unfolding ids_text
begin o at raws h = record { fits = h; wrote = wrote_none o at (omega arith) }

module _ {o : List ℕ} {at : ℕ} {raws p : List ℕ} {e i : ℕ} (l : Listing o at raws p e i) where
  module _ (raw : ℕ) (t : (i < length raws) × (raw ≡ get_or raws i raw)) where
    pub one_fits : e + 1 + length (id_text (unpacked raw)) ≤ length p
    one_fits =
        omega
        (arith, l.fits, l.wrote.end, l.wrote.size, ids_fewer raws (i + 1), ap length (ids_next raws i raw t.0 t.1), length-append (ids_text (take i raws)) (bytes " " ++ id_text (unpacked raw)))

    pub turn : (r : ℕ) (q : List ℕ) → Wrote p e (bytes " " ++ id_text (unpacked raw)) r q → Listing o at raws q r (i + 1)
    turn r q w = record { fits = l.fits; wrote = wrote_as (sym (ids_next raws i raw t.0 t.1)) (then l.wrote w) }

  pub ended : length raws ≤ i → Wrote o at (ids_text raws) e p
  ended h = wrote_as (ap ids_text (take_all i raws h)) l.wrote
