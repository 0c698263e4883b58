-- Laws on ids as text.
use Rattle.std.specs.Prelude.{None}
use mathlib.Core.Path.{◌≡◌, refl, sym}
use mathlib.Core.List.{List, [], ◌∷◌}
use Prim.Native.Nat.{ℕ, ◌+◌, ◌≤◌, ◌<◌}
use native.Mathlib.Nat.{not-suc-le-zero}
use lib.ListN.{length, take, drop}
use Rattle.text.specs.Text.{SLASH, up_to, split, number}
use Rattle.text.proofs.ReadLaws.{split_one, split-cons, split-some}
use Rattle.words.specs.Words.{largest, both, id_parts, read_id}

many : (a b : List ℕ) (ps : List (List ℕ)) → 0 < length ps → id_parts (a ∷ b ∷ ps) ≡ None
many a b [] h = absurd (not-suc-le-zero h)
many a b (p ∷ ps) h = refl

-- w's first slash stands at a
module _ (w : List ℕ) (a : ℕ) (ea : a ≡ up_to SLASH w) where
  pub id_one : length w ≤ a → None ≡ read_id w
  unfolding read_id
  id_one h = rw (split_one SLASH a w ea h)

  -- and t stands after it, with its own first slash at b
  module _ (t : List ℕ) (b : ℕ) (h : a < length w) (et : t ≡ drop (a + 1) w) (eb : b ≡ up_to SLASH t) where
    pub id_many : b < length t → None ≡ read_id w
    unfolding read_id
    id_many g =
        sym (rw (split-cons SLASH a w ea _ t h refl et, split-cons SLASH b t eb _ _ g refl refl) (many _ _ (split SLASH (drop (b + 1) t)) (split-some SLASH (drop (b + 1) t))))

    pub id-two : (s : List ℕ) → length t ≤ b → s ≡ take a w → read_id w ≡ both (number (largest 16) s) (number (largest 16) t)
    unfolding read_id
    id-two s g es = rw (split-cons SLASH a w ea s t h es et, split_one SLASH b t eb g)
