-- Laws on lines: how many words there are.
use Rattle.std.proofs.Common.{◌≡◌, ℕ, ◌+◌, ◌-◌, ◌<◌, ◌≤◌, List, [], ◌∷◌, length, take, drop, sym, refl, ap, ◌∙◌, not-suc-le-zero, zero-add, arith, length-drop, drop-drop, le-ltb, lt-ltb}
use Rattle.text.specs.Text.{SPACE, split, up_to}
use Rattle.text.proofs.ReadLaws.{split_one, split-cons, split-some}
use Rattle.lines.specs.Asked.{unreadable}
use Rattle.lines.specs.Lines.{LONGEST, one_word, two_words, three_words, read_words, read_line}

-- HOW MANY WORDS

pub too_long : (l : List ℕ) → LONGEST < length l → unreadable ≡ read_line l
unfolding read_line
too_long l h = rw (lt-ltb _ _ h)

many : (a b c : List ℕ) (ps : List (List ℕ)) → 0 < length ps → read_words (a ∷ b ∷ c ∷ ps) ≡ unreadable
unfolding read_words
many a b c [] h = absurd (not-suc-le-zero h)
many a b c (p ∷ ps) h = refl

-- l's first space stands at a
module _ (l : List ℕ) (a : ℕ) (short : length l ≤ LONGEST) (ea : a ≡ up_to SPACE l) where
  words_one : length l ≤ a → read_line l ≡ one_word l
  unfolding read_line read_words
  words_one h = rw (le-ltb _ _ short, split_one SPACE a l ea h)

  -- v stands before it and m after it, with its own first space at b
  module _ (v m : List ℕ) (b : ℕ) (la : a < length l) (ev : v ≡ take a l) (em : m ≡ drop (a + 1) l) (eb : b ≡ up_to SPACE m) where
    words_two : length m ≤ b → read_line l ≡ two_words v m
    unfolding read_line read_words
    words_two h = rw (le-ltb _ _ short, split-cons SPACE a l ea v m la ev em, split_one SPACE b m eb h)

    -- and once more
    module _ (w n : List ℕ) (c : ℕ) (lb : b < length m) (ew : w ≡ take b m) (en : n ≡ drop (b + 1) m) (ec : c ≡ up_to SPACE n) where
      words_three : length n ≤ c → read_line l ≡ three_words v w n
      unfolding read_line read_words
      words_three h =
          rw (le-ltb _ _ short, split-cons SPACE a l ea v m la ev em, split-cons SPACE b m eb w n lb ew en, split_one SPACE c n ec h)

      words_more : c < length n → unreadable ≡ read_line l
      unfolding read_line
      words_more h =
          sym (rw (le-ltb _ _ short, split-cons SPACE a l ea v m la ev em, split-cons SPACE b m eb w n lb ew en, split-cons SPACE c n ec _ _ h refl refl)
          (many _ _ _ (split SPACE (drop (c + 1) n)) (split-some SPACE (drop (c + 1) n))))

-- THE SAME BY INDEXES: the spaces stand at a, j and k of the line

module _ (l : List ℕ) (a : ℕ) (short : length l ≤ LONGEST) (ea : a ≡ 0 + up_to SPACE l) where
  first_is : a ≡ up_to SPACE l
  first_is = ea ∙ zero-add (up_to SPACE l)

  pub one_by : length l ≤ a → read_line l ≡ one_word l
  one_by h = words_one l a short first_is h

  module _ (j : ℕ) (la : a < length l) (ej : j ≡ a + 1 + up_to SPACE (drop (a + 1) l)) where
    pub two_by : (v m : List ℕ) → v ≡ take a l → m ≡ drop (a + 1) l → length l ≤ j → read_line l ≡ two_words v m
    two_by v m ev em h =
        words_two l a short first_is v m (up_to SPACE m) la ev em refl (omega (arith, ap length em, length-drop (a + 1) l, ej, ap (up_to SPACE) em))

    module _ (k : ℕ) (lj : j < length l) (ek : k ≡ j + 1 + up_to SPACE (drop (j + 1) l)) where
      behind : drop (j + 1) l ≡ drop (up_to SPACE (drop (a + 1) l) + 1) (drop (a + 1) l)
      behind =
          let e : j + 1 ≡ a + 1 + (up_to SPACE (drop (a + 1) l) + 1) = omega (arith, ej) in
          ap (λ t. drop t l) e ∙ sym (drop-drop (up_to SPACE (drop (a + 1) l) + 1) (a + 1) l)

      inside : up_to SPACE (drop (a + 1) l) < length (drop (a + 1) l)
      inside = omega (arith, ej, length-drop (a + 1) l)

      pub three_by : (v w n : List ℕ) → v ≡ take a l → w ≡ take (j - (a + 1)) (drop (a + 1) l) → n ≡ drop (j + 1) l → length l ≤ k → read_line l ≡ three_words v w n
      three_by v w n ev ew en h =
          let t : j - (a + 1) ≡ up_to SPACE (drop (a + 1) l) = omega (arith, ej) in
          words_three l a short first_is v (drop (a + 1) l) (up_to SPACE (drop (a + 1) l)) la ev refl refl
          w n (up_to SPACE n) inside (ew ∙ ap (λ x. take x (drop (a + 1) l)) t) (en ∙ behind) refl
          (omega (arith, ap length en, length-drop (j + 1) l, ek, ap (up_to SPACE) en))

      pub more_by : k < length l → unreadable ≡ read_line l
      more_by h =
          words_more l a short first_is (take a l) (drop (a + 1) l) (up_to SPACE (drop (a + 1) l)) la refl refl refl
          (take (up_to SPACE (drop (a + 1) l)) (drop (a + 1) l)) (drop (j + 1) l) (up_to SPACE (drop (j + 1) l)) inside refl behind refl
          (omega (arith, length-drop (j + 1) l, ek))
