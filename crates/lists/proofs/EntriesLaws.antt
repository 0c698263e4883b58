-- Laws of tables of entries: when they stay distinct, and the scans that test, free and collect them.
use Rattle.std.specs.Prelude.{Option, Some, None}
use mathlib.Core.Path.{◌≡◌, refl, sym, ◌∙◌, ap}
use mathlib.Core.Bool.{Bool, true, false, cond}
use mathlib.Core.Logic.{◌⊎◌, inl, inr, ⊎_elim}
use mathlib.Core.List.{List, [], ◌∷◌, ◌++◌, map-append, append_assoc, append-nil}
use Prim.Native.Nat.{ℕ, suc, ◌+◌, ◌<◌, ◌≤◌}
use native.Mathlib.Decide.{ℕ_discrete}
use native.Mathlib.Numerals.{add-one}
use native.Mathlib.Omega.{arith}
use lib.ListN.{length, get_or, set, take, drop, replicate, length-set, length-map, get_or-map, drop_of_length-le}
use lib.Seq.{get_or-set_same, get_or-set_other, take-suc, take_all, drop-cons, set_at, get_or_at, length-take-le}
use Rattle.lists.specs.Entries.{free, taken, lowest_free, freed, taken_by, alike, Distinct}
use Rattle.lists.proofs.Basics.{lt_or_ge, not_both, get_or-all}
use Rattle.lists.proofs.SearchLaws.{first_is}

pub free-none : {A : Type 0} (e : Option A) → free e ≡ true → e ≡ None
free-none None h = refl
free-none (Some x) h = absurd (not_both refl (sym h))

-- the lowest free place is free
pub lowest-free : {A : Type 0} (es : List (Option A)) → lowest_free es < length es → get_or es (lowest_free es) None ≡ None
lowest-free es h = free-none (get_or es (lowest_free es) None) (first_is free es None h)

-- WHEN ENTRIES STAY DISTINCT

module _ {A : Type 0} (t : A → A → Bool) where
  alike-free : (e : Option A) → alike t e None ≡ true → ⊥
  alike-free None h = not_both h refl
  alike-free (Some x) h = not_both h refl

  -- where each place is free or as it was
  pub distinct_thin : (es fs : List (Option A)) → length fs ≡ length es → ((i : ℕ) → (get_or fs i None ≡ None) ⊎ (get_or fs i None ≡ get_or es i None)) → Distinct t es → Distinct t fs
  unfolding Distinct
  distinct_thin es fs len each d i j ij jl h = go (each i) (each j)
    where
      go : ((get_or fs i None ≡ None) ⊎ (get_or fs i None ≡ get_or es i None)) → ((get_or fs j None ≡ None) ⊎ (get_or fs j None ≡ get_or es j None)) → ⊥
      go (inl a) b = not_both (rw a at h) refl
      go (inr a) (inl b) = alike-free (get_or fs i None) (rw b at h)
      go (inr a) (inr b) = d i j ij (omega arith) (rw (a, b) at h)

  -- where one place is taken by an entry that is like no other
  pub distinct_put : (es : List (Option A)) (k : ℕ) (x : A) → Distinct t es
      → ((i : ℕ) → i < length es → (i ≡ k → ⊥) → (alike t (get_or es i None) (Some x) ≡ true → ⊥) × (alike t (Some x) (get_or es i None) ≡ true → ⊥))
      → Distinct t (set es k (Some x))
  unfolding Distinct
  distinct_put es k x d new i j ij jl h = go (ℕ_discrete i k) (ℕ_discrete j k)
    where
      len : j < length es
      len = omega (arith, length-set es k (Some x))

      go : Dec (i ≡ k) → Dec (j ≡ k) → ⊥
      go (yes a) (yes b) = omega arith
      go (yes a) (no b) =
          let here : get_or (set es k (Some x)) i None ≡ Some x = rw a (get_or-set_same es k (Some x) None (omega (arith, len))) in
          (new j len b).1 (rw (here, get_or-set_other es k j (Some x) None b) at h)
      go (no a) (yes b) =
          let here : get_or (set es k (Some x)) j None ≡ Some x = rw b (get_or-set_same es k (Some x) None (omega (arith, len))) in
          (new i (omega (arith, len)) a).0 (rw (get_or-set_other es k i (Some x) None a, here) at h)
      go (no a) (no b) = d i j ij len (rw (get_or-set_other es k i (Some x) None a, get_or-set_other es k j (Some x) None b) at h)

  pub distinct_fresh : (n : ℕ) → Distinct t (replicate n None)
  unfolding Distinct
  distinct_fresh n i j ij jl h =
      let e : ◌≡◌ {A = Option A} (get_or (replicate n None) i None) None = get_or-all n i None in
      not_both (rw e at h) refl

-- FREEING

module _ {A : Type 0} (p : A → Bool) where
  pub length-freed : (es : List (Option A)) → length (freed p es) ≡ length es
  unfolding freed
  length-freed es = simp length-map

  pub get_or-freed : (es : List (Option A)) (i : ℕ) → get_or (freed p es) i None ≡ cond (taken p (get_or es i None)) None (get_or es i None)
  unfolding freed
  get_or-freed es i = get_or-map (λ (e : Option A). cond (taken p e) None e) es i None

  freed_thin : (e : Option A) (b : Bool) → (cond b None e ≡ None) ⊎ (cond b None e ≡ e)
  freed_thin e true = inl refl
  freed_thin e false = inr refl

  pub distinct_freed : (t : A → A → Bool) (es : List (Option A)) → Distinct t es → Distinct t (freed p es)
  distinct_freed t es =
      distinct_thin t es (freed p es) (length-freed es)
      (λ i. rw (get_or-freed es i) (freed_thin (get_or es i None) (taken p (get_or es i None))))

  freed-append : (es fs : List (Option A)) → freed p (es ++ fs) ≡ freed p es ++ freed p fs
  unfolding freed
  freed-append es fs = map-append (λ (e : Option A). cond (taken p e) None e) es fs

  freed_hit : (e : Option A) → taken p e ≡ true → freed p (e ∷ []) ≡ None ∷ []
  unfolding freed
  freed_hit e h = rw h

  freed_pass : (e : Option A) → taken p e ≡ false → freed p (e ∷ []) ≡ e ∷ []
  unfolding freed
  freed_pass e h = rw h

  freed-nil : freed p [] ≡ []
  unfolding freed
  freed-nil = refl

  -- a scan that has freed among the first i
  pub record Freeing (es : List (Option A)) (i : ℕ) (cur : List (Option A)) : Type 0 where
    pub within : i ≤ length es
    pub entries : cur ≡ freed p (take i es) ++ drop i es

  module _ (es : List (Option A)) where
    pub freeing_start : Freeing es 0 es
    freeing_start = record { within = omega arith; entries = rw freed-nil }

    module _ (i : ℕ) (cur : List (Option A)) (s : Freeing es i cur) where
      pub freeing_all : length es ≤ i → cur ≡ freed p es
      freeing_all h = s.entries ∙ rw (take_all i es h, drop_of_length-le es h, append-nil)

      module _ (more : i < length es) where
        at_i : length (freed p (take i es)) ≡ i
        at_i = length-freed (take i es) ∙ length-take-le i es (omega arith)

        split : cur ≡ freed p (take i es) ++ get_or es i None ∷ drop (suc i) es
        split = s.entries ∙ rw (drop-cons es i None more)

        pub freeing_read : get_or cur i None ≡ get_or es i None
        freeing_read = rw split (get_or_at (freed p (take i es)) (get_or es i None) (drop (suc i) es) None i at_i)

        pub freeing_pass : taken p (get_or es i None) ≡ false → Freeing es (i + 1) cur
        freeing_pass h =
            record {
              within = omega arith;
              entries = split ∙ rw (add-one, take-suc es i None, freed-append, freed_pass (get_or es i None) h, append_assoc);
            }

        pub freeing_hit : taken p (get_or es i None) ≡ true → Freeing es (i + 1) (set cur i None)
        freeing_hit h =
            record {
              within = omega arith;
              entries = rw (split, set_at (freed p (take i es)) (get_or es i None) (drop (suc i) es) None i at_i, add-one, take-suc es i None, freed-append, freed_hit (get_or es i None) h, append_assoc);
            }

  -- COLLECTING

  pub taken-append : (es fs : List (Option A)) → taken_by p (es ++ fs) ≡ taken_by p es ++ taken_by p fs
  unfolding taken_by
  taken-append [] fs = refl
  taken-append (None ∷ es) fs = taken-append es fs
  taken-append (Some x ∷ es) fs = go (p x) (taken-append es fs)
    where
      go : (b : Bool) → taken_by p (es ++ fs) ≡ taken_by p es ++ taken_by p fs → cond b (x ∷ taken_by p (es ++ fs)) (taken_by p (es ++ fs)) ≡ cond b (x ∷ taken_by p es) (taken_by p es) ++ taken_by p fs
      go true h = ap (λ (l : List A). x ∷ l) h
      go false h = h

  pub taken_pass : (e : Option A) → taken p e ≡ false → taken_by p (e ∷ []) ≡ []
  unfolding taken_by
  taken_pass None h = refl
  taken_pass (Some x) h = rw h

  pub taken_hit : (x : A) → p x ≡ true → taken_by p (Some x ∷ []) ≡ x ∷ []
  unfolding taken_by
  taken_hit x h = rw h

  pub taken-nil : taken_by p [] ≡ []
  unfolding taken_by
  taken-nil = refl

  pub taken-length : (es : List (Option A)) → length (taken_by p es) ≤ length es
  unfolding taken_by
  taken-length [] = omega arith
  taken-length (None ∷ es) = let h = taken-length es in omega arith
  taken-length (Some x ∷ es) = go (p x) (taken-length es)
    where
      go : (b : Bool) → length (taken_by p es) ≤ length es → length (cond b (x ∷ taken_by p es) (taken_by p es)) ≤ suc (length es)
      go true h = omega arith
      go false h = omega arith

-- TESTING PAIR BY PAIR

module _ {A : Type 0} (t : A → A → Bool) (es : List (Option A)) where
  -- no entry after a, for any a before i, is like a's
  pub Cleared : ℕ → Type 0
  Cleared i = (a b : ℕ) → a < i → a < b → b < length es → alike t (get_or es a None) (get_or es b None) ≡ true → ⊥

  -- no entry between i and j is like i's
  pub Ahead : ℕ → ℕ → Type 0
  Ahead i j = (b : ℕ) → i < b → b < j → alike t (get_or es i None) (get_or es b None) ≡ true → ⊥

  pub cleared-none : Cleared 0
  unfolding Cleared
  cleared-none a b h = absurd (omega arith)

  pub ahead_none : (i : ℕ) → Ahead i (i + 1)
  unfolding Ahead
  ahead_none i b h l = absurd (omega arith)

  pub ahead_more : (i j : ℕ) → Ahead i j → alike t (get_or es i None) (get_or es j None) ≡ false → Ahead i (j + 1)
  unfolding Ahead
  ahead_more i j a h b ib bj e =
      ⊎_elim (λ (l : b < j). a b ib l e)
      (λ (g : j ≤ b).
      let same : b ≡ j = omega arith in
      not_both (rw same at e) h)
      (lt_or_ge b j)

  pub cleared_more : (i j : ℕ) → Cleared i → Ahead i j → length es ≤ j → Cleared (i + 1)
  unfolding Cleared Ahead
  cleared_more i j c w h a b ai ab bl e =
      ⊎_elim (λ (l : a < i). c a b l ab bl e)
      (λ (g : i ≤ a).
      let same : a ≡ i = omega arith in
      w b (omega arith) (omega arith) (rw same at e))
      (lt_or_ge a i)

  -- a free place is like no other
  pub cleared-free : (i : ℕ) → Cleared i → get_or es i None ≡ None → Cleared (i + 1)
  unfolding Cleared
  cleared-free i c f a b ai ab bl e =
      ⊎_elim (λ (l : a < i). c a b l ab bl e)
      (λ (g : i ≤ a).
      let same : a ≡ i = omega arith in
      not_both (rw (same, f) at e) refl)
      (lt_or_ge a i)

  pub cleared-all : (i : ℕ) → Cleared i → length es ≤ i → Distinct t es
  unfolding Cleared Distinct
  cleared-all i c h a b ab bl e = c a b (omega arith) ab bl e

  pub alike_found : (i j : ℕ) → i < j → j < length es → alike t (get_or es i None) (get_or es j None) ≡ true → Distinct t es → ⊥
  unfolding Distinct
  alike_found i j ij jl e d = d i j ij jl e
