-- The scans over the slots of a table, turn by turn.
use mathlib.Core.Path.{◌≡◌, refl, sym, ◌∙◌, ap, subst}
use mathlib.Core.Bool.{Bool, true, false, ◌&&◌, not}
use mathlib.Core.List.{List}
use mathlib.Core.Logic.{⊎_elim}
use Prim.Native.Nat.{ℕ, zero, suc, ◌+◌, ◌-◌, ◌≤◌, ◌<◌}
use native.Mathlib.Nat.{add-zero, zero-add, add-suc}
use native.Mathlib.Numerals.{add-one}
use native.Mathlib.Omega.{arith}
use borrow.Author.Tests.{lt-ltb, le-ltb, eq-eqb, ne_eqb, ltb-true}
use lib.Dec.{eqb, ltb}
use lib.ListN.{length, get_or, take}
use lib.Seq.{get_or-take, length-take-le}
use Rattle.lists.specs.Tab.{tab}
use Rattle.lists.specs.Search.{count_of}
use Rattle.std.specs.Prelude.{◌∷◌, [], count_by, cond, fold}
use Rattle.lists.proofs.TabLaws.{length-tab, get_or-tab}
use Rattle.lists.proofs.SearchLaws.{Passed, passed_none, passed_more, passed_hit, passed_all, Counting, counting_none, counting_hit, counting_pass, counting_all, any_hit, any_none}
use Rattle.lists.specs.Flags.{is_set}
use Rattle.lists.proofs.FlagLaws.{set-off, set_on}
use Rattle.lists.proofs.Basics.{below_next, both_true, lt_or_ge}
use Rattle.ids.specs.declared.TaskId.{TaskId}
use Rattle.ids.specs.Id.{same_id, idle}
use Rattle.model.specs.Model.{EMPTY}
use Rattle.memory.specs.Parts.{known_in, idle_in, stealeable_in, vacant_in, free_in}
use Rattle.scans.specs.Slots.{LowestEmpty}

-- KNOWN

pub known_far : (epochs : List ℕ) (n : ℕ) (id : TaskId) → n ≤ id.slot → false ≡ known_in epochs n id
known_far epochs n id h = rw (le-ltb id.slot n h)

pub known_near : (epochs : List ℕ) (n : ℕ) (id : TaskId) → id.slot < n → eqb (get_or epochs id.slot 0) id.epoch ≡ known_in epochs n id
known_near epochs n id h = rw (lt-ltb id.slot n h)

-- STEALEABLE

module _ (epochs marks : List ℕ) (n : ℕ) (idles : List TaskId) (id : TaskId) where
  pub loot_unknown : known_in epochs n id ≡ false → false ≡ stealeable_in epochs marks n idles id
  loot_unknown h = rw h

  pub known_slot : known_in epochs n id ≡ true → id.slot < n
  known_slot h = ltb-true id.slot n (both_true (ltb id.slot n) (eqb (get_or epochs id.slot 0) id.epoch) h).0

  pub loot_unmarked : known_in epochs n id ≡ true → get_or marks id.slot 0 ≡ 0 → false ≡ stealeable_in epochs marks n idles id
  loot_unmarked h m = rw (h, set-off (get_or marks id.slot 0) m)

  pub loot_is : (r : Bool) → known_in epochs n id ≡ true → (get_or marks id.slot 0 ≡ 0 → ⊥) → r ≡ idle_in idles id → not r ≡ stealeable_in epochs marks n idles id
  loot_is r h m e = rw (h, set_on (get_or marks id.slot 0) m, e)

-- IDLE

-- none of the first c is the one
pub NoneOf : List TaskId → TaskId → ℕ → Type 0
NoneOf idles id c = (k : ℕ) → k < c → same_id id (get_or idles k idle) ≡ false

module _ (idles : List TaskId) (id : TaskId) where
  pub none-start : NoneOf idles id 0
  unfolding NoneOf
  none-start k h = absurd (omega arith)

  pub none_more : (c : ℕ) → NoneOf idles id c → same_id id (get_or idles c idle) ≡ false → NoneOf idles id (c + 1)
  unfolding NoneOf
  none_more c f h k l = below_next (λ j. same_id id (get_or idles j idle) ≡ false) c k l (f k) h

  pub idle_hit : (c : ℕ) → c < length idles → same_id id (get_or idles c idle) ≡ true → true ≡ idle_in idles id
  unfolding idle_in
  idle_hit c h e = sym (any_hit (λ i. same_id id i) idles c idle h e)

  pub idle-none : (c : ℕ) → length idles ≤ c → NoneOf idles id c → false ≡ idle_in idles id
  unfolding idle_in NoneOf
  idle-none c h f = sym (any_none (λ i. same_id id i) idles idle (λ i l. f i (omega arith)))

-- EMPTY SLOTS

module _ (states : List ℕ) (from : ℕ) where
  -- none of the slots from `from` up to s is Empty
  pub Full : ℕ → Type 0
  Full s = (i : ℕ) → from ≤ i → i < s → get_or states i 0 ≡ EMPTY → ⊥

  pub full-none : Full from
  unfolding Full
  full-none i l h e = absurd (omega arith)

  pub full-more : (s : ℕ) → Full s → (get_or states s 0 ≡ EMPTY → ⊥) → Full (s + 1)
  unfolding Full
  full-more s f g i l h = below_next (λ j. get_or states j 0 ≡ EMPTY → ⊥) s i h (f i l) g

  module _ (n s : ℕ) (f : Full s) (l : from ≤ s) where
    pub empty_is : s < n → get_or states s 0 ≡ EMPTY → LowestEmpty states from n s
    unfolding Full
    empty_is h e = record { least = l; most = omega arith; before = f; there = λ _. e }

    pub empty-none : s ≡ n → LowestEmpty states from n s
    unfolding Full
    empty-none e = record { least = l; most = omega arith; before = f; there = λ h. absurd (omega arith) }

-- FREE SLOTS

module _ (states : List ℕ) (parked at n : ℕ) where
  -- none of the first s slots is free
  Taken : ℕ → Type 0
  Taken s = Passed (vacant_in states parked at) (tab n (λ s. s)) s

  long : length (tab n (λ s. s)) ≡ n
  long = length-tab n (λ s. s)

  taken_none : Taken 0
  unfolding Taken
  taken_none = passed_none (vacant_in states parked at) (tab n (λ s. s))

  module _ (s : ℕ) (p : Taken s) (h : s < n) where
    is_s : get_or (tab n (λ s. s)) s 0 ≡ s
    is_s = get_or-tab n (λ s. s) s 0 h

    taken_more : vacant_in states parked at s ≡ false → Taken (s + 1)
    unfolding Taken
    taken_more e = passed_more (vacant_in states parked at) (tab n (λ s. s)) s 0 p (omega (arith, long)) (ap (vacant_in states parked at) is_s ∙ e)

    free_is : vacant_in states parked at s ≡ true → s ≡ free_in states parked at n
    unfolding Taken free_in
    free_is e = passed_hit (vacant_in states parked at) (tab n (λ s. s)) s 0 p (omega (arith, long)) (ap (vacant_in states parked at) is_s ∙ e)

  free-none : (s : ℕ) → Taken s → n ≤ s → s ≡ free_in states parked at n
  unfolding Taken free_in
  free-none s p h = passed_all (vacant_in states parked at) (tab n (λ s. s)) s p (omega (arith, long))

  -- the tests of one slot
  module _ (s : ℕ) where
    vacant_not : (get_or states s 0 ≡ 0 → ⊥) → vacant_in states parked at s ≡ false
    vacant_not h = rw (ne_eqb (get_or states s 0) 0 h)

    vacant-free : get_or states s 0 ≡ 0 → parked ≡ 0 → vacant_in states parked at s ≡ true
    vacant-free h f = rw (eq-eqb (get_or states s 0) 0 h, set-off parked f)

    vacant-other : get_or states s 0 ≡ 0 → (at ≡ s → ⊥) → vacant_in states parked at s ≡ true
    vacant-other h f = rw (eq-eqb (get_or states s 0) 0 h, ne_eqb at s f) (go (is_set parked))
      where
        go : (b : Bool) → not (b && false) ≡ true
        go true = refl
        go false = refl

    vacant-parked : get_or states s 0 ≡ 0 → (parked ≡ 0 → ⊥) → at ≡ s → vacant_in states parked at s ≡ false
    vacant-parked h f e = rw (eq-eqb (get_or states s 0) 0 h, set_on parked f, eq-eqb at s e)

  -- no Empty slot lies between a slot up to which none is free and r
  taken-run : (from k : ℕ) → Taken from → from + k ≤ n → ((i : ℕ) → from ≤ i → i < from + k → get_or states i 0 ≡ EMPTY → ⊥) → Taken (from + k)
  taken-run from zero p h f = subst Taken (sym (add-zero from)) p
  taken-run from (suc k) p h f = subst Taken (sym (add-suc from k ∙ sym (add-one (from + k)))) (taken_more (from + k) (taken-run from k p (omega arith) (λ i l m. f i l (omega arith))) (omega arith) (vacant_not (from + k) (f (from + k) (omega arith) (omega arith))))

  taken-to : (from r : ℕ) → Taken from → LowestEmpty states from n r → Taken r
  taken-to from r p e =
      let to : from + (r - from) ≡ r = omega (arith, e.least) in
      subst Taken to (taken-run from (r - from) p (omega (arith, e.least, e.most)) (λ i l m. e.before i l (omega (arith, e.least))))

  -- the lowest Empty slot
  module _ (s : ℕ) (e : LowestEmpty states 0 n s) where
    taken : Taken s
    taken = taken-to 0 s taken_none e

    pub free_past : n ≤ s → s ≡ free_in states parked at n
    free_past h = free-none s taken h

    module _ (h : s < n) where
      pub free_unparked : parked ≡ 0 → s ≡ free_in states parked at n
      free_unparked f = free_is s taken h (vacant-free s (e.there h) f)

      pub free_other : (at ≡ s → ⊥) → s ≡ free_in states parked at n
      free_other f = free_is s taken h (vacant-other s (e.there h) f)

      -- where it is the parked one, the next
      pub free_behind : (r : ℕ) → (parked ≡ 0 → ⊥) → at ≡ s → LowestEmpty states (s + 1) n r → r ≡ free_in states parked at n
      free_behind r f q d =
          let all = taken-to (s + 1) r (taken_more s taken h (vacant-parked s (e.there h) f q)) d in
          ⊎_elim (λ (l : r < n). free_is r all l (vacant-other r (d.there l) (λ o. absurd (omega (arith, d.least))))) (λ (l : n ≤ r). free-none r all l) (lt_or_ge r n)

-- COUNTS

module _ (p : ℕ → Bool) (states : List ℕ) (n : ℕ) where
  -- k of the first s slots
  pub Counted : ℕ → ℕ → Type 0
  Counted s k = Counting p (take n states) s k

  pub counted-most : (s k : ℕ) → Counted s k → k ≤ s
  unfolding Counted
  counted-most s k c = c.most

  pub counted_none : Counted 0 0
  unfolding Counted
  counted_none = counting_none p (take n states)

  module _ (fits : n ≤ length states) where
    cut : length (take n states) ≡ n
    cut = length-take-le n states fits

    module _ (s k : ℕ) (c : Counted s k) (h : s < n) where
      at-s : get_or (take n states) s 0 ≡ get_or states s 0
      at-s = get_or-take n states s 0 h

      pub counted_hit : p (get_or states s 0) ≡ true → Counted (s + 1) (k + 1)
      unfolding Counted
      counted_hit e = counting_hit p (take n states) s k 0 c (omega (arith, cut)) (ap p at-s ∙ e)

      pub counted_pass : p (get_or states s 0) ≡ false → Counted (s + 1) k
      unfolding Counted
      counted_pass e = counting_pass p (take n states) s k 0 c (omega (arith, cut)) (ap p at-s ∙ e)

    pub counted-all : (s k : ℕ) → Counted s k → n ≤ s → k ≡ count_of p (take n states)
    unfolding Counted
    counted-all s k c h = counting_all p (take n states) s k c (omega (arith, cut))

-- THE SAME COUNTS, AS ITERATORS MAKE THEM

counted_on : {A : Type 0} (p : A → Bool) (a : ℕ) (xs : List A) → fold (λ n x. n + cond (p x) 1 0) a xs ≡ a + count_of p xs
unfolding count_of
counted_on p a [] = omega arith
counted_on p a (x ∷ xs) = counted_on p (a + cond (p x) 1 0) xs ∙ go (p x)
  where
    go : (b : Bool) → a + cond b 1 0 + count_of p xs ≡ a + cond b (suc (count_of p xs)) (count_of p xs)
    go true = omega arith
    go false = omega arith

pub counted_by : {A : Type 0} (p : A → Bool) (xs : List A) → count_by p xs ≡ count_of p xs
counted_by p xs = counted_on p 0 xs ∙ zero-add (count_of p xs)
