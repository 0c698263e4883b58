-- What a store, a head that moves and a length that changes do to what a ring holds. Every ring shares these laws: the
-- ring alone, the rings of a task table and the wake queue.
use mathlib.Core.Path.{◌≡◌, refl, sym, ◌∙◌, ap, ap₂}
use mathlib.Core.List.{List, [], ◌∷◌, ◌++◌}
use Prim.Native.Nat.{ℕ, suc, ◌+◌, ◌≤◌, ◌<◌}
use native.Mathlib.Numerals.{add-one}
use native.Mathlib.Omega.{arith}
use lib.ListN.{length, get_or, set}
use lib.Seq.{get_or-set_same, get_or-set_other}
use Rattle.lists.specs.Tab.{tab}
use Rattle.lists.proofs.TabLaws.{length-tab, get_or-tab, tab_ext, tab-cons, tab-snoc}
use Rattle.ids.specs.declared.TaskId.{TaskId}
use Rattle.runqueue.specs.Ring.{placed, around, id_at, queue_at}
use Rattle.runqueue.proofs.Places.{placed-low, placed_lt, placed_on, placed_apart}

module _ {A : Type 0} where
  pub around-length : (f : ℕ → A) (n b h l : ℕ) → length (around f n b h l) ≡ l
  unfolding around
  around-length f n b h l = length-tab l (λ j. f (b + placed n (h + j)))

  pub around-at : (f : ℕ → A) (n b h l i : ℕ) (d : A) → i < l → get_or (around f n b h l) i d ≡ f (b + placed n (h + i))
  unfolding around
  around-at f n b h l i d p = get_or-tab l (λ j. f (b + placed n (h + j))) i d p

  pub around-none : (f : ℕ → A) (n b h : ℕ) → around f n b h 0 ≡ []
  unfolding around tab
  around-none f n b h = refl

  -- a store elsewhere changes nothing
  pub around_else : (f g : ℕ → A) (n b h l : ℕ) → ((j : ℕ) → j < l → g (b + placed n (h + j)) ≡ f (b + placed n (h + j))) → around g n b h l ≡ around f n b h l
  unfolding around
  around_else f g n b h l same = tab_ext l (λ j. g (b + placed n (h + j))) (λ j. f (b + placed n (h + j))) same

  -- a store at the tail is one more at the end
  pub around-push : (f g : ℕ → A) (n b h l i : ℕ) (x : A) → h < n → l < n → i ≡ b + placed n (h + l) → g i ≡ x → ((j : ℕ) → (j ≡ i → ⊥) → g j ≡ f j)
      → around g n b h (l + 1) ≡ around f n b h l ++ (x ∷ [])
  unfolding around
  around-push f g n b h l i x hn ln p here else =
      let last : g (b + placed n (h + l)) ≡ x = ap g (sym p) ∙ here in
      let rest : tab l (λ j. g (b + placed n (h + j))) ≡ tab l (λ j. f (b + placed n (h + j))) =
      tab_ext l (λ j. g (b + placed n (h + j))) (λ j. f (b + placed n (h + j)))
      (λ j q. else (b + placed n (h + j)) (λ z. placed_apart n h j l hn q ln (omega arith)))
      in
      rw (add-one, tab-snoc l (λ j. g (b + placed n (h + j))), rest, last)

  -- the head, and the rest from the next place on
  pub around-pop : (f : ℕ → A) (n b h l : ℕ) → h < n → around f n b h (suc l) ≡ f (b + h) ∷ around f n b (placed n (h + 1)) l
  unfolding around
  around-pop f n b h l hn =
      let first : f (b + placed n (h + 0)) ≡ f (b + h) = ap (λ k. f (b + k)) (ap (placed n) (omega arith) ∙ placed-low n h hn) in
      let rest : tab l (λ j. f (b + placed n (h + suc j))) ≡ tab l (λ j. f (b + placed n (placed n (h + 1) + j))) =
      tab_ext l (λ j. f (b + placed n (h + suc j))) (λ j. f (b + placed n (placed n (h + 1) + j)))
      (λ j q. ap (λ k. f (b + k)) (ap (placed n) (omega arith) ∙ sym (placed_on n (h + 1) j)))
      in
      tab-cons l (λ j. f (b + placed n (h + j))) ∙ ap₂ (λ (a : A) (m : List A). a ∷ m) first rest

-- an id in its two halves
pub id_same : (s e : List ℕ) (i : ℕ) (x : TaskId) → i < length s → i < length e → id_at (set s i x.slot) (set e i x.epoch) i ≡ x
id_same s e i x hs he =
    ap₂ (λ a b. record { slot = a; epoch = b }) (get_or-set_same s i x.slot 0 hs) (get_or-set_same e i x.epoch 0 he)

pub id_other : (s e : List ℕ) (i j a b : ℕ) → (j ≡ i → ⊥) → id_at (set s i a) (set e i b) j ≡ id_at s e j
id_other s e i j a b ne =
    ap₂ (λ a b. record { slot = a; epoch = b }) (get_or-set_other s i j a 0 ne) (get_or-set_other e i j b 0 ne)

-- the same three laws for ids
pub queue_else : (s e : List ℕ) (n b h l i x y : ℕ) → ((j : ℕ) → j < l → b + placed n (h + j) ≡ i → ⊥) → queue_at (set s i x) (set e i y) n b h l ≡ queue_at s e n b h l
queue_else s e n b h l i x y out =
    around_else (id_at s e) (id_at (set s i x) (set e i y)) n b h l (λ j p. id_other s e i (b + placed n (h + j)) x y (out j p))

pub queue-push : (s e : List ℕ) (n b h l i : ℕ) (x : TaskId) → h < n → l < n → b + n ≤ length s → b + n ≤ length e → i ≡ b + placed n (h + l)
    → queue_at (set s i x.slot) (set e i x.epoch) n b h (l + 1) ≡ queue_at s e n b h l ++ (x ∷ [])
queue-push s e n b h l i x hn ln ls le p =
    let low = placed_lt n (h + l) (omega arith) in
    around-push (id_at s e) (id_at (set s i x.slot) (set e i x.epoch)) n b h l i x hn ln p
    (id_same s e i x (omega arith) (omega arith)) (λ j ne. id_other s e i j x.slot x.epoch ne)

-- the head goes to the tail, in a ring that is not full
pub queue-turn : (s e : List ℕ) (n b h l i k : ℕ) (x : TaskId) → h < n → l < n → l ≡ suc k → b + n ≤ length s → b + n ≤ length e → x ≡ id_at s e (b + h) → i ≡ b + placed n (h + l)
    → queue_at (set s i x.slot) (set e i x.epoch) n b (placed n (h + 1)) l ≡ queue_at s e n b (placed n (h + 1)) k ++ (x ∷ [])
queue-turn s e n b h l i k x hn ln lk ls le ex p =
    ap (λ m. queue_at (set s i x.slot) (set e i x.epoch) n b (placed n (h + 1)) m) (omega arith)
    ∙ queue-push s e n b (placed n (h + 1)) k i x (placed_lt n (h + 1) (omega arith)) (omega arith) ls le
    (p ∙ ap (λ m. b + m) (ap (placed n) (omega arith) ∙ sym (placed_on n (h + 1) k)))
