-- What each `return` of a call on a ring has to show, said of values alone.
use Rattle.std.specs.Prelude.{Some, None, slice_get}
use mathlib.Core.Path.{◌≡◌, refl, sym, ◌∙◌, ap, ap₂, subst}
use mathlib.Core.Bool.{Bool, true, false}
use mathlib.Core.List.{List, [], ◌∷◌, ◌++◌}
use Prim.Native.Nat.{ℕ, zero, suc, ◌+◌, ◌-◌, ◌≤◌, ◌<◌}
use native.Mathlib.Omega.{arith}
use lib.ListN.{length, get_or, set}
use lib.Dec.{leb, ltb, eqb}
use borrow.Author.Tests.{lt-ltb, le-ltb, le-leb, lt-leb, leb-true, leb-false}
use Rattle.lists.specs.Tells.{Tells}
use Rattle.lists.proofs.Basics.{not_both, both_true, tells_no, tells_by}
use Rattle.ids.specs.declared.TaskId.{TaskId}
use Rattle.ids.specs.Id.{idle}
use Rattle.answers.specs.Reply.{Reply, refused, done, told, number, named, Refused}
use Rattle.answers.specs.Contract.{Makes, MakesAt, Does, Answers}
use Rattle.answers.specs.Sizes.{MOST, listed}
use Rattle.answers.proofs.Returns.{answers, does_keep, does, leaves_at}
use Rattle.runqueue.specs.declared.Span.{Span}
use Rattle.runqueue.specs.declared.RunQueue.{RunQueue}
use Rattle.runqueue.specs.Ring.{placed, around, id_at, queue_at, view, Fit, Sound, ring}
use Rattle.runqueue.specs.Steps.{ring_of, new_step, enqueue_step, dequeue_of, dequeue_step, after_yield_step, ready_at_reply, len_reply, empty_reply, full_reply, capacity_reply}
use Rattle.runqueue.proofs.Places.{placed_lt}
use Rattle.runqueue.proofs.RingLaws.{around-length, around-at, around-none, around-pop, queue-push}

-- THE VIEW

pub view_n : (q : RunQueue) → (view q).n ≡ q.span.n
unfolding view
view_n q = refl

pub view-length : (q : RunQueue) → length (view q).items ≡ q.span.len
unfolding view
view-length q = around-length (id_at q.slots q.epochs) q.span.n 0 q.span.head q.span.len

pub view-none : (q : RunQueue) → q.span.len ≡ 0 → (view q).items ≡ []
unfolding view
view-none q e = rw e (around-none (id_at q.slots q.epochs) q.span.n 0 q.span.head)

view-empty : (q : RunQueue) (n : ℕ) → q.span.n ≡ n → q.span.len ≡ 0 → view q ≡ ring_of n []
view-empty q n en el = ap₂ (λ a b. ring_of a b) (view_n q ∙ en) (view-none q el)

-- the entry at a place counted from the head
get_elem_at : {A : Type 0} (l : List A) (i : ℕ) (d : A) → i < length l → slice_get l i ≡ Some (get_or l i d)
get_elem_at [] i d h = absurd (omega arith)
get_elem_at (x ∷ l) zero d h = refl
get_elem_at (x ∷ l) (suc i) d h = get_elem_at l i d (omega arith)

get_elem_past : {A : Type 0} (l : List A) (i : ℕ) → length l ≤ i → slice_get l i ≡ None
get_elem_past [] i h = refl
get_elem_past (x ∷ l) zero h = absurd (omega arith)
get_elem_past (x ∷ l) (suc i) h = get_elem_past l i (omega arith)

-- MAKING

pub listed_is : (n : ℕ) → 1 ≤ n → leb n MOST ≡ listed n
listed_is n h = rw (le-leb 1 n h)

pub unlisted_is : (n : ℕ) → n < 1 → false ≡ listed n
unlisted_is n h = rw (lt-leb 1 n h)

pub listed-both : (n : ℕ) → listed n ≡ true → (1 ≤ n) × (n ≤ MOST)
listed-both n l = let h = both_true (leb 1 n) (leb n MOST) l in (leb-true 1 n h.0, leb-true n MOST h.1)

pub fits_not : (n head len : ℕ) → listed n ≡ false → Tells false (Fit n head len)
fits_not n head len l = tells_no (λ f. not_both (rw (le-leb 1 n f.some, le-leb n MOST f.most)) l)

pub fits_last : (n head len : ℕ) → listed n ≡ true → head < n → Tells (leb len n) (Fit n head len)
fits_last n head len l c =
    let h = listed-both n l in
    tells_by (leb len n)
    (λ e. record { some = h.0; most = h.1; headed = c; within = leb-true len n e })
    (λ e f. let g = leb-false len n e in omega arith)

-- a ring of one place, or of a listed number, of which nothing is used
fresh_is : (n : ℕ) (q : RunQueue) → 1 ≤ n → n ≤ MOST → q.span ≡ record { n = n; head = 0; len = 0 } → (view q ≡ ring_of n []) × Sound q
fresh_is n q g h e =
    let en : q.span.n ≡ n = ap (λ (s : Span). s.n) e in
    let eh : q.span.head ≡ 0 = ap (λ (s : Span). s.head) e in
    let el : q.span.len ≡ 0 = ap (λ (s : Span). s.len) e in (
      view-empty q n en el,
      record { some = omega arith; most = omega arith; headed = omega arith; within = omega arith },
    )

pub new-bad : (n : ℕ) (q : RunQueue) → listed n ≡ false → q.span ≡ record { n = 1; head = 0; len = 0 } → Makes ring q (refused 2) (new_step n)
unfolding new_step
new-bad n q l e = let f = fresh_is 1 q (omega arith) (omega arith) e in record { reply = rw l; after = rw l f.0; sound = f.1 }

pub new-done : (n : ℕ) (q : RunQueue) → listed n ≡ true → q.span ≡ record { n = n; head = 0; len = 0 } → Makes ring q done (new_step n)
unfolding new_step
new-done n q l e =
    let h = listed-both n l in
    let f = fresh_is n q h.0 h.1 e in record { reply = rw l; after = rw l f.0; sound = f.1 }

-- a size that will not do leaves what lay there
pub new-left : (n : ℕ) (q : RunQueue) → listed n ≡ false → MakesAt ring q q (refused 2) (new_step n)
unfolding new_step
new-left n q l = leaves_at ring q 2 _ (rw l)

-- READING

module _ (q : RunQueue) (s : Sound q) where
  pub capacity_is : Answers ring q (number q.span.n) (capacity_reply (view q))
  capacity_is = answers ring q _ _ s (λ e. let z : ◌≡◌ {A = ℕ} 0 1 = cc in omega arith) (ap number (sym (view_n q)))

  pub len_is : Answers ring q (number q.span.len) (len_reply (view q))
  len_is = answers ring q _ _ s (λ e. let z : ◌≡◌ {A = ℕ} 0 1 = cc in omega arith) (ap number (sym (view-length q)))

  pub empty_is : Answers ring q (told (eqb q.span.len 0)) (empty_reply (view q))
  empty_is = answers ring q _ _ s (λ e. let z : ◌≡◌ {A = ℕ} 0 1 = cc in omega arith) (ap (λ k. told (eqb k 0)) (sym (view-length q)))

  pub full_is : Answers ring q (told (eqb q.span.len q.span.n)) (full_reply (view q))
  full_is =
      answers ring q _ _ s (λ e. let z : ◌≡◌ {A = ℕ} 0 1 = cc in omega arith)
      (ap₂ (λ a b. told (eqb a b)) (sym (view-length q)) (sym (view_n q)))

  pub ready_past : (i : ℕ) → q.span.len ≤ i → Answers ring q (named None) (ready_at_reply (view q) i)
  ready_past i h =
      answers ring q _ _ s (λ e. let z : ◌≡◌ {A = ℕ} 0 1 = cc in omega arith)
      (ap named (sym (get_elem_past (view q).items i (omega (arith, view-length q)))))

  pub ready_is : (i at : ℕ) → i < q.span.len → at ≡ placed q.span.n (q.span.head + i) → Answers ring q (named (Some (id_at q.slots q.epochs at))) (ready_at_reply (view q) i)
  unfolding view
  ready_is i at h e =
      answers ring q _ _ s (λ e. let z : ◌≡◌ {A = ℕ} 0 1 = cc in omega arith)
      (ap (λ x. named (Some x))
      (ap (id_at q.slots q.epochs) (omega arith)
      ∙ sym (around-at (id_at q.slots q.epochs) q.span.n 0 q.span.head q.span.len i idle h))
      ∙ ap named (sym (get_elem_at (view q).items i idle (omega (arith, view-length q)))))

-- CHANGING

-- an id stored at an index, and a new length
abbrev pub put : RunQueue → TaskId → ℕ → ℕ → RunQueue
put q id at l = record { span = record { n = q.span.n; head = q.span.head; len = l }; slots = set q.slots at id.slot; epochs = set q.epochs at id.epoch }

-- a new head and a new length
abbrev pub cut : RunQueue → ℕ → ℕ → RunQueue
cut q h l = record { span = record { n = q.span.n; head = h; len = l }; slots = q.slots; epochs = q.epochs }

module _ (q : RunQueue) (s : Sound q) where
  pub enqueue-full : (id : TaskId) → q.span.n ≤ q.span.len → Does ring q q (refused 11) (enqueue_step (view q) id)
  unfolding enqueue_step
  enqueue-full id h =
      let f = le-ltb (length (view q).items) (view q).n (omega (arith, view-length q, view_n q)) in
      does_keep ring q _ _ s (λ e. let z : ◌≡◌ {A = ℕ} 11 1 = cc in omega arith) (rw f) (rw f)

  pub view-put : (id : TaskId) (at l : ℕ) → length q.slots ≡ 64 → length q.epochs ≡ 64 → q.span.len < q.span.n → at ≡ placed q.span.n (q.span.head + q.span.len) → l ≡ q.span.len + 1
      → view (put q id at l) ≡ ring_of (view q).n ((view q).items ++ (id ∷ []))
  unfolding view
  view-put id at l ls le h p e =
      ap (λ k. ring_of q.span.n (queue_at (set q.slots at id.slot) (set q.epochs at id.epoch) q.span.n 0 q.span.head k)) e
      ∙ ap (λ k. ring_of q.span.n k)
      (queue-push q.slots q.epochs q.span.n 0 q.span.head q.span.len at id s.headed h (omega arith) (omega arith) (omega arith))

  pub enqueue-done : (id : TaskId) (at l : ℕ) → length q.slots ≡ 64 → length q.epochs ≡ 64 → q.span.len < q.span.n → at ≡ placed q.span.n (q.span.head + q.span.len) → l ≡ q.span.len + 1
      → Does ring q (put q id at l) done (enqueue_step (view q) id)
  unfolding enqueue_step
  enqueue-done id at l ls le h p e =
      let f = lt-ltb (length (view q).items) (view q).n (omega (arith, view-length q, view_n q)) in
      does ring q (put q id at l) _ _ (λ r. r) (rw f) (rw f (view-put id at l ls le h p e)) (omega arith)

  pub dequeue-none : q.span.len ≡ 0 → Does ring q q (named None) (dequeue_step (view q))
  unfolding dequeue_of
  dequeue-none e =
      let f = view-none q e in
      does_keep ring q _ _ s (λ e. let z : ◌≡◌ {A = ℕ} 0 1 = cc in omega arith) (rw f) (view-empty q (view q).n (sym (view_n q)) e ∙ sym (ap (λ l. (dequeue_of (view q).n l).after) f))

  pub view-split : (h l : ℕ) → (q.span.len ≡ 0 → ⊥) → h ≡ placed q.span.n (q.span.head + 1) → l ≡ q.span.len - 1
      → (view q).items ≡ id_at q.slots q.epochs q.span.head ∷ (view (cut q h l)).items
  unfolding view
  view-split h l more e f =
      let at = id_at q.slots q.epochs in
      ap (λ k. around at q.span.n 0 q.span.head k) (omega arith)
      ∙ around-pop at q.span.n 0 q.span.head l s.headed
      ∙ ap₂ (λ a k. at a ∷ around at q.span.n 0 k l) (omega arith) (sym e)

  pub dequeue-done : (h l : ℕ) → (q.span.len ≡ 0 → ⊥) → h ≡ placed q.span.n (q.span.head + 1) → l ≡ q.span.len - 1
      → Does ring q (cut q h l) (named (Some (id_at q.slots q.epochs q.span.head))) (dequeue_step (view q))
  unfolding dequeue_of
  dequeue-done h l more e f =
      let v = view-split h l more e f in
      let low = placed_lt q.span.n (q.span.head + 1) s.some in
      let u = cut q h l in
      does ring q u _ _ (λ r. r) (rw v)
      (ap (λ k. ring_of k (view u).items) (view_n u ∙ sym (view_n q)) ∙ sym (ap (λ k. (dequeue_of (view q).n k).after) v))
      (omega arith)

dequeue-tells : (n : ℕ) (l : List TaskId) → Refused (dequeue_of n l).reply → ⊥
unfolding dequeue_of
dequeue-tells n [] r = r
dequeue-tells n (x ∷ l) r = r

pub after_none : (q u : RunQueue) (got : Reply) → Does ring q u got (dequeue_step (view q)) → Does ring q u got (after_yield_step (view q) None)
unfolding after_yield_step
after_none q u got d = d

-- the one that goes on, and then the head
module _ (q : RunQueue) (id : TaskId) (p : RunQueue) where
  room : Bool
  room = ltb (length (view q).items) (view q).n

  pub after-full : (k : ℕ) → Does ring q p (refused k) (enqueue_step (view q) id) → Does ring q p (refused k) (after_yield_step (view q) (Some id))
  unfolding after_yield_step enqueue_step room
  after-full k d = go room refl
    where
      go : (b : Bool) → room ≡ b → Does ring q p (refused k) (after_yield_step (view q) (Some id))
      go true f = let e = rw f at d.makes.reply in let z : ◌≡◌ {A = ℕ} 0 1 = cc in absurd (omega arith)
      go false f = rw f (rw f at d)

  pub after-put : (u : RunQueue) (got : Reply) → Does ring q p done (enqueue_step (view q) id) → Does ring p u got (dequeue_step (view p))
      → Does ring q u got (after_yield_step (view q) (Some id))
  unfolding after_yield_step enqueue_step room
  after-put u got d e = go room refl
    where
      go : (b : Bool) → room ≡ b → Does ring q u got (after_yield_step (view q) (Some id))
      go true f =
          let v : view p ≡ ring_of (view q).n ((view q).items ++ (id ∷ [])) = rw f at d.makes.after in
          let m : Makes ring u got (dequeue_of (view q).n ((view q).items ++ (id ∷ []))) = subst (λ w. Makes ring u got (dequeue_step w)) v e.makes in
          rw f (does ring q u _ _ (λ r. dequeue-tells (view p).n (view p).items (subst Refused e.makes.reply r)) m.reply m.after m.sound)
      go false f = let e = rw f at d.makes.reply in let z : ◌≡◌ {A = ℕ} 0 1 = cc in absurd (omega arith)
