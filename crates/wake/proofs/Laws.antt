-- What each `return` of a call on the wake queue has to show, said of values alone.
use Rattle.std.specs.Prelude.{Some, None}
use Rattle.std.proofs.Common.{◌≡◌, ℕ, ◌+◌, ◌%◌, ◌<◌, true, false, eqb, [], ◌∷◌, ◌++◌, length, get_or, set, sym, refl, ap, ◌∙◌, ap₂, add-one, arith, get_or-set_other, get_or-set_same, le-ltb, lt-ltb, eq-eqb, ne_eqb}
use native.Mathlib.Decide.{ℕ_discrete}
use Rattle.answers.specs.Reply.{refused, done, told, number, value}
use Rattle.answers.specs.Contract.{Makes, MakesAt, Does, Answers}
use Rattle.answers.proofs.Returns.{answers, does_keep, does, leaves_at}
use Rattle.runqueue.specs.Ring.{placed, around}
use Rattle.runqueue.proofs.RingLaws.{around-length, around-none, around-push, around-pop}
use Rattle.wake.specs.declared.Ends.{Ends}
use Rattle.wake.specs.declared.WakeQueue.{WakeQueue}
use Rattle.wake.specs.Queue.{listed, held, view, Sound, wakes}
use Rattle.wake.specs.Steps.{queue_of, fresh, DROPS, new_step, push_step, pop_of, pop_step, drops_reply, empty_reply}
use Rattle.wake.proofs.Held.{listed_small, head-after, none-held, some-held, held-full, held-room, held_more, held_less}

-- THE VIEW

-- what an index holds
abbrev at : WakeQueue → ℕ → ℕ
at q i = get_or q.tokens i 0

view-c : (q : WakeQueue) → (view q).c ≡ q.ends.c
unfolding view
view-c q = refl

view-drops : (q : WakeQueue) → (view q).drops ≡ q.ends.drops
unfolding view
view-drops q = refl

view-length : (q : WakeQueue) → length (view q).tokens ≡ held q.ends.c q.ends.head q.ends.tail
unfolding view
view-length q = around-length (at q) q.ends.c 0 q.ends.tail (held q.ends.c q.ends.head q.ends.tail)

view-none : (q : WakeQueue) → held q.ends.c q.ends.head q.ends.tail ≡ 0 → (view q).tokens ≡ []
unfolding view
view-none q e = rw e (around-none (at q) q.ends.c 0 q.ends.tail)

-- MAKING AND READING

fresh_is : (c : ℕ) (q : WakeQueue) → listed c ≡ true → q.ends ≡ record { c = c; head = 0; tail = 0; drops = 0 } → (view q ≡ fresh c) × Sound q
fresh_is c q l e =
    let ec : q.ends.c ≡ c = ap (λ (s : Ends). s.c) e in
    let eh : q.ends.head ≡ 0 = ap (λ (s : Ends). s.head) e in
    let et : q.ends.tail ≡ 0 = ap (λ (s : Ends). s.tail) e in
    let ed : q.ends.drops ≡ 0 = ap (λ (s : Ends). s.drops) e in
    let s = listed_small c l in
    let z = none-held q.ends.c q.ends.head q.ends.tail (omega arith) (omega arith) (eh ∙ sym et) in (
      ap₂ (λ a t. queue_of a t (view q).drops) (view-c q ∙ ec) (view-none q z) ∙ ap (λ d. queue_of c [] d) (view-drops q ∙ ed),
      record { size = rw ec l; headed = omega arith; tailed = omega arith },
    )

pub new-bad : (c : ℕ) (q : WakeQueue) → listed c ≡ false → q.ends ≡ record { c = 2; head = 0; tail = 0; drops = 0 } → Makes wakes q (refused 2) (new_step c)
unfolding new_step listed
new-bad c q l e = let f = fresh_is 2 q refl e in record { reply = rw l; after = rw l f.0; sound = f.1 }

pub new-done : (c : ℕ) (q : WakeQueue) → listed c ≡ true → q.ends ≡ record { c = c; head = 0; tail = 0; drops = 0 } → Makes wakes q done (new_step c)
unfolding new_step
new-done c q l e = let f = fresh_is c q l e in record { reply = rw l; after = rw l f.0; sound = f.1 }

-- a size that will not do leaves what lay there
pub new-left : (c : ℕ) (q : WakeQueue) → listed c ≡ false → MakesAt wakes q q (refused 2) (new_step c)
unfolding new_step
new-left c q l = leaves_at wakes q 2 _ (rw l)

module _ (q : WakeQueue) (s : Sound q) where
  pub drops_is : Answers wakes q (number q.ends.drops) (drops_reply (view q))
  drops_is = answers wakes q _ _ s (λ e. let z : ◌≡◌ {A = ℕ} 0 1 = cc in omega arith) (ap number (sym (view-drops q)))

  pub empty_is : Answers wakes q (told (eqb q.ends.head q.ends.tail)) (empty_reply (view q))
  empty_is =
      answers wakes q _ _ s (λ e. let z : ◌≡◌ {A = ℕ} 0 1 = cc in omega arith)
      (ap told (go (ℕ_discrete q.ends.head q.ends.tail) ∙ ap (λ k. eqb k 0) (sym (view-length q))))
    where
      go : Dec (q.ends.head ≡ q.ends.tail) → eqb q.ends.head q.ends.tail ≡ eqb (held q.ends.c q.ends.head q.ends.tail) 0
      go (yes e) = eq-eqb q.ends.head q.ends.tail e ∙ sym (eq-eqb _ 0 (none-held q.ends.c q.ends.head q.ends.tail s.headed s.tailed e))
      go (no f) = ne_eqb q.ends.head q.ends.tail f ∙ sym (ne_eqb _ 0 (some-held q.ends.c q.ends.head q.ends.tail s.headed s.tailed f))

-- CHANGING

-- one more drop
abbrev pub missed : WakeQueue → ℕ → WakeQueue
missed q d = record { ends = record { c = q.ends.c; head = q.ends.head; tail = q.ends.tail; drops = d }; tokens = q.tokens }

-- a token stored at an index, and a new head
abbrev pub put : WakeQueue → ℕ → ℕ → ℕ → WakeQueue
put q i t x = record { ends = record { c = q.ends.c; head = x; tail = q.ends.tail; drops = q.ends.drops }; tokens = set q.tokens i t }

-- a new tail
abbrev pub cut : WakeQueue → ℕ → WakeQueue
cut q x = record { ends = record { c = q.ends.c; head = q.ends.head; tail = x; drops = q.ends.drops }; tokens = q.tokens }

module _ (q : WakeQueue) (s : Sound q) (t x : ℕ) (next : x ≡ placed q.ends.c (q.ends.head + 1)) (below : x < q.ends.c) where
  pub push-full : (d : ℕ) → x ≡ q.ends.tail → d ≡ (q.ends.drops + 1) % DROPS → Does wakes q (missed q d) (told false) (push_step (view q) t)
  unfolding push_step view
  push-full d e f =
      let full = held-full q.ends.c q.ends.head q.ends.tail s.headed s.tailed x next e in
      let no = le-ltb (length (view q).tokens + 1) q.ends.c (omega (arith, view-length q)) in
      does wakes q (missed q d) _ _ (λ r. r) (rw no) (rw (no, f)) (record { size = s.size; headed = s.headed; tailed = s.tailed })

  pub push-done : (i : ℕ) → length q.tokens ≡ 64 → (x ≡ q.ends.tail → ⊥) → i ≡ q.ends.head → Does wakes q (put q i t x) (told true) (push_step (view q) t)
  unfolding push_step view
  push-done i long ne p =
      let h = held q.ends.c q.ends.head q.ends.tail in
      let size = listed_small q.ends.c s.size in
      let room = held-room q.ends.c q.ends.head q.ends.tail s.headed s.tailed x next ne in
      let yes = lt-ltb (length (view q).tokens + 1) q.ends.c (omega (arith, view-length q)) in
      let more = held_more q.ends.c q.ends.head q.ends.tail x s.headed s.tailed next below ne in
      let there = head-after q.ends.c q.ends.head q.ends.tail s.headed s.tailed in
      let tokens : around (λ j. get_or (set q.tokens i t) j 0) q.ends.c 0 q.ends.tail (held q.ends.c x q.ends.tail) ≡ around (at q) q.ends.c 0 q.ends.tail h ++ (t ∷ []) =
      ap (λ k. around (λ j. get_or (set q.tokens i t) j 0) q.ends.c 0 q.ends.tail k) more
      ∙ around-push (at q) (λ j. get_or (set q.tokens i t) j 0) q.ends.c 0 q.ends.tail h i t s.tailed (omega arith) (omega arith)
      (get_or-set_same q.tokens i t 0 (omega arith)) (λ j ne. get_or-set_other q.tokens i j t 0 ne)
      in
      does wakes q (put q i t x) _ _ (λ r. r) (rw yes) (rw yes (ap (λ l. queue_of q.ends.c l q.ends.drops) tokens)) (record { size = s.size; headed = below; tailed = s.tailed })

module _ (q : WakeQueue) (s : Sound q) where
  pub pop-none : q.ends.tail ≡ q.ends.head → Does wakes q q (value None) (pop_step (view q))
  unfolding pop_of
  pop-none e =
      let v = view-none q (none-held q.ends.c q.ends.head q.ends.tail s.headed s.tailed (sym e)) in
      does_keep wakes q _ _ s (λ e. let z : ◌≡◌ {A = ℕ} 0 1 = cc in omega arith) (rw v)
      (ap (λ l. queue_of (view q).c l (view q).drops) v ∙ sym (ap (λ l. (pop_of (view q).c l (view q).drops).after) v))

  pub pop-done : (x : ℕ) → (q.ends.tail ≡ q.ends.head → ⊥) → x ≡ placed q.ends.c (q.ends.tail + 1) → x < q.ends.c → Does wakes q (cut q x) (value (Some (at q q.ends.tail))) (pop_step (view q))
  unfolding pop_of view
  pop-done x ne next below =
      let less = held_less q.ends.c q.ends.head q.ends.tail x s.headed s.tailed next below ne in
      let rest = held q.ends.c q.ends.head x in
      let v : (view q).tokens ≡ at q q.ends.tail ∷ (view (cut q x)).tokens =
      ap (λ k. around (at q) q.ends.c 0 q.ends.tail k) (less ∙ add-one rest)
      ∙ around-pop (at q) q.ends.c 0 q.ends.tail rest s.tailed
      ∙ ap₂ (λ a k. at q a ∷ around (at q) q.ends.c 0 k rest) (omega arith) (sym next)
      in
      does wakes q (cut q x) _ _ (λ r. r) (ap (λ l. (pop_of q.ends.c l q.ends.drops).reply) (sym v) ∙ refl) (sym (ap (λ l. (pop_of q.ends.c l q.ends.drops).after) v))
      (record { size = s.size; headed = s.headed; tailed = below })
