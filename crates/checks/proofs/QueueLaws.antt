-- What the walks along the queues note: each slot gets as many as it stands in the queue of its home.
use Rattle.std.proofs.Common.{◌≡◌, ℕ, zero, suc, ◌+◌, ◌<◌, ◌≤◌, eqb, List, [], ◌∷◌, ◌++◌, length, get_or, set, sym, refl, ap, ◌∙◌, arith, length-set, get_or-set_other, get_or-set_same, eq-eqb, ne_eqb}
use native.Mathlib.Decide.{ℕ_discrete}
use lib.ListN.{length-replicate}
use Rattle.lists.specs.Tab.{tab}
use Rattle.lists.specs.Search.{one_if}
use Rattle.lists.proofs.Basics.{get_or-all}
use Rattle.lists.proofs.TabLaws.{tab-snoc}
use Rattle.ids.specs.declared.TaskId.{TaskId}
use Rattle.model.specs.Model.{MOST, EMPTY, READY}
use Rattle.model.specs.Sound.{occ}
use Rattle.checks.specs.Walk.{notes_at, Passes}
use Rattle.checks.specs.Parts.{no_notes, noted, Homed, Free, QueueFits, queue_notes, QueuesFit, queues_notes}
use Rattle.checks.proofs.WalkLaws.{passes_at}

-- COUNTING

occ-snoc : (i : ℕ) (l : List TaskId) (e : TaskId) → occ i (l ++ (e ∷ [])) ≡ occ i l + one_if (eqb e.slot i)
unfolding occ
occ-snoc i [] e = omega arith
occ-snoc i (x ∷ l) e = omega (arith, occ-snoc i l e)

occ-nil : (i : ℕ) (q : ℕ → TaskId) → occ i (tab 0 q) ≡ 0
unfolding occ tab
occ-nil i q = refl

occ_suc : (i k : ℕ) (q : ℕ → TaskId) → occ i (tab (suc k) q) ≡ occ i (tab k q) + one_if (eqb (q k).slot i)
occ_suc i k q = rw (tab-snoc k q) (occ-snoc i (tab k q) (q k))

occ_hit : (i k : ℕ) (q : ℕ → TaskId) → (q k).slot ≡ i → occ i (tab (suc k) q) ≡ occ i (tab k q) + 1
occ_hit i k q e = occ_suc i k q ∙ rw (eq-eqb (q k).slot i e)

occ_miss : (i k : ℕ) (q : ℕ → TaskId) → ((q k).slot ≡ i → ⊥) → occ i (tab (suc k) q) ≡ occ i (tab k q)
occ_miss i k q e = occ_suc i k q ∙ rw (ne_eqb (q k).slot i e) (omega arith)

-- an entry counts
pub occ_in : (k j : ℕ) (q : ℕ → TaskId) → j < k → 0 < occ (q j).slot (tab k q)
occ_in zero j q h = absurd (omega arith)
occ_in (suc k) j q h =
    elim (ℕ_discrete j k) [
      | yes e ↦ omega (arith, occ_hit (q j).slot k q (ap (λ x. (q x).slot) (sym e)))
      | no e ↦ omega (arith, occ_suc (q j).slot k q, occ_in k j q (omega arith))
    ]

-- ONE QUEUE

module _ (epochs homes : List ℕ) (n c : ℕ) (q : ℕ → TaskId) where
  pub queue_long : (len : ℕ) (w : List ℕ) → length (queue_notes q len w) ≡ length w
  unfolding notes_at
  queue_long zero w = refl
  queue_long (suc k) w = length-set (queue_notes q k w) (q k).slot READY ∙ queue_long k w

  queue-free : (len : ℕ) (w : List ℕ) → QueueFits epochs homes n c q len w → (j : ℕ) → j < len → Free epochs homes n c (q j) (queue_notes q j w)
  queue-free len w p j h = passes_at (λ j. Free epochs homes n c (q j)) (λ j. noted READY (q j)) len j w h p

  -- each slot's note rises by how often it stands in the queue
  pub queue-at : (len : ℕ) (w : List ℕ) → n ≤ length w → QueueFits epochs homes n c q len w → (i : ℕ) → i < n → get_or (queue_notes q len w) i 0 ≡ get_or w i 0 + occ i (tab len q)
  unfolding notes_at Passes
  queue-at zero w lw p i h = omega (arith, occ-nil i q)
  queue-at (suc k) w lw p i h =
      let ih = queue-at k w lw p.0 i h in
      elim (ℕ_discrete (q k).slot i) [
        | yes e ↦
            let z : get_or (queue_notes q k w) i 0 ≡ 0 = ap (λ s. get_or (queue_notes q k w) s 0) (sym e) ∙ p.1.free in
            let g : get_or (set (queue_notes q k w) i READY) i 0 ≡ READY = get_or-set_same (queue_notes q k w) i READY 0 (omega (arith, queue_long k w)) in
            rw e (omega (arith, g, occ_hit i k q e))
        | no e ↦ omega (arith, get_or-set_other (queue_notes q k w) (q k).slot i READY 0 (λ z. e (sym z)), occ_miss i k q e)
      ]

  -- and stays at most one
  pub queue-most : (len : ℕ) (w : List ℕ) → n ≤ length w → QueueFits epochs homes n c q len w → ((i : ℕ) → i < n → get_or w i 0 ≤ 1) → (i : ℕ) → i < n → get_or (queue_notes q len w) i 0 ≤ 1
  unfolding notes_at Passes
  queue-most zero w lw p low i h = low i h
  queue-most (suc k) w lw p low i h =
      elim (ℕ_discrete (q k).slot i) [
        | yes e ↦ let g = get_or-set_same (queue_notes q k w) i READY 0 (omega (arith, queue_long k w)) in rw e (omega (arith, g))
        | no e ↦ omega (arith, get_or-set_other (queue_notes q k w) (q k).slot i READY 0 (λ z. e (sym z)), queue-most k w lw p.0 low i h)
      ]

  -- entries that are homed there fit, where no slot is asked for twice
  pub queue-fits : (len : ℕ) (w : List ℕ) → n ≤ length w → ((j : ℕ) → j < len → Homed epochs homes n c (q j)) → ((i : ℕ) → i < n → get_or w i 0 + occ i (tab len q) ≤ 1) → QueueFits epochs homes n c q len w
  unfolding Passes
  queue-fits zero w lw hm low = tt
  queue-fits (suc k) w lw hm low =
      let s = hm k (omega arith) in
      let p = queue-fits k w lw (λ j h. hm j (omega arith)) (λ i h. omega (arith, low i h, occ_suc i k q)) in
      (p, record { homed = s; free = omega (arith, queue-at k w lw p (q k).slot s.slot, low (q k).slot s.slot, occ_hit (q k).slot k q refl) })

  -- a slot with another home stands in no queue of entries that are homed there
  pub queue_away : (len i : ℕ) → ((j : ℕ) → j < len → Homed epochs homes n c (q j)) → (get_or homes i 0 ≡ c → ⊥) → occ i (tab len q) ≡ 0
  queue_away zero i hm ne = occ-nil i q
  queue_away (suc k) i hm ne =
      occ_miss i k q (λ e. ne (ap (λ s. get_or homes s 0) (sym e) ∙ (hm k (omega arith)).home))
      ∙ queue_away k i (λ j h. hm j (omega arith)) ne

-- ALL QUEUES

module _ (epochs homes : List ℕ) (n : ℕ) (q : ℕ → ℕ → TaskId) (lens : List ℕ) (most : n ≤ MOST) where
  -- the queue of CPU c, and what the first k of them note
  abbrev line : ℕ → List TaskId
  line c = tab (get_or lens c 0) (q c)

  abbrev at : ℕ → List ℕ
  at k = queues_notes q lens k no_notes

  pub queues-long : (k : ℕ) → length (queues_notes q lens k no_notes) ≡ MOST
  unfolding notes_at
  queues-long zero = length-replicate MOST EMPTY
  queues-long (suc k) = queue_long epochs homes n k (q k) (get_or lens k 0) (at k) ∙ queues-long k

  long : (k : ℕ) → n ≤ length (at k)
  long k = omega (arith, queues-long k)

  queues_one : (k c : ℕ) → c < k → QueuesFit epochs homes n q lens k no_notes → QueueFits epochs homes n c (q c) (get_or lens c 0) (at c)
  queues_one k c h p = passes_at (λ c. QueueFits epochs homes n c (q c) (get_or lens c 0)) (λ c. queue_notes (q c) (get_or lens c 0)) k c no_notes h p

  pub queues-homed : (k c : ℕ) → c < k → QueuesFit epochs homes n q lens k no_notes → (j : ℕ) → j < get_or lens c 0 → Homed epochs homes n c (q c j)
  queues-homed k c h p j l = (queue-free epochs homes n c (q c) (get_or lens c 0) (at c) (queues_one k c h p) j l).homed

  pub queues-most : (k : ℕ) → QueuesFit epochs homes n q lens k no_notes → (i : ℕ) → i < n → get_or (queues_notes q lens k no_notes) i 0 ≤ 1
  unfolding notes_at Passes
  queues-most zero p i h = omega (arith, get_or-all MOST i EMPTY)
  queues-most (suc k) p i h =
      queue-most epochs homes n k (q k) (get_or lens k 0) (at k) (long k) p.1 (queues-most k p.0) i h

  -- the note of a slot counts it in the queue of its home, once that has been passed
  pub queues-at : (k : ℕ) → QueuesFit epochs homes n q lens k no_notes → (i : ℕ) → i < n
      → (get_or homes i 0 < k → get_or (queues_notes q lens k no_notes) i 0 ≡ occ i (line (get_or homes i 0))) × (k ≤ get_or homes i 0 → get_or (queues_notes q lens k no_notes) i 0 ≡ 0)
  unfolding notes_at Passes
  queues-at zero p i h = (λ l. absurd (omega arith), λ _. get_or-all MOST i EMPTY)
  queues-at (suc k) p i h =
      let ih = queues-at k p.0 i h in
      let g = queue-at epochs homes n k (q k) (get_or lens k 0) (at k) (long k) p.1 i h in
      elim (ℕ_discrete (get_or homes i 0) k) [
        | yes e ↦ (λ _. rw e (omega (arith, g, ih.1 (omega arith))), λ l. absurd (omega arith))
        | no e ↦
            let z = queue_away epochs homes n k (q k) (get_or lens k 0) i (λ j l. (queue-free epochs homes n k (q k) (get_or lens k 0) (at k) p.1 j l).homed) e in
            (λ l. omega (arith, g, z, ih.0 (omega arith)), λ l. omega (arith, g, z, ih.1 (omega arith)))
      ]

  -- entries that are homed where they stand fit, if no slot stands twice in one queue
  pub queues-fit : (k : ℕ) → ((c : ℕ) → c < k → (j : ℕ) → j < get_or lens c 0 → Homed epochs homes n c (q c j)) → ((c i : ℕ) → c < k → i < n → occ i (tab (get_or lens c 0) (q c)) ≤ 1) → QueuesFit epochs homes n q lens k no_notes
  unfolding Passes
  queues-fit zero hm once = tt
  queues-fit (suc k) hm once =
      let p = queues-fit k (λ c h. hm c (omega arith)) (λ c i h. once c i (omega arith)) in
      let fits : (i : ℕ) → i < n → get_or (at k) i 0 + occ i (line k) ≤ 1 =
      λ i h. elim (ℕ_discrete (get_or homes i 0) k) [
        | yes e ↦ omega (arith, (queues-at k p i h).1 (omega arith), once k i (omega arith) h)
        | no e ↦ omega (arith, queue_away epochs homes n k (q k) (get_or lens k 0) i (hm k (omega arith)) e, queues-most k p i h)
      ]
      in
      (p, queue-fits epochs homes n k (q k) (get_or lens k 0) (at k) (long k) (hm k (omega arith)) fits)
