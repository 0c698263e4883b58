-- What a store into a ring is in the model: one more at the tail, the head taken, the head moved to the tail.
use mathlib.Core.Path.{◌≡◌, refl, sym, ◌∙◌, ap}
use mathlib.Core.List.{List, [], ◌∷◌, ◌++◌}
use Prim.Native.Nat.{ℕ, ◌+◌, ◌-◌, ◌*◌, ◌≤◌, ◌<◌}
use native.Mathlib.Omega.{arith}
use native.Mathlib.Decide.{ℕ_discrete}
use lib.ListN.{length, get_or, set, length-set}
use lib.Seq.{get_or-set_same, get_or-set_other}
use Rattle.ids.specs.declared.TaskId.{TaskId}
use Rattle.ids.specs.Id.{idle}
use Rattle.runqueue.specs.Ring.{placed, id_at, queue_at}
use Rattle.runqueue.proofs.Places.{placed_lt}
use Rattle.runqueue.proofs.RingLaws.{around-pop, queue_else, queue-push}
use Rattle.model.specs.Model.{Cpu, CPUS, queue_of, with_cpu, with_queue, set_queue, pushed}
use Rattle.memory.specs.declared.Tasks.{Tasks}
use Rattle.memory.specs.View.{SPAN, head_of, len_of, cpu_at, view, Rep}
use Rattle.memory.proofs.Puts.{put_rings, put_tail, put_head}
use Rattle.memory.proofs.ViewLaws.{view-cpu, store_at}

-- the ids that a table's rings hold
abbrev pub ring_in : Tasks → ℕ → TaskId
ring_in t i = id_at t.ring_slots t.ring_epochs i

-- the head of CPU c's queue, and the rest of it
abbrev pub head_in : Tasks → ℕ → TaskId
head_in t c = ring_in t (c * SPAN + head_of t c)

abbrev pub rest_in : Tasks → ℕ → List TaskId
rest_in t c = queue_at t.ring_slots t.ring_epochs t.small.n (c * SPAN) (placed t.small.n (head_of t c + 1)) (len_of t c - 1)

pub view-queue : (t : Tasks) (c : ℕ) → c < CPUS → queue_of (view t) c ≡ queue_at t.ring_slots t.ring_epochs t.small.n (c * SPAN) (head_of t c) (len_of t c)
unfolding cpu_at
view-queue t c h = ap (λ (k : Cpu). k.queue) (view-cpu t c h)

pub view-split : (t : Tasks) (c : ℕ) → Rep t → c < CPUS → (len_of t c ≡ 0 → ⊥) → queue_of (view t) c ≡ head_in t c ∷ rest_in t c
view-split t c r hc more =
    view-queue t c hc
    ∙ ap (λ l. queue_at t.ring_slots t.ring_epochs t.small.n (c * SPAN) (head_of t c) l) (omega arith)
    ∙ around-pop (ring_in t) t.small.n (c * SPAN) (head_of t c) (len_of t c - 1) (r.rings c hc).head

-- rings with other arrays, heads and lengths of the same sizes
pub rep-rings : (t : Tasks) (s e h l : List ℕ) → Rep t → length s ≡ CPUS * SPAN → length e ≡ CPUS * SPAN → length h ≡ CPUS → length l ≡ CPUS
    → ((c : ℕ) → c < CPUS → (get_or h c 0 < t.small.n) × (get_or l c 0 ≤ t.small.n)) → Rep (put_rings t s e h l)
rep-rings t s e h l r ls le lh ll fit =
    record {
      some = r.some;
      most = r.most;
      states = r.states;
      epochs = r.epochs;
      homes = r.homes;
      marks = r.marks;
      slots = ls;
      tenures = le;
      heads = lh;
      lens = ll;
      currents = r.currents;
      idles = r.idles;
      rings = λ c p. record { head = (fit c p).0; len = (fit c p).1 };
      flags = r.flags;
      flag = r.flag;
    }

-- ONE MORE AT THE TAIL

module _ (t : Tasks) (c i l : ℕ) (x : TaskId) (r : Rep t) (hc : c < CPUS) (room : len_of t c < t.small.n) (p : i ≡ c * SPAN + placed t.small.n (head_of t c + len_of t c)) (q : l ≡ len_of t c + 1) where
  tail_else : (d : ℕ) → (d ≡ c → ⊥) → cpu_at (put_tail t c i l x) d ≡ cpu_at t d
  unfolding cpu_at
  tail_else d ne =
      let lo = placed_lt t.small.n (head_of t c + len_of t c) r.some in
      ap (λ y. record { queue = y; current = get_or t.small.currents d idle; idle = get_or t.small.idles d idle })
      (ap (λ y. queue_at (set t.ring_slots i x.slot) (set t.ring_epochs i x.epoch) t.small.n (d * SPAN) (head_of t d) y) (get_or-set_other t.small.lens c d l 0 ne)
      ∙ queue_else t.ring_slots t.ring_epochs t.small.n (d * SPAN) (head_of t d) (len_of t d) i x.slot x.epoch
      (λ j _ z. ne (omega (arith, r.most, lo, placed_lt t.small.n (head_of t d + j) r.some))))

  tail_here : cpu_at (put_tail t c i l x) c ≡ set_queue (cpu_at t c) ((cpu_at t c).queue ++ (x ∷ []))
  unfolding cpu_at
  tail_here =
      ap (λ y. record { queue = y; current = get_or t.small.currents c idle; idle = get_or t.small.idles c idle })
      (ap (λ y. queue_at (set t.ring_slots i x.slot) (set t.ring_epochs i x.epoch) t.small.n (c * SPAN) (head_of t c) y) (get_or-set_same t.small.lens c l 0 (omega (arith, r.lens)) ∙ q)
      ∙ queue-push t.ring_slots t.ring_epochs t.small.n (c * SPAN) (head_of t c) (len_of t c) i x (r.rings c hc).head room (omega (arith, r.slots, r.most)) (omega (arith, r.tenures, r.most)) p)

  pub store_tail : view (put_tail t c i l x) ≡ pushed (view t) c x
  unfolding view
  store_tail =
      store_at t (put_tail t c i l x) c hc refl tail_else
      ∙ ap (with_cpu (view t) c) tail_here
      ∙ ap (λ (k : Cpu). with_cpu (view t) c (set_queue k (k.queue ++ (x ∷ [])))) (sym (view-cpu t c hc))

  pub rep-tail : Rep (put_tail t c i l x)
  rep-tail =
      rep-rings t _ _ _ _ r (length-set t.ring_slots i x.slot ∙ r.slots) (length-set t.ring_epochs i x.epoch ∙ r.tenures) r.heads (length-set t.small.lens c l ∙ r.lens)
      (λ d h. ((r.rings d h).head, go d h (ℕ_discrete d c)))
    where
      go : (d : ℕ) → d < CPUS → Dec (d ≡ c) → get_or (set t.small.lens c l) d 0 ≤ t.small.n
      go d h (yes e) = rw (e, get_or-set_same t.small.lens c l 0 (omega (arith, r.lens))) (omega arith)
      go d h (no e) = rw (get_or-set_other t.small.lens c d l 0 e) (r.rings d h).len

-- THE HEAD TAKEN

module _ (t : Tasks) (c h l : ℕ) (r : Rep t) (hc : c < CPUS) (p : h ≡ placed t.small.n (head_of t c + 1)) (q : l ≡ len_of t c - 1) where
  head_else : (d : ℕ) → (d ≡ c → ⊥) → cpu_at (put_head t c h l) d ≡ cpu_at t d
  unfolding cpu_at
  head_else d ne = rw (get_or-set_other t.small.heads c d h 0 ne, get_or-set_other t.small.lens c d l 0 ne)

  head_here : cpu_at (put_head t c h l) c ≡ set_queue (cpu_at t c) (rest_in t c)
  unfolding cpu_at
  head_here = rw (get_or-set_same t.small.heads c h 0 (omega (arith, r.heads)), get_or-set_same t.small.lens c l 0 (omega (arith, r.lens)), p, q)

  pub store_head : view (put_head t c h l) ≡ with_queue (view t) c (rest_in t c)
  unfolding view
  store_head =
      store_at t (put_head t c h l) c hc refl head_else
      ∙ ap (with_cpu (view t) c) head_here
      ∙ ap (λ (k : Cpu). with_cpu (view t) c (set_queue k (rest_in t c))) (sym (view-cpu t c hc))

  pub rep-head : Rep (put_head t c h l)
  rep-head =
      rep-rings t _ _ _ _ r r.slots r.tenures (length-set t.small.heads c h ∙ r.heads) (length-set t.small.lens c l ∙ r.lens)
      (λ d g. go d g (ℕ_discrete d c))
    where
      go : (d : ℕ) → d < CPUS → Dec (d ≡ c) → (get_or (set t.small.heads c h) d 0 < t.small.n) × (get_or (set t.small.lens c l) d 0 ≤ t.small.n)
      go d g (yes e) =
          rw (e, get_or-set_same t.small.heads c h 0 (omega (arith, r.heads)), get_or-set_same t.small.lens c l 0 (omega (arith, r.lens)), p, q)
          (placed_lt t.small.n (head_of t c + 1) r.some, omega (arith, (r.rings c hc).len))
      go d g (no e) = rw (get_or-set_other t.small.heads c d h 0 e, get_or-set_other t.small.lens c d l 0 e) ((r.rings d g).head, (r.rings d g).len)
