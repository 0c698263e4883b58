-- The scan of a steal, turn by turn: a queue turned by the entries that were passed.
use mathlib.Core.Path.{◌≡◌, refl, sym, ◌∙◌, ap, ap₂, subst}
use mathlib.Core.Bool.{Bool, true, false}
use mathlib.Core.List.{List, [], ◌∷◌, ◌++◌, append_assoc, append-nil}
use Prim.Native.Nat.{ℕ, suc, ◌+◌, ◌-◌, ◌*◌, ◌≤◌, ◌<◌}
use native.Mathlib.Numerals.{add-one}
use native.Mathlib.Omega.{arith}
use native.Mathlib.Decide.{ℕ_discrete}
use lib.ListN.{length, get_or, set, take, drop, length-set, drop_of_length-le}
use lib.Seq.{get_or-set_same, get_or-set_other, drop-cons, take-suc, take_all}
use Rattle.lists.proofs.SearchLaws.{Passed, passed_none, passed_more, passed_hit, passed_all}
use Rattle.ids.specs.declared.TaskId.{TaskId}
use Rattle.ids.specs.Id.{idle}
use Rattle.runqueue.specs.Ring.{placed, id_at, queue_at}
use Rattle.runqueue.proofs.Places.{placed-low, placed_lt}
use Rattle.runqueue.proofs.RingLaws.{around-pop, queue_else, queue-turn}
use Rattle.model.specs.Model.{Cpu, CPUS, queue_of, with_cpu, with_queue, set_queue}
use Rattle.model.specs.Switch.{stealeable, loot_at}
use Rattle.memory.specs.declared.Tasks.{Tasks}
use Rattle.memory.specs.View.{SPAN, head_of, len_of, cpu_at, view, Rep}
use Rattle.memory.specs.Parts.{stealeable_in}
use Rattle.memory.proofs.Puts.{put_rings}
use Rattle.memory.proofs.ViewLaws.{view-cpu, view-len, store_at}
use Rattle.memory.proofs.RingStores.{view-queue, rep-rings}
use Rattle.memory.proofs.PartLaws.{view-stealeable}
use Rattle.steps.specs.Stealing.{turned, Scans}

-- a queue turned by one more entry
turned-head : (q : List TaskId) (j : ℕ) → j < length q → turned j q ≡ get_or q j idle ∷ (drop (suc j) q ++ take j q)
turned-head q j h = ap (λ l. l ++ take j q) (drop-cons q j idle h)

turned_next : (q : List TaskId) (j : ℕ) → j < length q → (drop (suc j) q ++ take j q) ++ (get_or q j idle ∷ []) ≡ turned (j + 1) q
turned_next q j h = append_assoc (drop (suc j) q) (take j q) (get_or q j idle ∷ []) ∙ rw (add-one j, take-suc q j idle h)

pub turned-all : (q : List TaskId) (j : ℕ) → length q ≤ j → turned j q ≡ q
turned-all q j h = rw (drop_of_length-le q h, take_all j q h)

-- the scan has passed the first j entries of CPU p's queue
pub record Turning (t : Tasks) (p : ℕ) (u : Tasks) (head j : ℕ) : Type 0 where
  pub same : u ≡ put_rings t u.ring_slots u.ring_epochs t.small.heads t.small.lens
  pub slots : length u.ring_slots ≡ CPUS * SPAN
  pub tenures : length u.ring_epochs ≡ CPUS * SPAN
  pub headed : head < t.small.n
  pub within : j ≤ len_of t p
  pub queue : queue_at u.ring_slots u.ring_epochs t.small.n (p * SPAN) head (len_of t p) ≡ turned j (queue_of (view t) p)
  pub others : (d : ℕ) → (d ≡ p → ⊥) → queue_at u.ring_slots u.ring_epochs t.small.n (d * SPAN) (head_of t d) (len_of t d) ≡ queue_at t.ring_slots t.ring_epochs t.small.n (d * SPAN) (head_of t d) (len_of t d)
  pub passed : Passed (stealeable (view t)) (queue_of (view t) p) j

module _ (t : Tasks) (p : ℕ) (r : Rep t) (hp : p < CPUS) where
  long : length (queue_of (view t) p) ≡ len_of t p
  long = view-len t p hp

  pub turning_start : Turning t p t (head_of t p) 0
  turning_start =
      record {
        same = refl;
        slots = r.slots;
        tenures = r.tenures;
        headed = (r.rings p hp).head;
        within = omega arith;
        queue = sym (view-queue t p hp) ∙ sym (append-nil (queue_of (view t) p));
        others = λ d ne. refl;
        passed = passed_none (stealeable (view t)) (queue_of (view t) p);
      }

  module _ (u : Tasks) (head j : ℕ) (s : Turning t p u head j) where
    module _ (more : j < len_of t p) where
      inside : j < length (queue_of (view t) p)
      inside = omega (arith, long)

      -- the ring's head, and the rest
      split : queue_at u.ring_slots u.ring_epochs t.small.n (p * SPAN) head (len_of t p) ≡ id_at u.ring_slots u.ring_epochs (p * SPAN + head) ∷ queue_at u.ring_slots u.ring_epochs t.small.n (p * SPAN) (placed t.small.n (head + 1)) (len_of t p - 1)
      split =
          ap (λ l. queue_at u.ring_slots u.ring_epochs t.small.n (p * SPAN) head l) (omega arith)
          ∙ around-pop (id_at u.ring_slots u.ring_epochs) t.small.n (p * SPAN) head (len_of t p - 1) s.headed

      both : id_at u.ring_slots u.ring_epochs (p * SPAN + head) ∷ queue_at u.ring_slots u.ring_epochs t.small.n (p * SPAN) (placed t.small.n (head + 1)) (len_of t p - 1) ≡ get_or (queue_of (view t) p) j idle ∷ (drop (suc j) (queue_of (view t) p) ++ take j (queue_of (view t) p))
      both = sym split ∙ s.queue ∙ turned-head (queue_of (view t) p) j inside

      first : id_at u.ring_slots u.ring_epochs (p * SPAN + head) ≡ get_or (queue_of (view t) p) j idle
      first = let b = both in cc

      rest : queue_at u.ring_slots u.ring_epochs t.small.n (p * SPAN) (placed t.small.n (head + 1)) (len_of t p - 1) ≡ drop (suc j) (queue_of (view t) p) ++ take j (queue_of (view t) p)
      rest = let b = both in cc

      pub turning_entry : (from : ℕ) → from ≡ p * SPAN + placed t.small.n head → id_at u.ring_slots u.ring_epochs from ≡ get_or (queue_of (view t) p) j idle
      turning_entry from e = ap (id_at u.ring_slots u.ring_epochs) (e ∙ ap (λ h. p * SPAN + h) (placed-low t.small.n head s.headed)) ∙ first

      -- the test in memory is the model's
      pub turning_test : (from : ℕ) (b : Bool) → from ≡ p * SPAN + placed t.small.n head
          → b ≡ stealeable_in u.epochs u.marks t.small.n t.small.idles (id_at u.ring_slots u.ring_epochs from) → stealeable (view t) (get_or (queue_of (view t) p) j idle) ≡ b
      turning_test from b e h =
          view-stealeable t r (get_or (queue_of (view t) p) j idle)
          ∙ ap₂ (λ (a k : List ℕ). stealeable_in a k t.small.n t.small.idles (get_or (queue_of (view t) p) j idle)) (sym (ap (λ (x : Tasks). x.epochs) s.same)) (sym (ap (λ (x : Tasks). x.marks) s.same))
          ∙ ap (stealeable_in u.epochs u.marks t.small.n t.small.idles) (sym (turning_entry from e))
          ∙ sym h

      pub turning_pass : (x : TaskId) (from to next : ℕ) → len_of t p < t.small.n → from ≡ p * SPAN + placed t.small.n head → to ≡ p * SPAN + placed t.small.n (head + len_of t p) → next ≡ placed t.small.n (head + 1)
          → x ≡ id_at u.ring_slots u.ring_epochs from → stealeable (view t) (get_or (queue_of (view t) p) j idle) ≡ false
          → Turning t p (put_rings u (set u.ring_slots to x.slot) (set u.ring_epochs to x.epoch) u.small.heads u.small.lens) next (j + 1)
      turning_pass x from to next room ef et en ex not-it =
          let lo = placed_lt t.small.n (head + len_of t p) r.some in
          let ex2 : x ≡ id_at u.ring_slots u.ring_epochs (p * SPAN + head) = ex ∙ ap (id_at u.ring_slots u.ring_epochs) (ef ∙ ap (λ h. p * SPAN + h) (placed-low t.small.n head s.headed)) in
          record {
            same = ap (λ (y : Tasks). put_rings y (set u.ring_slots to x.slot) (set u.ring_epochs to x.epoch) y.small.heads y.small.lens) s.same;
            slots = length-set u.ring_slots to x.slot ∙ s.slots;
            tenures = length-set u.ring_epochs to x.epoch ∙ s.tenures;
            headed = rw en (placed_lt t.small.n (head + 1) r.some);
            within = omega arith;
            queue =
                ap (λ h. queue_at (set u.ring_slots to x.slot) (set u.ring_epochs to x.epoch) t.small.n (p * SPAN) h (len_of t p)) en
                ∙ queue-turn u.ring_slots u.ring_epochs t.small.n (p * SPAN) head (len_of t p) to (len_of t p - 1) x s.headed room (omega arith) (omega (arith, s.slots, r.most)) (omega (arith, s.tenures, r.most)) ex2 et
                ∙ ap₂ (λ (l : List TaskId) (y : TaskId). l ++ (y ∷ [])) rest (ex2 ∙ first)
                ∙ turned_next (queue_of (view t) p) j inside;
            others = λ d ne.
                queue_else u.ring_slots u.ring_epochs t.small.n (d * SPAN) (head_of t d) (len_of t d) to x.slot x.epoch
                (λ k _ z. ne (omega (arith, r.most, lo, placed_lt t.small.n (head_of t d + k) r.some)))
                ∙ s.others d ne;
            passed = passed_more (stealeable (view t)) (queue_of (view t) p) j idle s.passed inside not-it;
          }

    -- the head stored: the queue turned
    module _ where
      done : Tasks
      done = put_rings t u.ring_slots u.ring_epochs (set t.small.heads p head) t.small.lens

      done_else : (d : ℕ) → (d ≡ p → ⊥) → cpu_at done d ≡ cpu_at t d
      unfolding cpu_at done
      done_else d ne =
          ap (λ y. record { queue = y; current = get_or t.small.currents d idle; idle = get_or t.small.idles d idle })
          (ap (λ h. queue_at u.ring_slots u.ring_epochs t.small.n (d * SPAN) h (len_of t d)) (get_or-set_other t.small.heads p d head 0 ne) ∙ s.others d ne)

      done_here : cpu_at done p ≡ set_queue (cpu_at t p) (turned j (queue_of (view t) p))
      unfolding cpu_at done
      done_here =
          ap (λ y. record { queue = y; current = get_or t.small.currents p idle; idle = get_or t.small.idles p idle })
          (ap (λ h. queue_at u.ring_slots u.ring_epochs t.small.n (p * SPAN) h (len_of t p)) (get_or-set_same t.small.heads p head 0 (omega (arith, r.heads))) ∙ s.queue)

      done-view : view done ≡ with_queue (view t) p (turned j (queue_of (view t) p))
      unfolding view done
      done-view =
          store_at t done p hp refl done_else
          ∙ ap (with_cpu (view t) p) done_here
          ∙ ap (λ (k : Cpu). with_cpu (view t) p (set_queue k (turned j (queue_of (view t) p)))) (sym (view-cpu t p hp))

      done-rep : Rep done
      unfolding done
      done-rep =
          rep-rings t _ _ _ _ r s.slots s.tenures (length-set t.small.heads p head ∙ r.heads) r.lens
          (λ d h. (go d h (ℕ_discrete d p), (r.rings d h).len))
        where
          go : (d : ℕ) → d < CPUS → Dec (d ≡ p) → get_or (set t.small.heads p head) d 0 < t.small.n
          go d h (yes e) = rw (e, get_or-set_same t.small.heads p head 0 (omega (arith, r.heads))) s.headed
          go d h (no e) = rw (get_or-set_other t.small.heads p d head 0 e) (r.rings d h).head

      pub turning_end : (k : ℕ) → k ≡ j → j ≡ loot_at (view t) (queue_of (view t) p) → Scans t p (put_rings u u.ring_slots u.ring_epochs (set u.small.heads p head) u.small.lens) k
      unfolding done
      turning_end k e f =
          let same : put_rings u u.ring_slots u.ring_epochs (set u.small.heads p head) u.small.lens ≡ done = ap (λ (y : Tasks). put_rings y u.ring_slots u.ring_epochs (set y.small.heads p head) y.small.lens) s.same in
          rw e
          (record { rep = subst Rep (sym same) done-rep; place = f; within = omega (arith, long, s.within); after = ap view same ∙ done-view })

    pub found_at : j < len_of t p → stealeable (view t) (get_or (queue_of (view t) p) j idle) ≡ true → j ≡ loot_at (view t) (queue_of (view t) p)
    unfolding loot_at
    found_at more h = passed_hit (stealeable (view t)) (queue_of (view t) p) j idle s.passed (omega (arith, long)) h

    pub found_none : len_of t p ≤ j → j ≡ loot_at (view t) (queue_of (view t) p)
    unfolding loot_at
    found_none h = passed_all (stealeable (view t)) (queue_of (view t) p) j s.passed (omega (arith, long))
