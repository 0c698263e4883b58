-- What a try to steal comes to, after the scan: nothing, or the entry found moves with its home.
use mathlib.Core.Path.{◌≡◌, sym, ◌∙◌, ap, ap₂}
use mathlib.Core.Bool.{true, false, ◌&&◌}
use mathlib.Core.List.{List, ◌∷◌, ◌++◌}
use Prim.Native.Nat.{ℕ, ◌+◌, ◌-◌, ◌*◌, ◌%◌, ◌≤◌, ◌<◌}
use native.Mathlib.Nat.{add-zero}
use native.Mathlib.Omega.{arith}
use borrow.Author.Tests.{lt-ltb, le-ltb}
use lib.Dec.{ltb}
use lib.ListN.{length, get_or, take, length-append, length-take, length-drop}
use lib.Seq.{get_or-set_same, get_or-set_other, set-set, set-get_or, drop-cons}
use Rattle.ids.specs.declared.TaskId.{TaskId}
use Rattle.ids.specs.Id.{idle}
use Rattle.runqueue.specs.Ring.{placed}
use Rattle.runqueue.proofs.Places.{placed-low}
use Rattle.model.specs.Model.{Model, Cpu, CPUS, no_cpu, cpu_of, queue_of, with_cpu, with_queue, with_home, set_queue, pushed, started}
use Rattle.model.specs.Switch.{peer_of, loot_at, robbed, stolen, can_steal, stealing}
use Rattle.model.proofs.Facts.{queue-known}
use Rattle.memory.specs.declared.Tasks.{Tasks}
use Rattle.memory.specs.View.{SPAN, head_of, len_of, view, Sound}
use Rattle.memory.proofs.Puts.{put_head, put_home, put_tail}
use Rattle.memory.proofs.ViewLaws.{view_n, view_ncpus, view-len, store_home, rep-home}
use Rattle.memory.proofs.RingStores.{ring_in, head_in, rest_in, view-split, store_head, rep-head, store_tail, rep-tail}
use Rattle.steps.specs.Stealing.{turned, Scans, Pulls}
use Rattle.steps.proofs.Common.{nil_of, lives}
use Rattle.steps.proofs.Scans.{turned-all}

-- a queue stored again, and a queue stored as it is
with_queue_twice : (m : Model) (p : ℕ) (a b : List TaskId) → p < length m.cpus → with_queue (with_queue m p a) p b ≡ with_queue m p b
with_queue_twice m p a b h =
    ap (λ k. with_cpu (with_queue m p a) p (set_queue k b)) (get_or-set_same m.cpus p (set_queue (cpu_of m p) a) no_cpu h)
    ∙ ap (λ l. record { n = m.n; states = m.states; epochs = m.epochs; homes = m.homes; marks = m.marks; cpus = l; parked = m.parked; overwrites = m.overwrites; block_events = m.block_events; peak = m.peak })
    (set-set m.cpus p (set_queue (cpu_of m p) a) (set_queue (cpu_of m p) b))

with_queue-same : (m : Model) (p : ℕ) → with_queue m p (queue_of m p) ≡ m
with_queue-same m p =
    ap (λ l. record { n = m.n; states = m.states; epochs = m.epochs; homes = m.homes; marks = m.marks; cpus = l; parked = m.parked; overwrites = m.overwrites; block_events = m.block_events; peak = m.peak })
    (set-get_or m.cpus p no_cpu)

length-turned : (j : ℕ) (q : List TaskId) → j ≤ length q → length (turned j q) ≡ length q
length-turned j q h = simp (length-append, length-take, length-drop) (omega arith)

module _ (t : Tasks) (c p : ℕ) (w : Sound t) (on : started (view t) ≡ true) (hc : c < CPUS) (empty : len_of t c ≡ 0) (ep : p ≡ (c + 1) % CPUS) (u : Tasks) (j : ℕ) (s : Scans t p u j) where
  m : Model
  m = view t

  q : List TaskId
  q = queue_of (view t) p

  pub peer_in : p < CPUS
  peer_in = omega arith

  apart : c ≡ p → ⊥
  apart e = omega arith

  in_cpus : p < length (view t).cpus
  in_cpus = omega (arith, view_ncpus t, peer_in)

  peer_is : peer_of (view t) c ≡ p
  peer_is = ap (λ k. (c + 1) % k) (view_ncpus t) ∙ sym ep

  pub same-n : u.small.n ≡ t.small.n
  same-n = sym (view_n u) ∙ ap (λ (k : Model). k.n) s.after ∙ view_n t

  -- the lengths of the two queues
  pub peer-len : len_of u p ≡ length (queue_of (view t) p)
  peer-len =
      sym (view-len u p peer_in)
      ∙ ap (λ (k : Model). length (queue_of k p)) s.after
      ∙ ap (λ (k : Cpu). length k.queue) (get_or-set_same (view t).cpus p (set_queue (cpu_of (view t) p) (turned j (queue_of (view t) p))) no_cpu in_cpus)
      ∙ length-turned j (queue_of (view t) p) s.within

  thief-len : len_of u c ≡ 0
  thief-len =
      sym (view-len u c hc)
      ∙ ap (λ (k : Model). length (queue_of k c)) s.after
      ∙ ap (λ (k : Cpu). length k.queue) (get_or-set_other (view t).cpus p c (set_queue (cpu_of (view t) p) (turned j (queue_of (view t) p))) no_cpu apart)
      ∙ view-len t c hc
      ∙ empty

  can : can_steal (view t) c ≡ ltb (loot_at (view t) (queue_of (view t) p)) (length (queue_of (view t) p))
  unfolding can_steal
  can =
      ap₂ (λ a b. a && b && ltb (loot_at (view t) (queue_of (view t) (peer_of (view t) c))) (length (queue_of (view t) (peer_of (view t) c)))) (lt-ltb c (length (view t).cpus) (omega (arith, view_ncpus t))) (nil_of (queue_of (view t) c) (view-len t c hc ∙ empty))
      ∙ ap (λ k. ltb (loot_at (view t) (queue_of (view t) k)) (length (queue_of (view t) k))) peer_is

  pub pull-none : len_of u p ≤ j → Pulls t c u false
  unfolding stealing
  pull-none h =
      let all : length (queue_of (view t) p) ≤ j = omega (arith, peer-len) in
      let z : can_steal (view t) c ≡ false = can ∙ le-ltb (loot_at (view t) (queue_of (view t) p)) (length (queue_of (view t) p)) (omega (arith, s.place)) in
      record {
        rep = s.rep;
        answer = sym z;
        after = s.after ∙ ap (with_queue (view t) p) (turned-all (queue_of (view t) p) j all) ∙ with_queue-same (view t) p ∙ rw z;
      }

  -- an entry was found
  module _ (found : j < len_of u p) where
    inside : j < length (queue_of (view t) p)
    inside = omega (arith, peer-len)

    abbrev x : TaskId
    x = get_or (queue_of (view t) p) j idle

    pub x_slot : (get_or (queue_of (view t) p) j idle).slot < t.small.n
    x_slot = omega (arith, (queue-known (view t) (lives t w on) p j peer_in inside).slot, view_n t)

    split : head_in u p ∷ rest_in u p ≡ get_or (queue_of (view t) p) j idle ∷ robbed j (queue_of (view t) p)
    split =
        sym (view-split u p s.rep peer_in (λ z. omega arith))
        ∙ ap (λ (k : Model). queue_of k p) s.after
        ∙ ap (λ (k : Cpu). k.queue) (get_or-set_same (view t).cpus p (set_queue (cpu_of (view t) p) (turned j (queue_of (view t) p))) no_cpu in_cpus)
        ∙ ap (λ l. l ++ take j (queue_of (view t) p)) (drop-cons (queue_of (view t) p) j idle inside)

    head_is : head_in u p ≡ get_or (queue_of (view t) p) j idle
    head_is = let e = split in cc

    rest_is : rest_in u p ≡ robbed j (queue_of (view t) p)
    rest_is = let e = split in cc

    pub pull-entry : (from : ℕ) → from ≡ p * SPAN + placed u.small.n (head_of u p) → ring_in u from ≡ get_or (queue_of (view t) p) j idle
    pull-entry from e = ap (ring_in u) (e ∙ ap (λ h. p * SPAN + h) (placed-low u.small.n (head_of u p) (s.rep.rings p peer_in).head)) ∙ head_is

    pub pull-done : (id : TaskId) (from to h l d one : ℕ) → from ≡ p * SPAN + placed u.small.n (head_of u p) → to ≡ c * SPAN + placed u.small.n (head_of u c) → h ≡ placed u.small.n (head_of u p + 1) → l ≡ len_of u p - 1 → d ≡ c → one ≡ 1 → id ≡ ring_in u from
        → Pulls t c (put_tail (put_home (put_head u p h l) id.slot d) c to one id) true
    unfolding stealing stolen
    pull-done id from to h l d one ef et eh el ed eo ei =
        let name : id ≡ get_or (queue_of (view t) p) j idle = ei ∙ pull-entry from ef in
        let a = put_head u p h l in
        let b = put_home a id.slot d in
        let ra = rep-head u p h l s.rep peer_in eh el in
        let rb = rep-home a id.slot ra d in
        let lc : len_of b c ≡ 0 = get_or-set_other u.small.lens p c l 0 apart ∙ thief-len in
        let hd : head_of b c ≡ head_of u c = get_or-set_other u.small.heads p c h 0 apart in
        let free : len_of b c < b.small.n = omega (arith, s.rep.some) in
        let pt : to ≡ c * SPAN + placed b.small.n (head_of b c + len_of b c) = et ∙ ap (λ k. c * SPAN + placed u.small.n k) (sym (add-zero (head_of u c)) ∙ ap₂ (λ a b. a + b) (sym hd) (sym lc)) in
        let po : one ≡ len_of b c + 1 = omega arith in
        let va : view a ≡ with_queue (view t) p (robbed j (queue_of (view t) p)) =
        store_head u p h l s.rep peer_in eh el
        ∙ ap₂ (λ k r. with_queue k p r) s.after rest_is
        ∙ with_queue_twice (view t) p (turned j (queue_of (view t) p)) (robbed j (queue_of (view t) p)) in_cpus in
        let near : id.slot < a.small.n = omega (arith, x_slot, same-n, ap (λ (k : TaskId). k.slot) name) in
        let vb : view b ≡ with_home (with_queue (view t) p (robbed j (queue_of (view t) p))) id.slot d = store_home a id.slot near d ∙ ap (λ k. with_home k id.slot d) va in
        let z : can_steal (view t) c ≡ true = can ∙ lt-ltb (loot_at (view t) (queue_of (view t) p)) (length (queue_of (view t) p)) (omega (arith, s.place, inside)) in
        record {
          rep = rep-tail b c to one id rb hc free pt po;
          answer = sym z;
          after =
              store_tail b c to one id rb hc free pt po
              ∙ ap (λ k. pushed k c id) vb
              ∙ ap₂ (λ (e : ℕ) (y : TaskId). pushed (with_home (with_queue (view t) p (robbed j (queue_of (view t) p))) y.slot e) c y) ed name
              ∙ rw (z, peer_is, ← s.place);
        }
