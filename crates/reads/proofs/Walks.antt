-- The walk of `can_steal_into` over the peer's queue.
use mathlib.Core.Path.{◌≡◌, sym, ◌∙◌, ap, ap₂}
use mathlib.Core.Bool.{Bool, true, false, ◌&&◌}
use Prim.Native.Nat.{ℕ, ◌+◌, ◌*◌, ◌%◌, ◌≤◌, ◌<◌}
use native.Mathlib.Omega.{arith}
use borrow.Author.Tests.{lt-ltb, le-ltb}
use lib.Dec.{ltb}
use lib.ListN.{length, get_or}
use Rattle.lists.proofs.TabLaws.{get_or-tab}
use Rattle.lists.proofs.SearchLaws.{Passed, passed_none, passed_more, passed_hit, passed_all}
use Rattle.ids.specs.Id.{idle}
use Rattle.answers.specs.Reply.{told}
use Rattle.answers.specs.Contract.{Reads}
use Rattle.answers.proofs.Returns.{reads}
use Rattle.runqueue.specs.Ring.{placed, around, id_at}
use Rattle.model.specs.Model.{CPUS, queue_of}
use Rattle.model.specs.Switch.{peer_of, loot_at, stealeable, can_steal}
use Rattle.model.specs.Reads.{can_steal_reply}
use Rattle.memory.specs.declared.Tasks.{Tasks}
use Rattle.memory.specs.View.{SPAN, head_of, len_of, view, Sound, table}
use Rattle.memory.specs.Parts.{stealeable_in}
use Rattle.memory.proofs.ViewLaws.{view_ncpus, view-len}
use Rattle.memory.proofs.RingStores.{view-queue}
use Rattle.memory.proofs.PartLaws.{view-stealeable}
use Rattle.steps.proofs.Common.{nil_of}
use Rattle.steps.proofs.Tries.{can_above, can_busy}

-- the first j entries may not be stolen
abbrev pub Walked : Tasks → ℕ → ℕ → Type 0
Walked t p j = Passed (stealeable (view t)) (queue_of (view t) p) j

module _ (t : Tasks) (w : Sound t) (c : ℕ) where
  says : (b : Bool) → b ≡ can_steal (view t) c → Reads table t (told b) (can_steal_reply (view t) c)
  says b e = reads table t (told b) (can_steal_reply (view t) c) w (λ e. let z : ◌≡◌ {A = ℕ} 0 1 = cc in omega arith) (ap told e)

  pub far : CPUS ≤ c → Reads table t (told false) (can_steal_reply (view t) c)
  far h = says false (sym (can_above t c h))

  module _ (hc : c < CPUS) where
    pub busy : (len_of t c ≡ 0 → ⊥) → Reads table t (told false) (can_steal_reply (view t) c)
    busy h = says false (sym (can_busy t c hc h))

    module _ (empty : len_of t c ≡ 0) (p : ℕ) (ep : p ≡ (c + 1) % CPUS) where
      pub peer_in : p < CPUS
      peer_in = omega arith

      by_loot : can_steal (view t) c ≡ ltb (loot_at (view t) (queue_of (view t) p)) (len_of t p)
      unfolding can_steal
      by_loot =
          ap₂ (λ a b. a && b && ltb (loot_at (view t) (queue_of (view t) (peer_of (view t) c))) (length (queue_of (view t) (peer_of (view t) c)))) (lt-ltb c (length (view t).cpus) (omega (arith, view_ncpus t))) (nil_of (queue_of (view t) c) (view-len t c hc ∙ empty))
          ∙ ap (λ k. ltb (loot_at (view t) (queue_of (view t) k)) (length (queue_of (view t) k))) (ap (λ k. (c + 1) % k) (view_ncpus t) ∙ sym ep)
          ∙ ap (λ l. ltb (loot_at (view t) (queue_of (view t) p)) l) (view-len t p peer_in)

      pub walk_start : Walked t p 0
      walk_start = passed_none (stealeable (view t)) (queue_of (view t) p)

      entry : (at j : ℕ) → j < len_of t p → at ≡ p * SPAN + placed t.small.n (head_of t p + j) → id_at t.ring_slots t.ring_epochs at ≡ get_or (queue_of (view t) p) j idle
      unfolding around
      entry at j h e =
          ap (id_at t.ring_slots t.ring_epochs) e
          ∙ sym (ap (λ q. get_or q j idle) (view-queue t p peer_in) ∙ get_or-tab (len_of t p) (λ i. id_at t.ring_slots t.ring_epochs (p * SPAN + placed t.small.n (head_of t p + i))) j idle h)

      module _ (at j : ℕ) (l : Walked t p j) (h : j < len_of t p) (e : at ≡ p * SPAN + placed t.small.n (head_of t p + j)) where
        inside : j < length (queue_of (view t) p)
        inside = omega (arith, view-len t p peer_in)

        test : (b : Bool) → stealeable_in t.epochs t.marks t.small.n t.small.idles (id_at t.ring_slots t.ring_epochs at) ≡ b → stealeable (view t) (get_or (queue_of (view t) p) j idle) ≡ b
        test b s = ap (stealeable (view t)) (sym (entry at j h e)) ∙ view-stealeable t w.rep (id_at t.ring_slots t.ring_epochs at) ∙ s

        pub walk-on : stealeable_in t.epochs t.marks t.small.n t.small.idles (id_at t.ring_slots t.ring_epochs at) ≡ false → Walked t p (j + 1)
        walk-on s = passed_more (stealeable (view t)) (queue_of (view t) p) j idle l inside (test false s)

        pub walk_found : stealeable_in t.epochs t.marks t.small.n t.small.idles (id_at t.ring_slots t.ring_epochs at) ≡ true → Reads table t (told true) (can_steal_reply (view t) c)
        unfolding loot_at
        walk_found s =
            let k = passed_hit (stealeable (view t)) (queue_of (view t) p) j idle l inside (test true s) in
            says true (sym (by_loot ∙ lt-ltb (loot_at (view t) (queue_of (view t) p)) (len_of t p) (omega (arith, k))))

      pub walk_none : (j : ℕ) → Walked t p j → len_of t p ≤ j → Reads table t (told false) (can_steal_reply (view t) c)
      unfolding loot_at
      walk_none j l h =
          let k = passed_all (stealeable (view t)) (queue_of (view t) p) j l (omega (arith, view-len t p peer_in)) in
          says false (sym (by_loot ∙ le-ltb (loot_at (view t) (queue_of (view t) p)) (len_of t p) (omega (arith, k))))
