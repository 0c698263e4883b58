-- The stores of a turn: the current task leaves, the head of the queue runs, a leaver that ended is parked.
use Rattle.std.specs.Prelude.{Some, None}
use mathlib.Core.Path.{◌≡◌, refl, sym, ◌∙◌, ap, ap₂, subst}
use mathlib.Core.Bool.{true, false, cond}
use mathlib.Core.List.{List, [], ◌∷◌}
use Prim.Native.Nat.{ℕ, ◌+◌, ◌-◌, ◌*◌, ◌%◌, ◌^◌, ◌<◌}
use native.Mathlib.Omega.{arith}
use lib.ListN.{length, get_or}
use lib.Seq.{get_or-set_same, set-set}
use Rattle.lists.specs.Flags.{is_set}
use Rattle.ids.specs.declared.TaskId.{TaskId}
use Rattle.ids.specs.Id.{same_id, idle}
use Rattle.answers.specs.Reply.{stays, switched}
use Rattle.runqueue.specs.Ring.{placed}
use Rattle.runqueue.proofs.Places.{placed-low}
use Rattle.model.specs.Model.{Model, Cpu, CPUS, EMPTY, READY, RUNNING, BLOCKED, no_cpu, cpu_of, queue_of, current_of, idle_of, epoch_of, with_state, with_epoch, with_cpu, with_queue, set_queue, pushed, rest_to, capped, bump, cpus_to}
use Rattle.model.specs.Switch.{Kind, block, exit, leaves, enters, released, parks, chooses, turn}
use Rattle.model.specs.Sound as plain
use Rattle.model.proofs.Counting.{known-head, room}
use Rattle.model.proofs.Facts.{on_facts}
use Rattle.model.proofs.Turns.{leaves_core, queue-left}
use Rattle.memory.specs.declared.Tasks.{Tasks}
use Rattle.memory.specs.View.{SPAN, head_of, len_of, view, Rep}
use Rattle.memory.proofs.Puts.{put_state, put_epoch, put_tail, put_head, put_current, put_rest}
use Rattle.memory.proofs.ViewLaws.{view_n, view_ncpus, view-current, view-epoch, view-len, view-parked, view-overwrites, view-events, view-peak, store_state, store_epoch, store_current, store_rest, rep-state, rep-epoch, rep-current, rep-rest}
use Rattle.memory.proofs.RingStores.{ring_in, head_in, rest_in, view-split, store_tail, rep-tail, store_head, rep-head}
use Rattle.steps.specs.Switching.{Going, Left}

chooses-same : (m : Model) (c : ℕ) (k : Kind) (f x : TaskId) (l : List TaskId) → same_id x f ≡ true → chooses m c k f (x ∷ l) ≡ record { reply = stays; after = enters m c x l }
unfolding chooses
chooses-same m c k f x l t = rw t

chooses-other : (m : Model) (c : ℕ) (k : Kind) (f x : TaskId) (l : List TaskId) → same_id x f ≡ false → chooses m c k f (x ∷ l) ≡ record { reply = switched f x (released m k); after = parks (enters m c x l) k f }
unfolding chooses
chooses-other m c k f x l t = rw t

module _ (u : Tasks) (c : ℕ) (k : Kind) (hc : c < CPUS) (g : Going u c k) where
  abbrev from : TaskId
  from = get_or u.small.currents c idle

  cur : current_of (view u) c ≡ get_or u.small.currents c idle
  cur = view-current u c hc

  pub from-slot : (get_or u.small.currents c idle).slot < u.small.n
  from-slot = omega (arith, (on_facts (view u) g.live c hc g.on).current.slot, view_n u, ap (λ (x : TaskId). x.slot) cur)

  pub ring-room : len_of u c < u.small.n
  ring-room = omega (arith, room (view u) g.shape g.live c hc, view-len u c hc, view_n u)

  -- LEAVING

  pub left-tail : (v i l : ℕ) → v ≡ READY → i ≡ c * SPAN + placed u.small.n (head_of u c + len_of u c) → l ≡ len_of u c + 1
      → let w = put_tail (put_state u (get_or u.small.currents c idle).slot v) c i l (get_or u.small.currents c idle) in
      Rep w × (view w ≡ pushed (with_state (view u) (current_of (view u) c).slot READY) c (current_of (view u) c))
  left-tail v i l e p q =
      let f = get_or u.small.currents c idle in
      let a = put_state u f.slot v in
      let ra = rep-state u f.slot g.rep v in (
        rep-tail a c i l f ra hc ring-room p q,
        store_tail a c i l f ra hc ring-room p q
            ∙ ap (λ m. pushed m c f) (store_state u f.slot from-slot v)
            ∙ ap₂ (λ (x : TaskId) (s : ℕ). pushed (with_state (view u) x.slot s) c x) (sym cur) e,
      )

  pub left-block : (v b : ℕ) → v ≡ BLOCKED → b ≡ capped u.small.block_events
      → let w = put_rest (put_state u (get_or u.small.currents c idle).slot v) u.small.parked u.small.parked_id u.small.overwrites b u.small.peak in
      Rep w × (view w ≡ leaves (view u) c block)
  unfolding leaves
  left-block v b e h =
      let f = get_or u.small.currents c idle in
      let a = put_state u f.slot v in (
        rep-rest a u.small.parked u.small.parked_id u.small.overwrites b u.small.peak g.rep.flag (rep-state u f.slot g.rep v),
        store_rest a u.small.parked u.small.parked_id u.small.overwrites b u.small.peak
            ∙ ap₂ (λ (m : Model) (x : ℕ). rest_to m (cond (is_set u.small.parked) (Some u.small.parked_id) None) u.small.overwrites x u.small.peak) (store_state u f.slot from-slot v) (h ∙ ap capped (sym (view-events u)))
            ∙ ap₂ (λ (x : TaskId) (s : ℕ). rest_to (with_state (view u) x.slot s) (cond (is_set u.small.parked) (Some u.small.parked_id) None) u.small.overwrites (capped (view u).block_events) u.small.peak) (sym cur) e
            ∙ ap (λ p. rest_to (with_state (view u) (current_of (view u) c).slot BLOCKED) p u.small.overwrites (capped (view u).block_events) u.small.peak) (sym (view-parked u))
            ∙ ap₂ (λ o y. rest_to (with_state (view u) (current_of (view u) c).slot BLOCKED) (view u).parked o (capped (view u).block_events) y) (sym (view-overwrites u)) (sym (view-peak u)),
      )

  pub left-exit : (v x : ℕ) → v ≡ EMPTY → x ≡ (get_or u.epochs (get_or u.small.currents c idle).slot 0 + 1) % 2 ^ 16
      → let w = put_epoch (put_state u (get_or u.small.currents c idle).slot v) (get_or u.small.currents c idle).slot x in
      Rep w × (view w ≡ leaves (view u) c exit)
  unfolding leaves
  left-exit v x e h =
      let f = get_or u.small.currents c idle in
      let a = put_state u f.slot v in (
        rep-epoch a f.slot (rep-state u f.slot g.rep v) x,
        store_epoch a f.slot from-slot x
            ∙ ap₂ (λ (m : Model) (y : ℕ). with_epoch m f.slot y) (store_state u f.slot from-slot v) (h ∙ ap bump (sym (view-epoch u f.slot from-slot)))
            ∙ ap₂ (λ (y : TaskId) (s : ℕ). with_epoch (with_state (view u) y.slot s) y.slot (bump (epoch_of (view u) y.slot))) (sym cur) e,
      )

  -- THE HEAD

  module _ (v : Tasks) (l : Left u c k v) where
    some_left : len_of v c ≡ 0 → ⊥
    some_left z =
        queue-left (view u) g.shape g.live c hc g.on k g.may
        (sym (ap (λ (m : Model). queue_of m c) l.after) ∙ None (queue_of (view v) c) (view-len v c hc ∙ z))
      where
        None : (q : List TaskId) → length q ≡ 0 → q ≡ []
        None [] h = refl
        None (x ∷ q) h = absurd (omega arith)

    split : queue_of (leaves (view u) c k) c ≡ head_in v c ∷ rest_in v c
    split = sym (ap (λ (m : Model). queue_of m c) l.after) ∙ view-split v c l.rep hc some_left

    pub head-slot : (head_in v c).slot < v.small.n
    head-slot =
        let core = leaves_core (view u) g.shape g.live c hc g.on k g.may in
        let known = known-head (leaves (view u) c k) (head_in v c) (rest_in v c) (subst (λ q. plain.AllKnown (leaves (view u) c k) q) split (core.cpus c hc).entries) in
        omega (arith, known.slot, ap (λ (m : Model). m.n) l.after, view_n v)

    pub len-left : 0 < len_of v c
    len-left = pos (len_of v c) some_left
      where
        pos : (n : ℕ) → (n ≡ 0 → ⊥) → 0 < n
        pos n h = omega arith

    pub head-entry : (at : ℕ) → at ≡ c * SPAN + placed v.small.n (head_of v c) → ring_in v at ≡ head_in v c
    head-entry at e = ap (ring_in v) (e ∙ ap (λ h. c * SPAN + h) (placed-low v.small.n (head_of v c) (l.rep.rings c hc).head))

    -- the head's stores
    module _ (x : TaskId) (at s h n : ℕ) (ea : at ≡ c * SPAN + placed v.small.n (head_of v c)) (ex : x ≡ ring_in v at) (es : s ≡ RUNNING) (eh : h ≡ placed v.small.n (head_of v c + 1)) (en : n ≡ len_of v c - 1) where
      w : Tasks
      w = put_current (put_head (put_state v x.slot s) c h n) c x

      is_head : x ≡ head_in v c
      is_head = ex ∙ head-entry at ea

      near : x.slot < v.small.n
      near = omega (arith, head-slot, ap (λ (y : TaskId). y.slot) is_head)

      ra : Rep (put_state v x.slot s)
      ra = rep-state v x.slot l.rep s

      rb : Rep (put_head (put_state v x.slot s) c h n)
      rb = rep-head (put_state v x.slot s) c h n ra hc eh en

      pub enter_rep : Rep (put_current (put_head (put_state v x.slot s) c h n) c x)
      enter_rep = rep-current (put_head (put_state v x.slot s) c h n) c rb hc x

      in_cpus : c < length (view v).cpus
      in_cpus = omega (arith, view_ncpus v)

      pub enter_view : view (put_current (put_head (put_state v x.slot s) c h n) c x) ≡ enters (leaves (view u) c k) c x (rest_in v c)
      unfolding enters
      enter_view =
          let m = with_state (view v) x.slot s in
          let b = put_head (put_state v x.slot s) c h n in
          let vb : view b ≡ with_queue m c (rest_in v c) = store_head (put_state v x.slot s) c h n ra hc eh en ∙ ap (λ k. with_queue k c (rest_in v c)) (store_state v x.slot near s) in
          store_current b c rb hc x
          ∙ ap (λ (k : Model). with_cpu k c (record { queue = queue_of k c; current = x; idle = idle_of k c })) vb
          ∙ ap (λ (k : Cpu). with_cpu (with_queue m c (rest_in v c)) c (record { queue = k.queue; current = x; idle = k.idle })) (get_or-set_same (view v).cpus c (set_queue (cpu_of (view v) c) (rest_in v c)) no_cpu in_cpus)
          ∙ ap (cpus_to m) (set-set (view v).cpus c (set_queue (cpu_of (view v) c) (rest_in v c)) (record { queue = rest_in v c; current = x; idle = idle_of (view v) c }))
          ∙ ap₂ (λ (k : Model) (y : ℕ). with_cpu (with_state k x.slot y) c (record { queue = rest_in v c; current = x; idle = idle_of k c })) l.after es

      -- what the model chooses
      line : queue_of (leaves (view u) c k) c ≡ x ∷ rest_in v c
      line = split ∙ ap (λ y. y ∷ rest_in v c) (sym is_head)

      pub turn-same : same_id x (get_or u.small.currents c idle) ≡ true → turn (view u) c k ≡ record { reply = stays; after = enters (leaves (view u) c k) c x (rest_in v c) }
      unfolding turn
      turn-same t = ap₂ (λ f q. chooses (leaves (view u) c k) c k f q) cur line ∙ chooses-same (leaves (view u) c k) c k (get_or u.small.currents c idle) x (rest_in v c) t

      pub turn-other : same_id x (get_or u.small.currents c idle) ≡ false → turn (view u) c k ≡ record { reply = switched (get_or u.small.currents c idle) x (released (leaves (view u) c k) k); after = parks (enters (leaves (view u) c k) c x (rest_in v c)) k (get_or u.small.currents c idle) }
      unfolding turn
      turn-other t = ap₂ (λ f q. chooses (leaves (view u) c k) c k f q) cur line ∙ chooses-other (leaves (view u) c k) c k (get_or u.small.currents c idle) x (rest_in v c) t
