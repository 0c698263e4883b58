-- A switch in the code's own terms: which kinds an arm has, and `n` and the leaver as they were read at the start.
use Rattle.std.specs.Prelude.{Some, None}
use Rattle.std.proofs.Common.{◌≡◌, ℕ, ◌+◌, ◌-◌, ◌*◌, ◌%◌, ◌^◌, ◌<◌, Bool, true, false, get_or, sym, refl, ap, ◌∙◌, ◌⊎◌, ⊎_elim, arith}
use Rattle.ids.specs.declared.TaskId.{TaskId}
use Rattle.ids.specs.Id.{same_id, idle}
use Rattle.answers.specs.Reply.{stays, switched}
use Rattle.answers.specs.Contract.{Does}
use Rattle.runqueue.specs.Ring.{placed}
use Rattle.model.specs.Model.{Model, CPUS, MOST, EMPTY, READY, RUNNING, BLOCKED, current_of, with_state, pushed, capped}
use Rattle.model.specs.Switch.{Kind, block, exit, leaves, switch_step}
use Rattle.memory.specs.declared.Tasks.{Tasks}
use Rattle.memory.specs.View.{SPAN, head_of, len_of, view, table}
use Rattle.memory.proofs.Puts.{put_state, put_epoch, put_tail, put_head, put_current, put_rest}
use Rattle.memory.proofs.RingStores.{ring_in}
use Rattle.steps.specs.Switching.{Begun, Going, Ready, Left}
use Rattle.steps.proofs.Turns.{from-slot, ring-room, left-tail, left-block, left-exit, head-slot, head-entry, len-left}
use Rattle.steps.proofs.Decides.{ready-n, ready-current, going, decide_stay, decide_switch, decide_over, decide_first}
use Rattle.switch.specs.Decisions.{kind_of}
use Rattle.switch.specs.declared.Kind as kind
use Rattle.switch.specs.declared.Kind.TheVariants as kind-of

-- WHICH KINDS AN ARM HAS

pub to-tail : (k : kind.Kind) → (k ≡ kind-of.Yield) ⊎ (k ≡ kind-of.Preempt) → (m : Model) (c : ℕ) → leaves m c (kind_of k) ≡ pushed (with_state m (current_of m c).slot READY) c (current_of m c)
unfolding leaves
to-tail k h m c = ⊎_elim (λ e. rw e refl) (λ e. rw e refl) h

pub no_exit : (k : kind.Kind) → (k ≡ kind-of.Exit → ⊥) → kind_of k ≡ exit → ⊥
no_exit kind-of.Yield h e = let z : ◌≡◌ {A = ℕ} 0 1 = cc in omega arith
no_exit kind-of.Preempt h e = let z : ◌≡◌ {A = ℕ} 0 1 = cc in omega arith
no_exit kind-of.Block h e = let z : ◌≡◌ {A = ℕ} 0 1 = cc in omega arith
no_exit kind-of.Exit h e = h refl

-- the head's entry x was read, and these are the stores that make it run
pub record Entered (t v : Tasks) (c : ℕ) (x : TaskId) (s h n : ℕ) : Type 0 where
  pub at : ℕ
  pub at_is : at ≡ c * SPAN + placed t.small.n (head_of v c)
  pub entry : x ≡ ring_in v at
  pub state : s ≡ RUNNING
  pub head : h ≡ placed t.small.n (head_of v c + 1)
  pub len : n ≡ len_of v c - 1

-- LEAVING

module _ {u : Tasks} {c : ℕ} {k : Kind} (low : c < CPUS) (g : Going u c k) where
  pub from_low : (get_or u.small.currents c idle).slot < MOST
  from_low = omega (arith, from-slot u c k low g, g.rep.most)

  pub tail-low : head_of u c + len_of u c < u.small.n + u.small.n
  tail-low = omega (arith, ring-room u c k low g, (g.rep.rings c low).head)

  pub goes-tail : ((m : Model) → leaves m c k ≡ pushed (with_state m (current_of m c).slot READY) c (current_of m c)) → (i : ℕ)
      → i ≡ c * SPAN + placed u.small.n (head_of u c + len_of u c)
      → Left u c k (put_tail (put_state u (get_or u.small.currents c idle).slot READY) c i (len_of u c + 1) (get_or u.small.currents c idle))
  goes-tail how i ei = let p = left-tail u c k low g READY i (len_of u c + 1) refl ei refl in record { rep = p.0; size = refl; after = p.1 ∙ sym (how (view u)) }

  pub goes-blocked : k ≡ block → (n : ℕ) → n ≡ capped u.small.block_events
      → Left u c k (put_rest (put_state u (get_or u.small.currents c idle).slot BLOCKED) u.small.parked u.small.parked_id u.small.overwrites n u.small.peak)
  goes-blocked how n en = let p = left-block u c k low g BLOCKED n refl en in record { rep = p.0; size = refl; after = p.1 ∙ ap (λ (j : Kind). leaves (view u) c j) (sym how) }

  pub goes-out : k ≡ exit → (x : ℕ) → x ≡ (get_or u.epochs (get_or u.small.currents c idle).slot 0 + 1) % 2 ^ 16
      → Left u c k (put_epoch (put_state u (get_or u.small.currents c idle).slot EMPTY) (get_or u.small.currents c idle).slot x)
  goes-out how x ex = let p = left-exit u c k low g EMPTY x refl ex in record { rep = p.0; size = refl; after = p.1 ∙ ap (λ (j : Kind). leaves (view u) c j) (sym how) }

module _ {t : Tasks} {c : ℕ} {k : Kind} {u : Tasks} (b : Begun t c) (r : Ready t c k u) where
  g : Going u c k
  g = going t c k b.sound b.on b.low b.up u r

  size : u.small.n ≡ t.small.n
  size = ready-n t c k b.sound b.on b.low b.up u r

  cur : get_or u.small.currents c idle ≡ get_or t.small.currents c idle
  cur = ready-current t c k b.sound b.on b.low b.up u r

  -- THE HEAD

  module _ {v : Tasks} (l : Left u c k v) where
    sized : v.small.n ≡ t.small.n
    sized = l.size ∙ size

    pub head-low : head_of v c < t.small.n
    head-low = omega (arith, (l.rep.rings c b.low).head, sized)

    pub some-queued : 0 < len_of v c
    some-queued = len-left u c k b.low g v l

    here : (at : ℕ) → at ≡ c * SPAN + placed t.small.n (head_of v c) → at ≡ c * SPAN + placed v.small.n (head_of v c)
    here at e = e ∙ ap (λ (n : ℕ). c * SPAN + placed n (head_of v c)) (sym sized)

    pub entry-low : (at : ℕ) → at ≡ c * SPAN + placed t.small.n (head_of v c) → (ring_in v at).slot < MOST
    entry-low at e = omega (arith, head-slot u c k b.low g v l, ap (λ (y : TaskId). y.slot) (head-entry u c k b.low g v l at (here at e)), l.rep.most)

    module _ {x : TaskId} {s h n : ℕ} (d : Entered t v c x s h n) where
      is_at : d.at ≡ c * SPAN + placed v.small.n (head_of v c)
      is_at = here d.at d.at_is

      next : h ≡ placed v.small.n (head_of v c + 1)
      next = d.head ∙ ap (λ (m : ℕ). placed m (head_of v c + 1)) (sym sized)

      told : (a : Bool) → same_id x (get_or t.small.currents c idle) ≡ a → same_id x (get_or u.small.currents c idle) ≡ a
      told a e = ap (same_id x) cur ∙ e

      pub stays_on : same_id x (get_or t.small.currents c idle) ≡ true → Does table t (put_current (put_head (put_state v x.slot s) c h n) c x) stays (switch_step (view t) c k)
      stays_on e = decide_stay t c k b.sound b.on b.low b.up u r v l x d.at s h n is_at d.entry d.state next d.len (told true e)

      module _ (other : same_id x (get_or t.small.currents c idle) ≡ false) where
        pub goes_on : (k ≡ exit → ⊥) → Does table t (put_current (put_head (put_state v x.slot s) c h n) c x) (switched (get_or t.small.currents c idle) x None) (switch_step (view t) c k)
        goes_on e = decide_switch t c k b.sound b.on b.low b.up u r v l x d.at s h n is_at d.entry d.state next d.len (get_or t.small.currents c idle) (sym cur) (told false other) e

        pub parks_over : k ≡ exit → (a : ℕ) → a ≡ 1 → (v.small.parked ≡ 0 → ⊥) → (o : ℕ) → o ≡ capped v.small.overwrites
            → Does table t (put_rest (put_current (put_head (put_state v x.slot s) c h n) c x) a (get_or t.small.currents c idle) o v.small.block_events v.small.peak) (switched (get_or t.small.currents c idle) x (Some v.small.parked_id)) (switch_step (view t) c k)
        parks_over e a y = decide_over t c k b.sound b.on b.low b.up u r v l x d.at s h n is_at d.entry d.state next d.len (get_or t.small.currents c idle) (sym cur) (told false other) e a y

        pub parks-first : k ≡ exit → (a : ℕ) → a ≡ 1 → v.small.parked ≡ 0
            → Does table t (put_rest (put_current (put_head (put_state v x.slot s) c h n) c x) a (get_or t.small.currents c idle) v.small.overwrites v.small.block_events v.small.peak) (switched (get_or t.small.currents c idle) x None) (switch_step (view t) c k)
        parks-first e a y = decide_first t c k b.sound b.on b.low b.up u r v l x d.at s h n is_at d.entry d.state next d.len (get_or t.small.currents c idle) (sym cur) (told false other) e a y
