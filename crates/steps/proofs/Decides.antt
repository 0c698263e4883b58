-- The returns of a switch that takes a turn.
use Rattle.std.specs.Prelude.{Some, None}
use mathlib.Core.Path.{◌≡◌, refl, sym, ◌∙◌, ap, ap₂, subst}
use mathlib.Core.Bool.{true, false, ◌&&◌, not, cond}
use Prim.Native.Nat.{ℕ, ◌+◌, ◌-◌, ◌*◌, ◌<◌}
use native.Mathlib.Omega.{arith}
use lib.ListN.{get_or}
use Rattle.lists.specs.Flags.{is_set}
use Rattle.lists.proofs.FlagLaws.{set-off, set_on}
use Rattle.ids.specs.declared.TaskId.{TaskId}
use Rattle.ids.specs.Id.{same_id, idle}
use Rattle.answers.specs.Reply.{Reply, stays, switched, Refused}
use Rattle.answers.specs.Contract.{Step, Does}
use Rattle.runqueue.specs.Ring.{placed}
use Rattle.model.specs.Model.{Model, CPUS, RUNNING, queue_of, current_of, started_on, rest_to, capped}
use Rattle.model.specs.Switch.{Kind, yield, preempt, block, exit, is_yield, idles, leaves, enters, released, displaced, parks, turn, pulls, switch_step, is_nil, can_steal, stealing, stolen}
use Rattle.model.specs.Sound as plain
use Rattle.model.proofs.Facts.{by_test}
use Rattle.model.proofs.Steals.{pulls-current, pulls-live}
use Rattle.model.proofs.Switches.{pulls-on, pulls-idles, switch-sound}
use Rattle.memory.specs.declared.Tasks.{Tasks}
use Rattle.memory.specs.View.{SPAN, head_of, len_of, view, Rep, Sound, table}
use Rattle.memory.proofs.Puts.{put_state, put_head, put_current, put_rest}
use Rattle.memory.proofs.ViewLaws.{view_n, view-current, view-parked, view-overwrites, view-events, view-peak, store_rest, rep-rest}
use Rattle.memory.proofs.RingStores.{ring_in, rest_in}
use Rattle.steps.specs.Switching.{Going, Ready, Left}
use Rattle.steps.proofs.Common.{is-on, lives, ends}
use Rattle.steps.proofs.Switches.{switches, switched-turn}
use Rattle.steps.proofs.Turns.{enter_rep, enter_view, turn-same, turn-other}

-- a pull keeps the size
pulls-n : (m : Model) (c : ℕ) → (pulls m c).n ≡ m.n
unfolding pulls stealing stolen
pulls-n m c = by_test (λ (w : Model). w.n ≡ m.n) (idles m c && is_nil (queue_of m c)) _ _ (λ _. by_test (λ (w : Model). w.n ≡ m.n) (can_steal m c) _ _ (λ _. refl) (λ _. refl)) (λ _. refl)

-- only an exit parks
released-none : (m : Model) (k : Kind) → (k ≡ exit → ⊥) → released m k ≡ None
released-none m yield h = refl
released-none m preempt h = refl
released-none m block h = refl
released-none m exit h = absurd (h refl)

parks-none : (m : Model) (k : Kind) (id : TaskId) → (k ≡ exit → ⊥) → parks m k id ≡ m
unfolding parks
parks-none m yield id h = refl
parks-none m preempt id h = refl
parks-none m block id h = refl
parks-none m exit id h = absurd (h refl)

-- the parking, in memory
module _ (e : Tasks) (m : Model) (is : view e ≡ m) (b : ℕ) (f : TaskId) (yes-b : b ≡ 1) where
  parked_is : m.parked ≡ cond (is_set e.small.parked) (Some e.small.parked_id) None
  parked_is = ap (λ (k : Model). k.parked) (sym is) ∙ view-parked e

  park_view : (o : ℕ) → o ≡ displaced m.parked m.overwrites → view (put_rest e b f o e.small.block_events e.small.peak) ≡ parks m exit f
  unfolding parks
  park_view o h =
      store_rest e b f o e.small.block_events e.small.peak
      ∙ ap₂ (λ (k : Model) (c : ℕ). rest_to k (cond (is_set c) (Some f) None) o e.small.block_events e.small.peak) is yes-b
      ∙ ap₂ (λ (x y : ℕ). rest_to m (Some f) o x y) (sym (view-events e) ∙ ap (λ (k : Model). k.block_events) is) (sym (view-peak e) ∙ ap (λ (k : Model). k.peak) is)
      ∙ ap (λ (x : ℕ). rest_to m (Some f) x m.block_events m.peak) h

  pub park_over : (e.small.parked ≡ 0 → ⊥) → (o : ℕ) → o ≡ capped e.small.overwrites → view (put_rest e b f o e.small.block_events e.small.peak) ≡ parks m exit f
  park_over was o h =
      let p : m.parked ≡ Some e.small.parked_id = parked_is ∙ rw (set_on e.small.parked was) in
      park_view o (h ∙ ap capped (sym (view-overwrites e) ∙ ap (λ (k : Model). k.overwrites) is) ∙ ap (λ p. displaced p m.overwrites) (sym p))

  pub park_first : e.small.parked ≡ 0 → view (put_rest e b f e.small.overwrites e.small.block_events e.small.peak) ≡ parks m exit f
  park_first was =
      let p : m.parked ≡ None = parked_is ∙ rw (set-off e.small.parked was) in
      park_view e.small.overwrites (sym (view-overwrites e) ∙ ap (λ (k : Model). k.overwrites) is ∙ ap (λ p. displaced p m.overwrites) (sym p))

module _ (t : Tasks) (c : ℕ) (k : Kind) (w : Sound t) (on : get_or t.states 0 0 ≡ 0 → ⊥) (hc : c < CPUS) (up : started_on (view t) c ≡ true) (u : Tasks) (r : Ready t c k u) where
  pub ready-n : u.small.n ≡ t.small.n
  ready-n = sym (view_n u) ∙ ap (λ (m : Model). m.n) r.after ∙ pulls-n (view t) c ∙ view_n t

  pub ready-current : get_or u.small.currents c idle ≡ get_or t.small.currents c idle
  ready-current = sym (view-current u c hc) ∙ ap (λ (m : Model). current_of m c) r.after ∙ pulls-current (view t) c c ∙ view-current t c hc

  pub going : Going u c k
  going =
      let v = lives t w (is-on t w on) in
      let p = pulls-live (view t) w.model.shape v c in
      record {
        rep = r.rep;
        shape = subst plain.Shape (sym r.after) p.0;
        live = subst plain.Live (sym r.after) p.1;
        on = ap (λ (m : Model). started_on m c) r.after ∙ pulls-on (view t) w.model.shape v c up;
        may = ap (λ (m : Model). idles m c && not (is_yield k)) r.after ∙ ap (λ b. b && not (is_yield k)) (pulls-idles (view t) w.model.shape v c) ∙ r.goes;
      }

  takes_turn : switch_step (view t) c k ≡ turn (view u) c k
  takes_turn = switches t c k w on hc up ∙ switched-turn (view t) c k r.goes ∙ ap (λ (m : Model). turn m c k) (sym r.after)

  pub decides : (z : Tasks) (got : Reply) → Rep z → (Refused got → ⊥) → got ≡ (turn (view u) c k).reply → view z ≡ (turn (view u) c k).after → Does table t z got (switch_step (view t) c k)
  decides z got q f e a =
      ends t w z got (switch_step (view t) c k) q f (e ∙ ap (λ (s : Step Model). s.reply) (sym takes_turn)) (a ∙ ap (λ (s : Step Model). s.after) (sym takes_turn)) (switch-sound (view t) c k w.model)

  module _ (v : Tasks) (l : Left u c k v) (x : TaskId) (at s h n : ℕ) (ea : at ≡ c * SPAN + placed v.small.n (head_of v c)) (ex : x ≡ ring_in v at) (es : s ≡ RUNNING) (eh : h ≡ placed v.small.n (head_of v c + 1)) (en : n ≡ len_of v c - 1) where
    abbrev e : Tasks
    e = put_current (put_head (put_state v x.slot s) c h n) c x

    er : Rep (put_current (put_head (put_state v x.slot s) c h n) c x)
    er = enter_rep u c k hc going v l x at s h n ea ex es eh en

    ev : view (put_current (put_head (put_state v x.slot s) c h n) c x) ≡ enters (leaves (view u) c k) c x (rest_in v c)
    ev = enter_view u c k hc going v l x at s h n ea ex es eh en

    pub decide_stay : same_id x (get_or u.small.currents c idle) ≡ true → Does table t (put_current (put_head (put_state v x.slot s) c h n) c x) stays (switch_step (view t) c k)
    decide_stay same =
        let q = turn-same u c k hc going v l x at s h n ea ex es eh en same in
        decides e stays er (λ z. z) (ap (λ (y : Step Model). y.reply) (sym q)) (ev ∙ ap (λ (y : Step Model). y.after) (sym q))

    module _ (f : TaskId) (ef : f ≡ get_or u.small.currents c idle) (other : same_id x (get_or u.small.currents c idle) ≡ false) where
      q : turn (view u) c k ≡ record { reply = switched f x (released (leaves (view u) c k) k); after = parks (enters (leaves (view u) c k) c x (rest_in v c)) k f }
      q = turn-other u c k hc going v l x at s h n ea ex es eh en other ∙ ap (λ y. record { reply = switched y x (released (leaves (view u) c k) k); after = parks (enters (leaves (view u) c k) c x (rest_in v c)) k y }) (sym ef)

      pub decide_switch : (k ≡ exit → ⊥) → Does table t (put_current (put_head (put_state v x.slot s) c h n) c x) (switched f x None) (switch_step (view t) c k)
      decide_switch no_exit =
          decides e (switched f x None) er (λ z. z)
          (ap (switched f x) (sym (released-none (leaves (view u) c k) k no_exit)) ∙ ap (λ (y : Step Model). y.reply) (sym q))
          (ev ∙ sym (parks-none (enters (leaves (view u) c k) c x (rest_in v c)) k f no_exit) ∙ ap (λ (y : Step Model). y.after) (sym q))

      module _ (ex2 : k ≡ exit) (b : ℕ) (yes-b : b ≡ 1) where
        release_is : released (leaves (view u) c k) k ≡ cond (is_set v.small.parked) (Some v.small.parked_id) None
        release_is = ap (λ (j : Kind). released (leaves (view u) c k) j) ex2 ∙ ap (λ (m : Model). m.parked) (sym l.after) ∙ view-parked v

        pub decide_over : (v.small.parked ≡ 0 → ⊥) → (o : ℕ) → o ≡ capped v.small.overwrites → Does table t (put_rest (put_current (put_head (put_state v x.slot s) c h n) c x) b f o v.small.block_events v.small.peak) (switched f x (Some v.small.parked_id)) (switch_step (view t) c k)
        decide_over was o ho =
            let over : released (leaves (view u) c k) k ≡ Some v.small.parked_id = release_is ∙ rw (set_on v.small.parked was) in
            decides (put_rest e b f o v.small.block_events v.small.peak) (switched f x (Some v.small.parked_id)) (rep-rest e b f o v.small.block_events v.small.peak (omega arith) er) (λ z. z)
            (ap (switched f x) (sym over) ∙ ap (λ (y : Step Model). y.reply) (sym q))
            (park_over e (enters (leaves (view u) c k) c x (rest_in v c)) ev b f yes-b was o ho ∙ ap (λ (j : Kind). parks (enters (leaves (view u) c k) c x (rest_in v c)) j f) (sym ex2) ∙ ap (λ (y : Step Model). y.after) (sym q))

        pub decide_first : v.small.parked ≡ 0 → Does table t (put_rest (put_current (put_head (put_state v x.slot s) c h n) c x) b f v.small.overwrites v.small.block_events v.small.peak) (switched f x None) (switch_step (view t) c k)
        decide_first was =
            let first : released (leaves (view u) c k) k ≡ None = release_is ∙ rw (set-off v.small.parked was) in
            decides (put_rest e b f v.small.overwrites v.small.block_events v.small.peak) (switched f x None) (rep-rest e b f v.small.overwrites v.small.block_events v.small.peak (omega arith) er) (λ z. z)
            (ap (switched f x) (sym first) ∙ ap (λ (y : Step Model). y.reply) (sym q))
            (park_first e (enters (leaves (view u) c k) c x (rest_in v c)) ev b f yes-b was ∙ ap (λ (j : Kind). parks (enters (leaves (view u) c k) c x (rest_in v c)) j f) (sym ex2) ∙ ap (λ (y : Step Model). y.after) (sym q))
