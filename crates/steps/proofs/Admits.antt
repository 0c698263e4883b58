-- The returns of `admit_on_in`.
use Rattle.std.specs.Prelude.{Some, None}
use mathlib.Core.Path.{◌≡◌, refl, sym, ◌∙◌, ap, ap₂}
use mathlib.Core.Bool.{false, ◌&&◌}
use Prim.Native.Nat.{ℕ, ◌+◌, ◌*◌, ◌≤◌, ◌<◌, max}
use native.Mathlib.Omega.{arith}
use borrow.Author.Tests.{lt-ltb, le-ltb}
use lib.Dec.{ltb}
use lib.ListN.{length, get_or, set}
use Rattle.lists.specs.Flags.{FLAGS, is_set}
use Rattle.lists.proofs.FlagLaws.{set-off}
use Rattle.ids.specs.declared.TaskId.{TaskId}
use Rattle.answers.specs.Reply.{named}
use Rattle.answers.specs.Contract.{Step, Does}
use Rattle.runqueue.specs.Ring.{placed}
use Rattle.model.specs.Model.{Model, CPUS, READY, tenant, free_slot, with_state, with_home, with_mark, pushed, noted}
use Rattle.model.specs.Steps.{admitted, admit_step}
use Rattle.model.proofs.Joins.{admit-sound}
use Rattle.memory.specs.declared.Tasks.{Tasks}
use Rattle.memory.specs.View.{SPAN, view, head_of, len_of, Rep, Sound, table}
use Rattle.memory.specs.Parts.{free_in, occupied_in}
use Rattle.memory.proofs.Puts.{put_state, put_home, put_mark, put_tail, put_rest}
use Rattle.memory.proofs.ViewLaws.{view_n, view_ncpus, view-epoch, store_state, store_home, store_mark, rep-state, rep-home, rep-mark, rep-rest}
use Rattle.memory.proofs.RingStores.{store_tail, rep-tail}
use Rattle.memory.proofs.PartLaws.{view-free, store_noted}
use Rattle.steps.proofs.Common.{is-on, when_on, has_room, keeps, ends}

-- what a slot is called, in memory
pub tenant_in : (t : Tasks) (s : ℕ) → s < t.small.n → record { slot = s; epoch = get_or t.epochs s 0 } ≡ tenant (view t) s
tenant_in t s h = ap (λ e. record { slot = s; epoch = e }) (sym (view-epoch t s h))

-- a slot filled: its state, its home, and no mark
unfoldable pub filled : Tasks → ℕ → ℕ → ℕ → ℕ → Tasks
filled t s v h b = put_mark (put_home (put_state t s v) s h) s b

pub filled-view : (t : Tasks) (s v h b : ℕ) → s < t.small.n → view (filled t s v h b) ≡ with_mark (with_home (with_state (view t) s v) s h) s (is_set b)
unfolding filled
filled-view t s v h b l =
    store_mark (put_home (put_state t s v) s h) s l b
    ∙ ap (λ m. with_mark m s (is_set b)) (store_home (put_state t s v) s l h ∙ ap (λ m. with_home m s h) (store_state t s l v))

pub filled-rep : (t : Tasks) (s v h b : ℕ) → s < t.small.n → b < FLAGS → Rep t → Rep (filled t s v h b)
unfolding filled
filled-rep t s v h b near f r = rep-mark (put_home (put_state t s v) s h) s (rep-home (put_state t s v) s (rep-state t s r v) h) near b f

module _ (t : Tasks) (c : ℕ) (w : Sound t) (on : get_or t.states 0 0 ≡ 0 → ⊥) where
  -- what is free
  abbrev spare : ℕ
  spare = free_in t.states t.small.parked t.small.parked_id.slot t.small.n

  none_left : (ltb c (length (view t).cpus) && ltb (free_slot (view t)) (view t).n) ≡ false → Does table t t (named None) (admit_step (view t) c)
  unfolding admit_step
  none_left h = rw (when_on t w _ on, h) (keeps t w (named None) _ (λ e. let z : ◌≡◌ {A = ℕ} 0 1 = cc in omega arith) refl refl)

  pub admit_above : CPUS ≤ c → Does table t t (named None) (admit_step (view t) c)
  admit_above h = none_left (rw (le-ltb c (length (view t).cpus) (omega (arith, view_ncpus t))))

  pub admit-none : (s : ℕ) → c < CPUS → s ≡ spare → t.small.n ≤ s → Does table t t (named None) (admit_step (view t) c)
  admit-none s hc e h =
      none_left (rw (lt-ltb c (length (view t).cpus) (omega (arith, view_ncpus t)), le-ltb (free_slot (view t)) (view t).n (omega (arith, view-free t, view_n t))))

  module _ (hc : c < CPUS) (s : ℕ) (e : s ≡ spare) (near : s < t.small.n) where
    admits : admit_step (view t) c ≡ record { reply = named (Some (tenant (view t) s)); after = admitted (view t) c s }
    unfolding admit_step
    admits =
        rw (when_on t w _ on, lt-ltb c (length (view t).cpus) (omega (arith, view_ncpus t)), lt-ltb (free_slot (view t)) (view t).n (omega (arith, view-free t, view_n t)), view-free t, ← e)

    pub admit-done : (v h i l k b : ℕ) (id : TaskId) → v ≡ READY → h ≡ c → b ≡ 0 → id ≡ record { slot = s; epoch = get_or t.epochs s 0 }
        → i ≡ c * SPAN + placed t.small.n (head_of t c + len_of t c) → l ≡ len_of t c + 1 → k ≡ max t.small.peak (occupied_in (set t.states s v) t.small.n)
        → let u = put_tail (put_mark (put_home (put_state t s v) s h) s b) c i l id in
        Does table t (put_rest u t.small.parked t.small.parked_id t.small.overwrites t.small.block_events k) (named (Some id)) (admit_step (view t) c)
    unfolding admitted filled
    admit-done v h i l k b id ev eh eb ei p q ek =
        let f = filled t s v h b in
        let u = put_tail f c i l id in
        let r = filled-rep t s v h b near (omega arith) w.rep in
        let free : len_of f c < f.small.n = has_room t w (is-on t w on) c hc in
        let name : id ≡ tenant (view t) s = ei ∙ tenant_in t s near in
        let fv : view f ≡ with_mark (with_home (with_state (view t) s READY) s c) s false = filled-view t s v h b near ∙ rw (ev, eh, set-off b eb) in
        let after : view (put_rest u u.small.parked u.small.parked_id u.small.overwrites u.small.block_events k) ≡ admitted (view t) c s =
        store_noted u k ek
        ∙ ap noted
        (store_tail f c i l id r hc free p q
        ∙ ap₂ (λ m x. pushed m c x) fv name)
        in
        ends t w (put_rest u u.small.parked u.small.parked_id u.small.overwrites u.small.block_events k) (named (Some id)) (admit_step (view t) c)
        (rep-rest u u.small.parked u.small.parked_id u.small.overwrites u.small.block_events k w.rep.flag (rep-tail f c i l id r hc free p q)) (λ z. z)
        (ap (λ x. named (Some x)) name ∙ ap (λ (x : Step Model). x.reply) (sym admits)) (after ∙ ap (λ (x : Step Model). x.after) (sym admits)) (admit-sound (view t) c w.model)
