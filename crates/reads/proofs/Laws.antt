-- What each read of a table's fields is on paper.
use Rattle.std.specs.Prelude.{Some, None}
use mathlib.Core.Path.{◌≡◌, refl, sym, ◌∙◌, ap, subst}
use mathlib.Core.Bool.{Bool, true, false, not, cond}
use mathlib.Core.List.{List, [], ◌∷◌}
use mathlib.Core.Logic.{⊎_elim}
use Prim.Native.Nat.{ℕ, ◌≤◌, ◌<◌}
use native.Mathlib.Omega.{arith}
use borrow.Author.Tests.{lt-ltb, le-ltb, eq-eqb, ne_eqb, ltb-true}
use lib.Dec.{ltb, eqb}
use lib.ListN.{length, get_or}
use Rattle.lists.proofs.Basics.{both_true, get_or-all}
use Rattle.ids.specs.declared.TaskId.{TaskId}
use Rattle.ids.specs.Id.{same_id, idle}
use Rattle.answers.specs.Reply.{Reply, Refused, refused, told, number, named, value}
use Rattle.answers.specs.Contract.{Reads}
use Rattle.answers.proofs.Returns.{reads}
use Rattle.model.specs.Model.{Model, CPUS, EMPTY, STATES, known, state_of, queue_of, fresh}
use Rattle.model.specs.Switch.{is_nil}
use Rattle.model.specs.Reads.{on_cpu, current_reply, idle_reply, ready_reply, started_reply, state_reply, home_reply, live_reply, stealeable_reply, overwrites_reply, blocked_reply, block_events_reply, live_count_reply, peak_reply}
use Rattle.model.specs.Sound as plain
use Rattle.memory.specs.declared.Tasks.{Tasks}
use Rattle.memory.specs.View.{view, len_of, Sound, table}
use Rattle.memory.specs.Parts.{known_in, stealeable_in, occupied_in, blocked_in}
use Rattle.memory.proofs.ViewLaws.{view_n, view_ncpus, view-state, view-epoch, view-home, view-current, view-idle, view-len, view-overwrites, view-events, view-peak}
use Rattle.memory.proofs.PartLaws.{view_known, view-stealeable, view-occupied, view-blocked}

module _ (t : Tasks) (w : Sound t) where
  -- an answer that is no refusal
  tells : (got want : Reply) → (Refused got → ⊥) → got ≡ want → Reads table t got want
  tells got want f e = reads table t got want w (λ z. f (subst Refused (sym z) tt)) e

  -- A CPU

  pub cpu_above : (c : ℕ) (r : Reply) → CPUS ≤ c → Reads table t (refused 5) (on_cpu (view t) c r)
  cpu_above c r h =
      reads table t (refused 5) (on_cpu (view t) c r) w (λ e. let z : ◌≡◌ {A = ℕ} 5 1 = cc in omega arith)
      (rw (le-ltb c (length (view t).cpus) (omega (arith, view_ncpus t))))

  of_cpu : (c : ℕ) (got r : Reply) → c < CPUS → (Refused got → ⊥) → got ≡ r → Reads table t got (on_cpu (view t) c r)
  of_cpu c got r h f e = tells got (on_cpu (view t) c r) f (e ∙ rw (lt-ltb c (length (view t).cpus) (omega (arith, view_ncpus t))))

  pub current_is : (c : ℕ) → c < CPUS → Reads table t (named (Some (get_or t.small.currents c idle))) (current_reply (view t) c)
  current_is c h = of_cpu c _ _ h (λ z. z) (ap (λ (i : TaskId). named (Some i)) (sym (view-current t c h)))

  pub idle_is : (c : ℕ) → c < CPUS → Reads table t (named (Some (get_or t.small.idles c idle))) (idle_reply (view t) c)
  idle_is c h = of_cpu c _ _ h (λ z. z) (ap (λ (i : TaskId). named (Some i)) (sym (view-idle t c h)))

  pub ready_is : (c : ℕ) → c < CPUS → Reads table t (told (not (eqb (len_of t c) 0))) (ready_reply (view t) c)
  ready_is c h = of_cpu c _ _ h (λ z. z) (ap (λ b. told (not b)) (ap (λ l. eqb l 0) (sym (view-len t c h)) ∙ nil (queue_of (view t) c)))
    where
      nil : (q : List TaskId) → eqb (length q) 0 ≡ is_nil q
      nil [] = refl
      nil (x ∷ q) = ne_eqb (length (x ∷ q)) 0 (λ e. omega arith)

  pub started_is : Reads table t (told (not (same_id (get_or t.small.idles 1 idle) idle))) (started_reply (view t) 1)
  started_is = tells _ _ (λ z. z) (ap (λ i. told (not (same_id i idle))) (sym (view-idle t 1 (omega arith))))

  -- AN ID

  knows : (id : TaskId) (b : Bool) → known_in t.epochs t.small.n id ≡ b → known (view t) id ≡ b
  knows id b h = view_known t id ∙ h

  pub near : (id : TaskId) → known_in t.epochs t.small.n id ≡ true → id.slot < t.small.n
  near id h = ltb-true id.slot t.small.n (both_true (ltb id.slot t.small.n) (eqb (get_or t.epochs id.slot 0) id.epoch) h).0

  pub unknown : (id : TaskId) (f : ℕ → ℕ) → known_in t.epochs t.small.n id ≡ false → Reads table t (value None) (value (cond (known (view t) id) (Some (f id.slot)) None))
  unknown id f h = tells _ _ (λ z. z) (rw (knows id false h))

  pub code_known : (s : ℕ) → s < t.small.n → get_or t.states s 0 < STATES
  code_known s h =
      ⊎_elim (λ (e : view t ≡ fresh (view t).n). let z = ap (λ (m : Model). state_of m s) e in omega (arith, z, get_or-all (view t).n s EMPTY, view-state t s h))
      (λ (l : plain.Live (view t)). omega (arith, (l.slots s (omega (arith, view_n t))).state, view-state t s h)) w.model.either

  pub state_is : (id : TaskId) (s : ℕ) → known_in t.epochs t.small.n id ≡ true → s ≡ get_or t.states id.slot 0 → Reads table t (value (Some s)) (state_reply (view t) id)
  state_is id s h e = tells _ _ (λ z. z) (rw (knows id true h) (ap (λ s. value (Some s)) (e ∙ sym (view-state t id.slot (near id h)))))

  pub home_is : (id : TaskId) → known_in t.epochs t.small.n id ≡ true → Reads table t (value (Some (get_or t.homes id.slot 0))) (home_reply (view t) id)
  home_is id h = tells _ _ (λ z. z) (rw (knows id true h) (ap (λ s. value (Some s)) (sym (view-home t id.slot (near id h)))))

  pub stealeable_is : (id : TaskId) (b : Bool) → b ≡ stealeable_in t.epochs t.marks t.small.n t.small.idles id → Reads table t (told b) (stealeable_reply (view t) id)
  stealeable_is id b e = tells _ _ (λ z. z) (ap told (e ∙ sym (view-stealeable t w.rep id)))

  -- A SLOT

  pub live_above : (s : ℕ) → t.small.n ≤ s → Reads table t (named None) (live_reply (view t) s)
  live_above s h = tells _ _ (λ z. z) (rw (le-ltb s (view t).n (omega (arith, view_n t))))

  pub live-none : (s : ℕ) → s < t.small.n → get_or t.states s 0 ≡ EMPTY → Reads table t (named None) (live_reply (view t) s)
  live-none s h e = tells _ _ (λ z. z) (rw (lt-ltb s (view t).n (omega (arith, view_n t)), eq-eqb (state_of (view t) s) EMPTY (view-state t s h ∙ e)))

  pub live_is : (s : ℕ) → s < t.small.n → (get_or t.states s 0 ≡ EMPTY → ⊥) → Reads table t (named (Some (record { slot = s; epoch = get_or t.epochs s 0 }))) (live_reply (view t) s)
  live_is s h ne =
      tells _ _ (λ z. z)
      (rw (lt-ltb s (view t).n (omega (arith, view_n t)), ne_eqb (state_of (view t) s) EMPTY (λ e. ne (sym (view-state t s h) ∙ e)))
      (ap (λ (e : ℕ). named (Some (record { slot = s; epoch = e }))) (sym (view-epoch t s h))))

  -- THE COUNTERS

  pub overwrites_is : Reads table t (number t.small.overwrites) (overwrites_reply (view t))
  overwrites_is = tells _ _ (λ z. z) (ap number (sym (view-overwrites t)))

  pub events_is : Reads table t (number t.small.block_events) (block_events_reply (view t))
  events_is = tells _ _ (λ z. z) (ap number (sym (view-events t)))

  pub peak_is : Reads table t (number t.small.peak) (peak_reply (view t))
  peak_is = tells _ _ (λ z. z) (ap number (sym (view-peak t)))

  pub blocked_is : (k : ℕ) → k ≡ blocked_in t.states t.small.n → Reads table t (number k) (blocked_reply (view t))
  blocked_is k e = tells _ _ (λ z. z) (ap number (e ∙ sym (view-blocked t)))

  pub live_count_is : (k : ℕ) → k ≡ occupied_in t.states t.small.n → Reads table t (number k) (live_count_reply (view t))
  live_count_is k e = tells _ _ (λ z. z) (ap number (e ∙ sym (view-occupied t)))
