-- The two halves of a switch: the current task leaves, which finds no queue empty, and the head of the queue runs.
use mathlib.Core.Path.{◌≡◌, refl, sym, ◌∙◌, ap, subst}
use mathlib.Core.Logic.{◌⊎◌, inl, inr, ⊎_elim}
use mathlib.Core.Bool.{Bool, true, false, ◌&&◌, not}
use mathlib.Core.List.{List, [], ◌∷◌, ◌++◌}
use Prim.Native.Nat.{ℕ, ◌+◌, ◌<◌}
use native.Mathlib.Omega.{arith}
use lib.ListN.{length, set, length-append}
use lib.Seq.{get_or-set_same, get_or-set_other, set-get_or, set-set}
use lib.Dec.{eqb}
use borrow.Author.Tests.{eq-eqb}
use Rattle.lists.specs.Search.{one_if}
use Rattle.lists.proofs.Basics.{not_both}
use Rattle.ids.specs.declared.TaskId.{TaskId}
use Rattle.ids.specs.Id.{same_id}
use Rattle.ids.proofs.IdLaws.{same_self}
use Rattle.model.specs.Model.{Model, CPUS, EMPTY, READY, RUNNING, BLOCKED, no_cpu, state_of, epoch_of, home_of, cpu_of, queue_of, current_of, idle_of, started_on, set_queue, with_state, with_epoch, with_queue, pushed, bump, capped}
use Rattle.model.specs.Sound.{occ, Known, AllKnown, Active, OnOk, Shape, Live}
use Rattle.model.specs.Switch.{Kind, yield, preempt, block, exit, is_yield, leaves, enters, idles}
use Rattle.model.proofs.Counting.{get_or-set-kept, occ-cons, known-head, known-tail, ready-there}
use Rattle.model.proofs.Core.{lit, lit_is, lit-by, Core, Ends, live_core, live-ends}
use Rattle.model.proofs.SlotMoves.{IdleOnly, at_home, join_core, out_core, wipe_core}
use Rattle.model.proofs.CpuMoves.{stop_core, run_core}
use Rattle.model.proofs.Ends.{core_rest, awake_set, ends_set}
use Rattle.model.proofs.Facts.{known-tenant, known_one, busy-queue}

-- LEAVING

-- an idle leaves only by a yield
abbrev pub May : Model → ℕ → Kind → Type 0
May m c kind = (idles m c && not (is_yield kind)) ≡ false

pub and_true : (b : Bool) → (b && true) ≡ false → b ≡ false
and_true true e = e
and_true false e = refl

module _ (m : Model) (shape : Shape m) (v : Live m) (c : ℕ) (hc : c < CPUS) (on : started_on m c ≡ true) where
  abbrev k : Core m CPUS
  k = live_core m shape v

  abbrev z : Ends m
  z = live-ends m v

  abbrev s : ℕ
  s = (current_of m c).slot

  own : OnOk m c
  own = (v.cpus c hc).on on

  pub lights : lit m c ≡ true
  lights = sym (lit_is m v.on c) ∙ on

  -- another task than the idle has a slot that is no idle's ..
  busy : idles m c ≡ false → IdleOnly m s CPUS
  busy b d hd l p =
      let here : d ≡ c = at_home m CPUS k s d hd l p ∙ own.current_home in
      let slot : (idle_of m c).slot ≡ s = ap (λ e. (idle_of m e).slot) (sym here) ∙ p in
      let same = known_one m (current_of m c) (idle_of m c) own.current own.idle (sym slot) in
      absurd (not_both (ap (λ x. same_id x (idle_of m c)) same ∙ same_self (idle_of m c)) b)

  -- .. and so not 0
  pub not_zero : idles m c ≡ false → s ≡ 0 → ⊥
  not_zero b p = omega (arith, busy b 0 (omega arith) refl (ap (λ x. x.slot) v.first ∙ sym p))

  -- a stop; BLOCKED stands for a state that is none of a queue's
  stopped : Core (with_state m s BLOCKED) c
  stopped = stop_core m c BLOCKED k hc lights (omega arith) (λ e. omega arith) (λ e. omega arith) (λ _ e. omega arith)

  -- and back to the tail
  back_core : Core (pushed (with_state m s READY) c (current_of m c)) c
  back_core =
      let blocked : state_of (with_state m s BLOCKED) s ≡ BLOCKED = get_or-set_same m.states s BLOCKED EMPTY (omega (arith, shape.states, own.current.slot)) in
      let homed : set m.homes s c ≡ m.homes = ap (λ h. set m.homes s h) (sym own.current_home) ∙ set-get_or m.homes s 0 in
      rw (set-set m.states s BLOCKED READY, homed, known-tenant m (current_of m c) own.current) at
      (join_core (with_state m s BLOCKED) c stopped s c own.current.slot hc (λ e. omega arith, λ e. omega arith)
      (λ d hd l p. at_home (with_state m s BLOCKED) c stopped s d hd l p ∙ own.current_home))

  -- or out of its slot
  gone_core : idles m c ≡ false → Core (with_epoch (with_state m s EMPTY) s (bump (epoch_of m s))) c
  gone_core b =
      let gone = stop_core m c EMPTY k hc lights (omega arith) (λ e. omega arith) (λ e. omega arith) (λ e _. not_zero b e) in
      let empty : state_of (with_state m s EMPTY) s ≡ EMPTY = get_or-set_same m.states s EMPTY EMPTY (omega (arith, shape.states, own.current.slot)) in
      wipe_core (with_state m s EMPTY) c gone s (bump (epoch_of m s)) own.current.slot (omega arith) (λ e. omega arith, λ e. omega arith) (busy b)

  pub leaves_core : (kind : Kind) → May m c kind → Core (leaves m c kind) c
  unfolding leaves
  leaves_core yield may = back_core
  leaves_core preempt may = back_core
  leaves_core block may = core_rest (with_state m s BLOCKED) c m.parked m.overwrites (capped m.block_events) m.peak stopped
  leaves_core exit may = gone_core (and_true (idles m c) may)

  idle_back : (d : ℕ) → idle_of (pushed (with_state m s READY) c (current_of m c)) d ≡ idle_of m d
  idle_back d = get_or-set-kept (λ x. x.idle) m.cpus c (set_queue (cpu_of m c) (queue_of m c ++ (current_of m c ∷ []))) no_cpu refl d

  -- the rest of soundness: no idle falls asleep
  left-ends : (w : Model) (u : ℕ) → w.states ≡ set m.states s u → w.n ≡ m.n → ((i : ℕ) → (i ≡ s → ⊥) → epoch_of w i ≡ epoch_of m i)
      → w.parked ≡ m.parked → w.peak ≡ m.peak → ((d : ℕ) → idle_of w d ≡ idle_of m d) → Active u ⊎ (idles m c ≡ false) → Ends w
  left-ends w u states n epochs parked peak same still =
      ends_set m w s u shape own.current.slot states n epochs parked peak (λ e. omega (arith, own.runs))
      (awake_set m w s u shape own.current.slot states (λ d _. same d)
      (λ d hd l p. ⊎_elim (λ (a : Active u). a) (λ (b : idles m c ≡ false). absurd (omega (arith, busy b d hd l p))) still)
      z.awake)
      z

  pub idle-left : (kind : Kind) (d : ℕ) → idle_of (leaves m c kind) d ≡ idle_of m d
  unfolding leaves
  idle-left yield d = idle_back d
  idle-left preempt d = idle_back d
  idle-left block d = refl
  idle-left exit d = refl

  pub leaves-ends : (kind : Kind) → May m c kind → Ends (leaves m c kind)
  unfolding leaves
  leaves-ends yield may = left-ends (leaves m c yield) READY refl refl (λ _ _. refl) refl refl idle_back (inl (inl refl))
  leaves-ends preempt may = left-ends (leaves m c preempt) READY refl refl (λ _ _. refl) refl refl idle_back (inl (inl refl))
  leaves-ends block may = left-ends (leaves m c block) BLOCKED refl refl (λ _ _. refl) refl refl (λ _. refl) (inr (and_true (idles m c) may))
  leaves-ends exit may = left-ends (leaves m c exit) EMPTY refl refl (λ i ne. get_or-set_other m.epochs s i (bump (epoch_of m s)) 0 ne) refl refl (λ _. refl) (inr (and_true (idles m c) may))

  -- there is always one that can run next
  queue_back : queue_of (pushed (with_state m s READY) c (current_of m c)) c ≡ [] → ⊥
  queue_back e =
      let q = queue_of m c ++ (current_of m c ∷ []) in
      let here = ap (λ x. x.queue) (get_or-set_same m.cpus c (set_queue (cpu_of m c) q) no_cpu (omega (arith, shape.cpus))) in
      omega (arith, length-append (queue_of m c) (current_of m c ∷ []), ap length (sym here ∙ e))

  pub queue-left : (kind : Kind) → May m c kind → queue_of (leaves m c kind) c ≡ [] → ⊥
  unfolding leaves
  queue-left yield may e = queue_back e
  queue-left preempt may e = queue_back e
  queue-left block may e = busy-queue m v c hc on (and_true (idles m c) may) e
  queue-left exit may e = busy-queue m v c hc on (and_true (idles m c) may) e

-- ENTERING

-- the head of a queue, whose CPU is between two tasks
module _ (m : Model) (c : ℕ) (x : TaskId) (l : List TaskId) (k : Core m c) (hc : c < CPUS) (on : lit m c ≡ true) (q : queue_of m c ≡ x ∷ l) where
  abbrev o : Model
  o = with_queue (with_state m x.slot BLOCKED) c l

  entries : AllKnown m (x ∷ l)
  entries = subst (λ e. AllKnown m e) q (k.cpus c hc).entries

  pub enterer : Known m x
  enterer = known-head m x l entries

  counts : (i : ℕ) → occ i (queue_of m c) ≡ one_if (eqb x.slot i) + occ i l
  counts i = ap (λ e. occ i e) q ∙ occ-cons i x l

  pub enterer_ready : (state_of m x.slot ≡ READY) × (home_of m x.slot ≡ c)
  enterer_ready =
      let seen : one_if (eqb x.slot x.slot) ≡ 1 = rw (eq-eqb x.slot x.slot refl) in
      ready-there m c x.slot ((k.slots x.slot enterer.slot).queued c hc) (omega (arith, counts x.slot))

  cpu-out : cpu_of o c ≡ set_queue (cpu_of m c) l
  cpu-out = get_or-set_same m.cpus c (set_queue (cpu_of m c) l) no_cpu (omega (arith, k.shape.cpus))

  pub enters_core : Core (enters m c x l) CPUS
  unfolding enters
  enters_core =
      let out = out_core m c k c x l hc enterer.slot counts (known-tail m x l entries) in
      let blocked : state_of o x.slot ≡ BLOCKED = get_or-set_same m.states x.slot BLOCKED EMPTY (omega (arith, k.shape.states, enterer.slot)) in
      let lights : lit o c ≡ true = lit-by m o c (ap (λ y. y.idle) cpu-out) ∙ on in
      rw (
        set-set m.states x.slot BLOCKED RUNNING,
        ap (λ y. y.queue) cpu-out,
        ap (λ y. y.idle) cpu-out,
        known-tenant m x enterer,
        set-set m.cpus c (set_queue (cpu_of m c) l) (record { queue = l; current = x; idle = idle_of m c }),
      ) at
      (run_core o c x.slot out hc lights enterer.slot (λ e. omega arith, λ e. omega arith) enterer_ready.1)

  pub enters-ends : Ends m → Ends (enters m c x l)
  unfolding enters
  enters-ends z =
      let w = enters m c x l in
      let hs = enterer.slot in
      ends_set m w x.slot RUNNING k.shape hs refl refl (λ _ _. refl) refl refl (λ e. omega (arith, enterer_ready.0))
      (awake_set m w x.slot RUNNING k.shape hs refl
      (λ d _. get_or-set-kept (λ y. y.idle) m.cpus c (record { queue = l; current = x; idle = idle_of m c }) no_cpu refl d)
      (λ _ _ _ _. inr refl)
      z.awake)
      z
