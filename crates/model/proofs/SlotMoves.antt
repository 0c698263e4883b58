-- The moves of a slot that calls are made of, each of which keeps the core: while it does not run it joins a queue, leaves
-- one, gets another epoch or home; and any can be marked but an idle's.
use mathlib.Core.Path.{◌≡◌, refl, sym, ◌∙◌, ap}
use mathlib.Core.Bool.{Bool, true, false}
use mathlib.Core.List.{List, [], ◌∷◌, ◌++◌}
use Prim.Native.Nat.{ℕ, ◌+◌, ◌≤◌, ◌<◌}
use native.Mathlib.Omega.{arith}
use native.Mathlib.Decide.{ℕ_discrete}
use lib.ListN.{set, length-set}
use lib.Seq.{get_or-set_same, get_or-set_other, set-get_or}
use lib.Dec.{eqb}
use borrow.Author.Tests.{eq-eqb, ne_eqb}
use Rattle.lists.specs.Search.{one_if}
use Rattle.ids.specs.declared.TaskId.{TaskId}
use Rattle.ids.specs.Id.{EPOCHS}
use Rattle.model.specs.Model.{Model, CPUS, EMPTY, READY, RUNNING, BLOCKED, no_cpu, state_of, epoch_of, home_of, mark_of, queue_of, current_of, idle_of, tenant, slots_to, with_state, with_epoch, with_home, with_mark, with_queue, pushed}
use Rattle.model.specs.Sound.{occ, ready_on, Shape, AllKnown}
use Rattle.model.proofs.Counting.{one_if-most, absent, ready-there, occ-snoc, known_as, known_kept, known-snoc}
use Rattle.model.proofs.Core.{lit, SlotCore, CpuCore, Core, runs_by, rests_by, off_by}
use Rattle.model.proofs.Shift.{shift_core}

-- neither Ready nor Running
abbrev pub Quiet : Model → ℕ → Type 0
Quiet m s = (state_of m s ≡ READY → ⊥) × (state_of m s ≡ RUNNING → ⊥)

-- a slot is the idle of no CPU but c
abbrev pub IdleOnly : Model → ℕ → ℕ → Type 0
IdleOnly m s c = (d : ℕ) → d < CPUS → lit m d ≡ true → (idle_of m d).slot ≡ s → d ≡ c

module _ (m : Model) (h : ℕ) (k : Core m h) where
  -- a quiet slot is in no queue
  pub unqueued : (s : ℕ) → s < m.n → (state_of m s ≡ READY → ⊥) → (c : ℕ) → c < CPUS → occ s (queue_of m c) ≡ 0
  unqueued s hs f c hc = absent m c s ((k.slots s hs).queued c hc) (λ p _. f p)

  -- a slot that is an idle is homed on its CPU
  pub at_home : (s : ℕ) → IdleOnly m s (home_of m s)
  at_home s d hd l p = sym ((k.cpus d hd).rests l).home ∙ ap (λ i. home_of m i) p

  -- it becomes Ready and joins the tail of a queue, which becomes its home
  pub join_core : (s c : ℕ) → s < m.n → c < CPUS → Quiet m s → IdleOnly m s c → Core (pushed (with_home (with_state m s READY) s c) c (tenant m s)) h
  join_core s c hs hc quiet only =
      rw (set-get_or m.epochs s 0, set-get_or m.marks s false) at
      (shift_core m h s READY (epoch_of m s) c (mark_of m s) c (queue_of m c ++ (tenant m s ∷ [])) k
      (record {
        slot = hs;
        cpu = hc;
        state = omega arith;
        epoch = (k.slots s hs).epoch;
        home = hc;
        was = quiet.1;
        is = λ p. omega arith;
        zero = λ _ p. omega arith;
        from = λ p. absurd (quiet.0 p);
        to = λ _. (refl, refl);
        once = occ-snoc s (queue_of m c) (tenant m s) ∙ rw (eq-eqb s s refl) (omega (arith, unqueued s hs quiet.0 c hc));
        others = λ i ne. occ-snoc i (queue_of m c) (tenant m s) ∙ rw (ne_eqb s i (λ p. ne (sym p))) (omega arith);
        entries = known-snoc m (queue_of m c) (tenant m s) (k.cpus c hc).entries (record { slot = hs; epoch = refl });
        idle = λ d hd l p. (refl, sym (only d hd l p), ap (λ i. mark_of m i) (sym p) ∙ ((k.cpus d hd).rests l).mark);
      }))

  -- an entry leaves a queue, and is Blocked until it is somewhere else
  pub out_core : (p : ℕ) (x : TaskId) (q : List TaskId) → p < CPUS → x.slot < m.n
      → ((i : ℕ) → occ i (queue_of m p) ≡ one_if (eqb x.slot i) + occ i q) → AllKnown m q → Core (with_queue (with_state m x.slot BLOCKED) p q) h
  out_core p x q hp hx counts ks =
      let s = x.slot in
      let one : occ s (queue_of m p) ≡ 1 + occ s q = counts s ∙ rw (eq-eqb s s refl) in
      let was = ready-there m p s ((k.slots s hx).queued p hp) (omega arith) in
      let most : occ s (queue_of m p) ≤ 1 = rw ((k.slots s hx).queued p hp) (one_if-most (ready_on m p s)) in
      rw (set-get_or m.epochs s 0, set-get_or m.homes s 0, set-get_or m.marks s false) at
      (shift_core m h s BLOCKED (epoch_of m s) (home_of m s) (mark_of m s) p q k
      (record {
        slot = hx;
        cpu = hp;
        state = omega arith;
        epoch = (k.slots s hx).epoch;
        home = (k.slots s hx).home;
        was = λ r. omega (arith, was.0);
        is = λ p. omega arith;
        zero = λ _ p. omega arith;
        from = λ _. was.1;
        to = λ r. absurd (omega arith);
        once = omega arith;
        others = λ i ne. sym (counts i ∙ rw (ne_eqb s i (λ p. ne (sym p))) (omega arith));
        entries = ks;
        idle = λ d hd l e. let r = (k.cpus d hd).rests l in (refl, ap (λ i. home_of m i) (sym e) ∙ r.home, ap (λ i. mark_of m i) (sym e) ∙ r.mark);
      }))

  -- while it is quiet and no idle, it can have another epoch, home and mark
  still_core : (s e g : ℕ) (b : Bool) → s < m.n → e < EPOCHS → g < CPUS → Quiet m s → IdleOnly m s CPUS
      → Core (slots_to m m.states (set m.epochs s e) (set m.homes s g) (set m.marks s b)) h
  still_core s e g b hs he hg quiet only =
      rw (set-get_or m.states s EMPTY, set-get_or m.cpus 0 no_cpu) at
      (shift_core m h s (state_of m s) e g b 0 (queue_of m 0) k
      (record {
        slot = hs;
        cpu = omega arith;
        state = (k.slots s hs).state;
        epoch = he;
        home = hg;
        was = quiet.1;
        is = quiet.1;
        zero = λ p q. k.on (ap (λ i. state_of m i) (sym p) ∙ q);
        from = λ p. absurd (quiet.0 p);
        to = λ p. absurd (quiet.0 p);
        once = rw (ne_eqb (state_of m s) READY quiet.0) (unqueued s hs quiet.0 0 (omega arith));
        others = λ i _. refl;
        entries = (k.cpus 0 (omega arith)).entries;
        idle = λ d hd l p. absurd (omega (arith, only d hd l p));
      }))

  pub wipe_core : (s e : ℕ) → s < m.n → e < EPOCHS → Quiet m s → IdleOnly m s CPUS → Core (with_epoch m s e) h
  wipe_core s e hs he quiet only =
      rw (set-get_or m.homes s 0, set-get_or m.marks s false) at
      (still_core s e (home_of m s) (mark_of m s) hs he (k.slots s hs).home quiet only)

  pub house_core : (s c : ℕ) → s < m.n → c < CPUS → Quiet m s → IdleOnly m s CPUS → Core (with_mark (with_home m s c) s false) h
  house_core s c hs hc quiet only =
      rw (set-get_or m.epochs s 0) at (still_core s (epoch_of m s) c false hs (k.slots s hs).epoch hc quiet only)

-- any slot can be marked but an idle's, and any can be cleared
module _ (m : Model) (h s : ℕ) (b : Bool) (k : Core m h) (only : (d : ℕ) → d < CPUS → lit m d ≡ true → (idle_of m d).slot ≡ s → b ≡ false) where
  abbrev w : Model
  w = with_mark m s b

  shape_ok : Shape w
  shape_ok =
      let o = k.shape in
      record { some = o.some; most = o.most; states = o.states; epochs = o.epochs; homes = o.homes; marks = length-set m.marks s b ∙ o.marks; cpus = o.cpus }

  slot_ok : (i : ℕ) → i < m.n → SlotCore w h i
  slot_ok i hi =
      let o = k.slots i hi in
      record { state = o.state; home = o.home; epoch = o.epoch; queued = o.queued; running = o.running }

  mark_ok : (d : ℕ) → d < CPUS → lit m d ≡ true → mark_of w (idle_of m d).slot ≡ false
  mark_ok d hd l =
      let i = (idle_of m d).slot in
      let r = (k.cpus d hd).rests l in
      elim (ℕ_discrete i s) [
        | yes p ↦ rw p (get_or-set_same m.marks s b false (omega (arith, k.shape.marks, r.idle.slot))) ∙ only d hd l p
        | no p ↦ get_or-set_other m.marks s i b false p ∙ r.mark
      ]

  cpu_ok : (d : ℕ) → d < CPUS → CpuCore w h d
  cpu_ok d hd =
      let o = k.cpus d hd in
      record {
        entries = known_kept m w (queue_of m d) refl (λ _ _. refl) o.entries;
        current = λ l ne. let r = o.current l ne in runs_by w d (current_of m d) refl (known_as m w (current_of m d) refl refl r.current) r.runs r.home;
        rests = λ l. rests_by w d (idle_of m d) refl (known_as m w (idle_of m d) refl refl (o.rests l).idle) (o.rests l).home (mark_ok d hd l);
        off = λ l. off_by m w d refl refl (o.off l);
      }

  pub mark_core : Core (with_mark m s b) h
  mark_core = record { shape = shape_ok; on = k.on; slots = slot_ok; cpus = cpu_ok; first = k.first }
