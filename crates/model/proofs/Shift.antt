-- One slot that does not run changes, and with it one queue: all moves but those of a current are of this kind.
use mathlib.Core.Path.{◌≡◌, refl, sym, ◌∙◌, ap}
use mathlib.Core.Bool.{Bool, true, false}
use mathlib.Core.List.{List}
use Prim.Native.Nat.{ℕ, ◌≤◌, ◌<◌}
use native.Mathlib.Omega.{arith}
use native.Mathlib.Decide.{ℕ_discrete}
use lib.ListN.{set, length-set}
use lib.Seq.{get_or-set_same, get_or-set_other}
use lib.Dec.{eqb}
use borrow.Author.Tests.{ne_eqb}
use Rattle.lists.specs.Search.{one_if}
use Rattle.ids.specs.declared.TaskId.{TaskId}
use Rattle.ids.specs.Id.{EPOCHS}
use Rattle.model.specs.Model.{Model, CPUS, STATES, EMPTY, READY, RUNNING, no_cpu, state_of, epoch_of, home_of, mark_of, cpu_of, queue_of, current_of, idle_of, slots_to, set_queue, with_queue}
use Rattle.model.specs.Sound.{occ, ready_on, Shape, AllKnown}
use Rattle.model.proofs.Counting.{get_or-set-kept, ready_here, ready_else, absent, known_as, known_kept}
use Rattle.model.proofs.Core.{lit, lit-by, SlotCore, Runs, Rests, CpuCore, Core, runs_by, rests_by, off_by}

-- slot s with state v, epoch e, home g and mark b, and CPU c with queue q
abbrev pub changed : Model → ℕ → ℕ → ℕ → ℕ → Bool → ℕ → List TaskId → Model
changed m s v e g b c q =
    with_queue (slots_to m (set m.states s v) (set m.epochs s e) (set m.homes s g) (set m.marks s b)) c q

-- when that keeps a table in order
pub record Shift (m : Model) (s v e g : ℕ) (b : Bool) (c : ℕ) (q : List TaskId) : Type 0 where
  pub slot : s < m.n
  pub cpu : c < CPUS
  pub state : v < STATES
  pub epoch : e < EPOCHS
  pub home : g < CPUS
  -- it runs neither before nor after
  pub was : state_of m s ≡ RUNNING → ⊥
  pub is : v ≡ RUNNING → ⊥
  pub zero : s ≡ 0 → v ≡ EMPTY → ⊥
  -- if it was queued, then here; if it is queued, then here, once and as known
  pub from : state_of m s ≡ READY → home_of m s ≡ c
  pub to : v ≡ READY → (g ≡ c) × (e ≡ epoch_of m s)
  pub once : occ s q ≡ one_if (eqb v READY)
  pub others : (i : ℕ) → (i ≡ s → ⊥) → occ i q ≡ occ i (queue_of m c)
  pub entries : AllKnown m q
  -- an idle's slot keeps its epoch, and is homed on its CPU and not marked
  pub idle : (d : ℕ) → d < CPUS → lit m d ≡ true → (idle_of m d).slot ≡ s → (e ≡ epoch_of m s) × (g ≡ d) × (b ≡ false)

module _ (m : Model) (h s v e g : ℕ) (b : Bool) (c : ℕ) (q : List TaskId) (k : Core m h) (f : Shift m s v e g b c q) where
  abbrev w : Model
  w = changed m s v e g b c q

  state-there : state_of w s ≡ v
  state-there = get_or-set_same m.states s v EMPTY (omega (arith, k.shape.states, f.slot))

  epoch-there : epoch_of w s ≡ e
  epoch-there = get_or-set_same m.epochs s e 0 (omega (arith, k.shape.epochs, f.slot))

  home-there : home_of w s ≡ g
  home-there = get_or-set_same m.homes s g 0 (omega (arith, k.shape.homes, f.slot))

  mark-there : mark_of w s ≡ b
  mark-there = get_or-set_same m.marks s b false (omega (arith, k.shape.marks, f.slot))

  state_else : (i : ℕ) → (i ≡ s → ⊥) → state_of w i ≡ state_of m i
  state_else i ne = get_or-set_other m.states s i v EMPTY ne

  epoch_else : (i : ℕ) → (i ≡ s → ⊥) → epoch_of w i ≡ epoch_of m i
  epoch_else i ne = get_or-set_other m.epochs s i e 0 ne

  home_else : (i : ℕ) → (i ≡ s → ⊥) → home_of w i ≡ home_of m i
  home_else i ne = get_or-set_other m.homes s i g 0 ne

  mark_else : (i : ℕ) → (i ≡ s → ⊥) → mark_of w i ≡ mark_of m i
  mark_else i ne = get_or-set_other m.marks s i b false ne

  cpu_here : cpu_of w c ≡ set_queue (cpu_of m c) q
  cpu_here = get_or-set_same m.cpus c (set_queue (cpu_of m c) q) no_cpu (omega (arith, k.shape.cpus, f.cpu))

  cpu_else : (d : ℕ) → (d ≡ c → ⊥) → cpu_of w d ≡ cpu_of m d
  cpu_else d ne = get_or-set_other m.cpus c d (set_queue (cpu_of m c) q) no_cpu ne

  queue_here : queue_of w c ≡ q
  queue_here = ap (λ x. x.queue) cpu_here

  queue_else : (d : ℕ) → (d ≡ c → ⊥) → queue_of w d ≡ queue_of m d
  queue_else d ne = ap (λ x. x.queue) (cpu_else d ne)

  current-kept : (d : ℕ) → current_of w d ≡ current_of m d
  current-kept d = get_or-set-kept (λ x. x.current) m.cpus c (set_queue (cpu_of m c) q) no_cpu refl d

  idle-kept : (d : ℕ) → idle_of w d ≡ idle_of m d
  idle-kept d = get_or-set-kept (λ x. x.idle) m.cpus c (set_queue (cpu_of m c) q) no_cpu refl d

  lit_kept : (d : ℕ) → lit w d ≡ lit m d
  lit_kept d = lit-by m w d (idle-kept d)

  -- slot s as it was: in no other queue
  elsewhere : (d : ℕ) → d < CPUS → (d ≡ c → ⊥) → occ s (queue_of m d) ≡ 0
  elsewhere d hd ne = absent m d s ((k.slots s f.slot).queued d hd) (λ p r. ne (sym r ∙ f.from p))

  queued-there : (d : ℕ) → d < CPUS → occ s (queue_of w d) ≡ one_if (ready_on w d s)
  queued-there d hd =
      elim (ℕ_discrete d c) [
        | yes p ↦ rw (p, queue_here, state-there, home-there) (f.once ∙ sym (ready_here v g c (λ r. (f.to r).0)))
        | no p ↦ rw (queue_else d p, state-there, home-there) (elsewhere d hd p ∙ sym (ready_else v g d (λ r a. p (sym a ∙ (f.to r).0))))
      ]

  queued_else : (i : ℕ) → i < m.n → (i ≡ s → ⊥) → (d : ℕ) → d < CPUS → occ i (queue_of w d) ≡ one_if (ready_on w d i)
  queued_else i hi ne d hd =
      elim (ℕ_discrete d c) [
        | yes p ↦ rw (p, queue_here, state_else i ne, home_else i ne) (f.others i ne ∙ (k.slots i hi).queued c f.cpu)
        | no p ↦ rw (queue_else d p, state_else i ne, home_else i ne) ((k.slots i hi).queued d hd)
      ]

  slot_ok : (i : ℕ) → i < m.n → SlotCore w h i
  slot_ok i hi =
      elim (ℕ_discrete i s) [
        | yes p ↦
            rw p
            (record {
              state = rw state-there f.state;
              home = rw home-there f.home;
              epoch = rw epoch-there f.epoch;
              queued = queued-there;
              running = λ r. absurd (f.is (sym state-there ∙ r));
            })
        | no p ↦
            let o = k.slots i hi in
            record {
              state = rw (state_else i p) o.state;
              home = rw (home_else i p) o.home;
              epoch = rw (epoch_else i p) o.epoch;
              queued = queued_else i hi p;
              running = λ r. let a = o.running (sym (state_else i p) ∙ r) in rw (home_else i p, lit_kept (home_of m i), current-kept (home_of m i)) a;
            }
      ]

  -- an entry's epoch is as it was
  known-entries : (l : List TaskId) → occ s l ≤ one_if (eqb v READY) → AllKnown m l → AllKnown w l
  known-entries l most ks =
      known_kept m w l refl
      (λ i at. elim (ℕ_discrete i s) [
        | yes p ↦
            elim (ℕ_discrete v READY) [
              | yes r ↦ rw p (epoch-there ∙ (f.to r).1)
              | no r ↦ let z : one_if (eqb v READY) ≡ 0 = rw (ne_eqb v READY r) in absurd (omega (arith, ap (λ x. occ x l) p))
            ]
        | no p ↦ epoch_else i p
      ])
      ks

  known-queue : (d : ℕ) → d < CPUS → AllKnown w (queue_of w d)
  known-queue d hd =
      elim (ℕ_discrete d c) [
        | yes p ↦ rw (p, queue_here) (known-entries q (omega (arith, f.once)) f.entries)
        | no p ↦ rw (queue_else d p) (known-entries (queue_of m d) (omega (arith, elsewhere d hd p)) (k.cpus d hd).entries)
      ]

  runs : (d : ℕ) → Runs m d → Runs w d
  runs d r =
      let i = (current_of m d).slot in
      let away : i ≡ s → ⊥ = λ p. f.was (ap (λ x. state_of m x) (sym p) ∙ r.runs) in
      runs_by w d (current_of m d) (current-kept d) (known_as m w (current_of m d) refl (epoch_else i away) r.current)
      (state_else i away ∙ r.runs)
      (home_else i away ∙ r.home)

  rests : (d : ℕ) → d < CPUS → lit m d ≡ true → Rests m d → Rests w d
  rests d hd l r =
      let i = (idle_of m d).slot in
      elim (ℕ_discrete i s) [
        | yes p ↦
            let a = f.idle d hd l p in
            let epoch : epoch_of w i ≡ epoch_of m i = rw p (epoch-there ∙ a.0) in
            let home : home_of w i ≡ d = rw p (home-there ∙ a.1) in
            let mark : mark_of w i ≡ false = rw p (mark-there ∙ a.2) in
            rests_by w d (idle_of m d) (idle-kept d) (known_as m w (idle_of m d) refl epoch r.idle) home mark
        | no p ↦
            rests_by w d (idle_of m d) (idle-kept d) (known_as m w (idle_of m d) refl (epoch_else i p) r.idle) (home_else i p ∙ r.home) (mark_else i p ∙ r.mark)
      ]

  cpu_ok : (d : ℕ) → d < CPUS → CpuCore w h d
  cpu_ok d hd =
      let o = k.cpus d hd in
      record {
        entries = known-queue d hd;
        current = λ l ne. runs d (o.current (sym (lit_kept d) ∙ l) ne);
        rests = λ l. rests d hd (sym (lit_kept d) ∙ l) (o.rests (sym (lit_kept d) ∙ l));
        off = λ l. off_by m w d (current-kept d) (idle-kept d) (o.off (sym (lit_kept d) ∙ l));
      }

  shape_ok : Shape w
  shape_ok =
      record {
        some = k.shape.some;
        most = k.shape.most;
        states = length-set m.states s v ∙ k.shape.states;
        epochs = length-set m.epochs s e ∙ k.shape.epochs;
        homes = length-set m.homes s g ∙ k.shape.homes;
        marks = length-set m.marks s b ∙ k.shape.marks;
        cpus = length-set m.cpus c (set_queue (cpu_of m c) q) ∙ k.shape.cpus;
      }

  started-still : state_of w 0 ≡ EMPTY → ⊥
  started-still z =
      elim (ℕ_discrete 0 s) [
        | yes p ↦ f.zero (sym p) (sym state-there ∙ ap (λ x. state_of w x) (sym p) ∙ z)
        | no p ↦ k.on (sym (state_else 0 p) ∙ z)
      ]

  pub shift_core : Core (changed m s v e g b c q) h
  shift_core = record { shape = shape_ok; on = started-still; slots = slot_ok; cpus = cpu_ok; first = idle-kept 0 ∙ k.first }
