-- The moves of a CPU that calls are made of, each of which keeps the core: its task stops and leaves it between two tasks,
-- a task of its own starts to run, and a CPU that is off gets an idle. All three change one slot that is homed there and not
-- queued, and the CPU's current or idle.
use mathlib.Core.Path.{◌≡◌, refl, sym, ◌∙◌, ap}
use mathlib.Core.Bool.{Bool, true, false, cond}
use Prim.Native.Nat.{ℕ, ◌<◌}
use native.Mathlib.Omega.{arith}
use native.Mathlib.Decide.{ℕ_discrete}
use lib.ListN.{length-set}
use lib.Seq.{get_or-set_same, get_or-set_other, set-get_or}
use lib.Dec.{eqb}
use borrow.Author.Tests.{ne_eqb}
use Rattle.lists.proofs.Basics.{not_both}
use Rattle.ids.specs.Id.{idle}
use Rattle.model.specs.Model.{Model, Cpu, CPUS, STATES, EMPTY, READY, RUNNING, no_cpu, state_of, home_of, mark_of, cpu_of, queue_of, current_of, idle_of, tenant, with_state, with_cpu}
use Rattle.model.specs.Sound.{Shape, Known}
use Rattle.model.proofs.Counting.{get_or-set-kept, ready_else, known_as, known_kept}
use Rattle.model.proofs.Core.{lit_by, lit, SlotCore, CpuCore, Core, runs_by, rests_by, off_by}
use Rattle.model.proofs.SlotMoves.{Quiet, unqueued}

-- slot s gets state v and CPU c becomes x; CPU h was between two tasks, and CPU g is
record Handover (m : Model) (h g s v c : ℕ) (x : Cpu) : Type 0 where
  cpu : c < CPUS
  slot : s < m.n
  state : v < STATES
  zero : s ≡ 0 → v ≡ EMPTY → ⊥
  home : home_of m s ≡ c
  was : state_of m s ≡ READY → ⊥
  is : v ≡ READY → ⊥
  queue : x.queue ≡ queue_of m c
  -- nothing else runs there, and no other CPU is between two tasks
  alone : (i : ℕ) → i < m.n → (i ≡ s → ⊥) → state_of m i ≡ RUNNING → home_of m i ≡ c → ⊥
  others : (d : ℕ) → d < CPUS → (d ≡ c → ⊥) → (d ≡ h → ⊥) × (d ≡ g → ⊥)
  -- it runs exactly if the CPU is not between two tasks
  runs : v ≡ RUNNING → (c ≡ g → ⊥) × (lit_by c x ≡ true) × (x.current.slot ≡ s)
  current : lit_by c x ≡ true → (c ≡ g → ⊥) → (v ≡ RUNNING) × (x.current ≡ tenant m s)
  rests : lit_by c x ≡ true → Known m x.idle × (home_of m x.idle.slot ≡ c) × (mark_of m x.idle.slot ≡ false)
  off : lit_by c x ≡ false → (x.current ≡ idle) × (x.idle ≡ idle)
  first : c ≡ 0 → x.idle ≡ idle

module _ (m : Model) (h g s v c : ℕ) (x : Cpu) (k : Core m h) (f : Handover m h g s v c x) where
  abbrev w : Model
  w = with_cpu (with_state m s v) c x

  state-there : state_of w s ≡ v
  state-there = get_or-set_same m.states s v EMPTY (omega (arith, k.shape.states, f.slot))

  state_else : (i : ℕ) → (i ≡ s → ⊥) → state_of w i ≡ state_of m i
  state_else i ne = get_or-set_other m.states s i v EMPTY ne

  cpu_here : cpu_of w c ≡ x
  cpu_here = get_or-set_same m.cpus c x no_cpu (omega (arith, k.shape.cpus, f.cpu))

  cpu_else : (d : ℕ) → (d ≡ c → ⊥) → cpu_of w d ≡ cpu_of m d
  cpu_else d ne = get_or-set_other m.cpus c d x no_cpu ne

  queue-kept : (d : ℕ) → queue_of w d ≡ queue_of m d
  queue-kept d = get_or-set-kept (λ y. y.queue) m.cpus c x no_cpu f.queue d

  lit_here : lit w c ≡ lit_by c x
  lit_here = ap (λ y. lit_by c y) cpu_here

  lit_else : (d : ℕ) → (d ≡ c → ⊥) → lit w d ≡ lit m d
  lit_else d ne = ap (λ y. lit_by d y) (cpu_else d ne)

  slot_ok : (i : ℕ) → i < m.n → SlotCore w g i
  slot_ok i hi =
      let o = k.slots i hi in
      elim (ℕ_discrete i s) [
        | yes p ↦
            record {
              state = rw (p, state-there) f.state;
              home = o.home;
              epoch = o.epoch;
              queued = λ d hd. rw (queue-kept d, p, state-there) (unqueued m h k s f.slot f.was d hd ∙ sym (ready_else v (home_of m s) d (λ r _. f.is r)));
              running = λ r.
                  let a = f.runs (sym state-there ∙ ap (λ y. state_of w y) (sym p) ∙ r) in
                  rw (p, f.home) (a.0, lit_here ∙ a.1, ap (λ y. y.current.slot) cpu_here ∙ a.2);
            }
        | no p ↦
            record {
              state = rw (state_else i p) o.state;
              home = o.home;
              epoch = o.epoch;
              queued = λ d hd. rw (queue-kept d, state_else i p) (o.queued d hd);
              running = λ r.
                  let was = sym (state_else i p) ∙ r in
                  let a = o.running was in
                  let away = f.alone i hi p was in
                  ((f.others (home_of m i) o.home away).1, lit_else (home_of m i) away ∙ a.1, ap (λ y. y.current.slot) (cpu_else (home_of m i) away) ∙ a.2);
            }
      ]

  cpu_ok_here : CpuCore w g c
  cpu_ok_here =
      record {
        entries = rw (queue-kept c) (known_kept m w (queue_of m c) refl (λ _ _. refl) (k.cpus c f.cpu).entries);
        current = λ l ne.
            let a = f.current (sym lit_here ∙ l) ne in
            runs_by w c (tenant m s) (ap (λ y. y.current) cpu_here ∙ a.1) (record { slot = f.slot; epoch = refl }) (state-there ∙ a.0) f.home;
        rests = λ l.
            let a = f.rests (sym lit_here ∙ l) in
            rests_by w c x.idle (ap (λ y. y.idle) cpu_here) (known_as m w x.idle refl refl a.0) a.1 a.2;
        off = λ l.
            let a = f.off (sym lit_here ∙ l) in
            record { current = ap (λ y. y.current) cpu_here ∙ a.0; idle = ap (λ y. y.idle) cpu_here ∙ a.1 };
      }

  cpu_ok_else : (d : ℕ) → d < CPUS → (d ≡ c → ⊥) → CpuCore w g d
  cpu_ok_else d hd ne =
      let o = k.cpus d hd in
      let e = cpu_else d ne in
      record {
        entries = rw (queue-kept d) (known_kept m w (queue_of m d) refl (λ _ _. refl) o.entries);
        current = λ l _.
            let y = current_of m d in
            let r = o.current (sym (lit_else d ne) ∙ l) (f.others d hd ne).0 in
            let away : y.slot ≡ s → ⊥ = λ p. ne (sym r.home ∙ ap (λ i. home_of m i) p ∙ f.home) in
            runs_by w d y (ap (λ z. z.current) e) (known_as m w y refl refl r.current) (state_else y.slot away ∙ r.runs) r.home;
        rests = λ l.
            let r = o.rests (sym (lit_else d ne) ∙ l) in
            rests_by w d (idle_of m d) (ap (λ z. z.idle) e) (known_as m w (idle_of m d) refl refl r.idle) r.home r.mark;
        off = λ l. off_by m w d (ap (λ z. z.current) e) (ap (λ z. z.idle) e) (o.off (sym (lit_else d ne) ∙ l));
      }

  shape_ok : Shape w
  shape_ok =
      let o = k.shape in
      record { some = o.some; most = o.most; states = length-set m.states s v ∙ o.states; epochs = o.epochs; homes = o.homes; marks = o.marks; cpus = length-set m.cpus c x ∙ o.cpus }

  started-still : state_of w 0 ≡ EMPTY → ⊥
  started-still z =
      elim (ℕ_discrete 0 s) [
        | yes p ↦ f.zero (sym p) (sym state-there ∙ ap (λ y. state_of w y) (sym p) ∙ z)
        | no p ↦ k.on (sym (state_else 0 p) ∙ z)
      ]

  first_ok : idle_of w 0 ≡ idle
  first_ok =
      elim (ℕ_discrete 0 c) [
        | yes p ↦ ap (λ d. idle_of w d) p ∙ ap (λ y. y.idle) cpu_here ∙ f.first (sym p)
        | no p ↦ ap (λ y. y.idle) (cpu_else 0 p) ∙ k.first
      ]

  handover_core : Core (with_cpu (with_state m s v) c x) g
  handover_core =
      record {
        shape = shape_ok;
        on = started-still;
        slots = slot_ok;
        cpus = λ d hd. elim (ℕ_discrete d c) [ yes p ↦ rw p cpu_ok_here | no p ↦ cpu_ok_else d hd p ];
        first = first_ok;
      }

-- the task that runs stops
pub stop_core : (m : Model) (c v : ℕ) → Core m CPUS → c < CPUS → lit m c ≡ true → v < STATES → (v ≡ READY → ⊥) → (v ≡ RUNNING → ⊥)
    → ((current_of m c).slot ≡ 0 → v ≡ EMPTY → ⊥) → Core (with_state m (current_of m c).slot v) c
stop_core m c v k hc on hv ready runs zero =
    let o = k.cpus c hc in
    let own = o.current on (λ e. omega arith) in
    rw (set-get_or m.cpus c no_cpu) at
    (handover_core m CPUS c (current_of m c).slot v c (cpu_of m c) k
    (record {
      cpu = hc;
      slot = own.current.slot;
      state = hv;
      zero = zero;
      home = own.home;
      was = λ e. omega (arith, own.runs);
      is = ready;
      queue = refl;
      alone = λ i hi ne r p. ne (sym ((k.slots i hi).running r).2 ∙ ap (λ d. (current_of m d).slot) p);
      others = λ d hd ne. (λ e. omega arith, ne);
      runs = λ r. absurd (runs r);
      current = λ _ ne. absurd (ne refl);
      rests = λ l. ((o.rests l).idle, (o.rests l).home, (o.rests l).mark);
      off = λ l. absurd (not_both on l);
      first = λ p. ap (λ d. idle_of m d) p ∙ k.first;
    }))

-- a CPU whose current is the task of a slot; one whose idle is
abbrev pub runner : Model → ℕ → ℕ → Cpu
runner m c s = record { queue = queue_of m c; current = tenant m s; idle = idle_of m c }

abbrev pub idler : Model → ℕ → ℕ → Cpu
idler m c s = record { queue = queue_of m c; current = current_of m c; idle = tenant m s }

-- a task starts to run
pub run_core : (m : Model) (c s : ℕ) → Core m c → c < CPUS → lit m c ≡ true → s < m.n → Quiet m s → home_of m s ≡ c
    → Core (with_cpu (with_state m s RUNNING) c (runner m c s)) CPUS
run_core m c s k hc on hs quiet home =
    let o = k.cpus c hc in
    handover_core m c CPUS s RUNNING c (runner m c s) k
    (record {
      cpu = hc;
      slot = hs;
      state = omega arith;
      zero = λ _ e. omega arith;
      home = home;
      was = quiet.0;
      is = λ e. omega arith;
      queue = refl;
      alone = λ i hi _ r p. ((k.slots i hi).running r).0 p;
      others = λ d hd ne. (ne, λ e. omega arith);
      runs = λ _. (λ e. omega arith, on, refl);
      current = λ _ _. (refl, refl);
      rests = λ l. ((o.rests l).idle, (o.rests l).home, (o.rests l).mark);
      off = λ l. absurd (not_both on l);
      first = λ p. ap (λ d. idle_of m d) p ∙ k.first;
    })

-- a CPU that is off gets an idle
module _ (m : Model) (c s : ℕ) (k : Core m CPUS) (hc : c < CPUS) (dark : lit m c ≡ false) (hs : s < m.n) (other : s ≡ 0 → ⊥) (quiet : Quiet m s) (home : home_of m s ≡ c) (mark : mark_of m s ≡ false) where
  lights : lit_by c (idler m c s) ≡ true
  lights = rw (ne_eqb s 0 other) (either (eqb c 0))
    where
      either : (b : Bool) → cond b true true ≡ true
      either true = refl
      either false = refl

  pub light_core : Core (with_cpu m c (idler m c s)) c
  light_core =
      rw (set-get_or m.states s EMPTY) at
      (handover_core m CPUS c s (state_of m s) c (idler m c s) k
      (record {
        cpu = hc;
        slot = hs;
        state = (k.slots s hs).state;
        zero = λ p. absurd (other p);
        home = home;
        was = quiet.0;
        is = quiet.0;
        queue = refl;
        alone = λ i hi _ r p. not_both ((k.slots i hi).running r).1 (ap (λ d. lit m d) p ∙ dark);
        others = λ d hd ne. (λ e. omega arith, ne);
        runs = λ r. absurd (quiet.1 r);
        current = λ _ ne. absurd (ne refl);
        rests = λ _. (record { slot = hs; epoch = refl }, home, mark);
        off = λ l. absurd (not_both lights l);
        first = λ p. absurd (not_both refl (ap (λ d. lit m d) (sym p) ∙ dark));
      }))

  pub lit_now : lit (with_cpu m c (idler m c s)) c ≡ true
  lit_now = ap (λ y. lit_by c y) (get_or-set_same m.cpus c (idler m c s) no_cpu (omega (arith, k.shape.cpus))) ∙ lights
