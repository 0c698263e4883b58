-- Tables just made are sound, and so is a table on which a CPU has been started.
use Rattle.std.specs.Prelude.{Some}
use mathlib.Core.Path.{◌≡◌, refl, sym, ◌∙◌, ap, subst}
use mathlib.Core.Logic.{inl, inr}
use mathlib.Core.Bool.{true, false, ◌&&◌}
use mathlib.Core.List.{List, []}
use Prim.Native.Nat.{ℕ, ◌≤◌, ◌<◌}
use native.Mathlib.Omega.{arith}
use native.Mathlib.Decide.{ℕ_discrete}
use lib.ListN.{length, get_or, set, replicate, length-replicate, length-set}
use lib.Seq.{get_or-set_same, get_or-set_other, set-get_or, set-set}
use lib.Dec.{leb, ltb}
use borrow.Author.Tests.{ne_eqb, leb-true, ltb-true}
use Rattle.lists.specs.Entries.{Holds, free}
use Rattle.lists.proofs.Basics.{not_both, both_true, get_or-all}
use Rattle.ids.specs.declared.TaskId.{TaskId}
use Rattle.ids.specs.Id.{idle}
use Rattle.answers.specs.Contract.{refusing}
use Rattle.model.specs.Model.{Model, Cpu, MOST, CPUS, STATES, EMPTY, READY, RUNNING, BLOCKED, no_cpu, state_of, home_of, mark_of, cpu_of, queue_of, idle_of, tenant, started, started_on, free_slot, with_state, with_home, with_mark, with_cpu, noted, fresh}
use Rattle.model.specs.Sound.{occ, Active, ParkedOk, Shape, Live, Sound}
use Rattle.model.specs.Steps.{new_step, claimed, start_step, start_cpu_step}
use Rattle.model.proofs.Counting.{ready_else, occ-nil, known-nil}
use Rattle.model.proofs.Core.{lit, lit_is, lit-by, CpuCore, Core, Awake, rests_by, live_core, live-ends, finish}
use Rattle.model.proofs.SlotMoves.{Quiet, house_core}
use Rattle.model.proofs.CpuMoves.{run_core, idler, light_core, lit_now}
use Rattle.model.proofs.Ends.{core_rest, active-set, ends-noted}
use Rattle.model.proofs.Facts.{unstarted, quiet_idle, Vacant, free-vacant, step_if, step-started, sound-live}

-- TABLES JUST MADE

pub fresh-shape : (n : ℕ) → 1 ≤ n → n ≤ MOST → Shape (fresh n)
fresh-shape n a b =
    record {
      some = a;
      most = b;
      states = length-replicate n EMPTY;
      epochs = length-replicate n 0;
      homes = length-replicate n 0;
      marks = length-replicate n false;
      cpus = length-replicate CPUS no_cpu;
    }

pub fresh-sound : (n : ℕ) → 1 ≤ n → n ≤ MOST → Sound (fresh n)
fresh-sound n a b = record { shape = fresh-shape n a b; either = inl refl }

pub new-sound : (n : ℕ) → Sound (new_step n).after
unfolding new_step
new-sound n =
    step_if (leb 1 n && leb n MOST) _ _
    (λ e. let a = both_true (leb 1 n) (leb n MOST) e in fresh-sound n (leb-true 1 n a.0) (leb-true n MOST a.1))
    (λ _. fresh-sound 1 (omega arith) (omega arith))

-- A CPU GETS ITS IDLE, WHICH RUNS

-- the table with slot s as the idle of CPU c, before its peak is noted
abbrev claims : Model → ℕ → ℕ → Model
claims m c s =
    with_cpu (with_mark (with_home (with_state m s RUNNING) s c) s false) c (record { queue = queue_of m c; current = tenant m s; idle = tenant m s })

module _ (m : Model) (shape : Shape m) (c s : ℕ) (hc : c < CPUS) (hs : s < m.n) where
  abbrev w : Model
  w = claims m c s

  its : Cpu
  its = record { queue = queue_of m c; current = tenant m s; idle = tenant m s }

  claims_awake : ((d : ℕ) → d < CPUS → (d ≡ c → ⊥) → lit m d ≡ true → Active (state_of m (idle_of m d).slot)) → Awake w
  unfolding its
  claims_awake others =
      let in_states : s < length m.states = omega (arith, shape.states) in
      record {
        idles = λ d hd l.
            elim (ℕ_discrete d c) [
              | yes p ↦
                  let here : cpu_of w c ≡ its = get_or-set_same m.cpus c its no_cpu (omega (arith, shape.cpus)) in
                  subst (λ i. Active (state_of w i)) (sym (ap (λ e. (idle_of w e).slot) p ∙ ap (λ y. y.idle.slot) here)) (inr (get_or-set_same m.states s RUNNING EMPTY in_states))
              | no p ↦
                  let there : cpu_of w d ≡ cpu_of m d = get_or-set_other m.cpus c d its no_cpu p in
                  let on = sym (lit-by m w d (ap (λ y. y.idle) there)) ∙ l in
                  subst (λ i. Active (state_of w i)) (sym (ap (λ y. y.idle.slot) there)) (active-set m.states s RUNNING in_states (idle_of m d).slot (λ _. inr refl) (others d hd p on))
            ];
      }

  claims_live : Core w CPUS → Awake w → ((x : TaskId) → m.parked ≡ Some x → x.slot ≡ s → ⊥) → Holds (ParkedOk m) m.parked → m.peak ≤ m.n
      → Shape (claimed m c s) × Live (claimed m c s)
  unfolding claimed
  claims_live core awake other o high =
      finish (noted w) (core_rest w CPUS w.parked w.overwrites w.block_events (noted w).peak core)
      (ends-noted m w s RUNNING shape hs refl refl (λ _ _. refl) refl refl other o high awake)

-- ANOTHER CPU IS STARTED

module _ (m : Model) (shape : Shape m) (v : Live m) (c s : ℕ) (hc : c < CPUS) (off : started_on m c ≡ false) (hs : s < m.n) (free : Vacant m s) where
  abbrev k : Core m CPUS
  k = live_core m shape v

  quiet : Quiet m s
  quiet = (λ e. omega (arith, free.empty), λ e. omega (arith, free.empty))

  other : s ≡ 0 → ⊥
  other p = v.on (ap (λ i. state_of m i) (sym p) ∙ free.empty)

  -- the slot is homed here, and then it is this CPU's idle
  abbrev housed : Model
  housed = with_mark (with_home m s c) s false

  abbrev lit_up : Model
  lit_up = with_cpu housed c (idler m c s)

  cpu_lit : cpu_of lit_up c ≡ idler m c s
  cpu_lit = get_or-set_same m.cpus c (idler m c s) no_cpu (omega (arith, shape.cpus))

  claimed_core : Core (claims m c s) CPUS
  claimed_core =
      let home : home_of housed s ≡ c = get_or-set_same m.homes s c 0 (omega (arith, shape.homes)) in
      let mark : mark_of housed s ≡ false = get_or-set_same m.marks s false false (omega (arith, shape.marks)) in
      let dark : lit housed c ≡ false = sym (lit_is m v.on c) ∙ off in
      let there = house_core m CPUS k s c hs hc quiet (quiet_idle m CPUS k (live-ends m v).awake s quiet) in
      let on = light_core housed c s there hc dark hs other quiet home mark in
      rw (
        ap (λ y. y.queue) cpu_lit,
        ap (λ y. y.idle) cpu_lit,
        set-set m.cpus c (idler m c s) (record { queue = queue_of m c; current = tenant m s; idle = tenant m s }),
      ) at
      (run_core lit_up c s on hc (lit_now housed c s there hc dark hs other quiet home mark) hs quiet home)

  pub claimed-live : Shape (claimed m c s) × Live (claimed m c s)
  claimed-live =
      claims_live m shape c s hc hs claimed_core
      (claims_awake m shape c s hc hs (λ d hd _ l. (live-ends m v).awake.idles d hd l))
      free.other v.parked v.high

-- THE TABLE IS STARTED

module _ (n : ℕ) (a : 1 ≤ n) (b : n ≤ MOST) where
  -- a fresh table in which slot 0 has a task that does not run yet
  abbrev waits : Model
  waits = with_state (fresh n) 0 BLOCKED

  abbrev zeros : List ℕ
  zeros = replicate n 0

  all_zero : (i : ℕ) → get_or zeros i 0 ≡ 0
  all_zero i = get_or-all n i 0

  unlit : (c : ℕ) → (c ≡ 0 → ⊥) → lit (fresh n) c ≡ false
  unlit c ne = rw (ne_eqb c 0 ne, get_or-all CPUS c no_cpu)

  no_queue : (c : ℕ) → queue_of waits c ≡ []
  no_queue c = ap (λ y. y.queue) (get_or-all CPUS c no_cpu)

  waits_there : state_of waits 0 ≡ BLOCKED
  waits_there = get_or-set_same (replicate n EMPTY) 0 BLOCKED EMPTY (omega (arith, length-replicate n EMPTY))

  waits_else : (i : ℕ) → (i ≡ 0 → ⊥) → state_of waits i ≡ EMPTY
  waits_else i ne = get_or-set_other (replicate n EMPTY) 0 i BLOCKED EMPTY ne ∙ get_or-all n i EMPTY

  waits_quiet : (i : ℕ) → (state_of waits i < STATES) × (state_of waits i ≡ READY → ⊥) × (state_of waits i ≡ RUNNING → ⊥)
  waits_quiet i =
      elim (ℕ_discrete i 0) [
        | yes p ↦ let e : state_of waits i ≡ BLOCKED = rw p waits_there in omega arith
        | no p ↦ let e = waits_else i p in omega arith
      ]

  waits-cpu : (c : ℕ) → c < CPUS → CpuCore waits 0 c
  waits-cpu c hc =
      record {
        entries = rw (no_queue c) (known-nil waits);
        current = λ l ne. absurd (not_both l (unlit c ne));
        rests = λ l.
            elim (ℕ_discrete c 0) [
              | yes p ↦ rw p (rests_by waits 0 idle refl (record { slot = a; epoch = all_zero 0 }) (all_zero 0) (get_or-all n 0 false))
              | no p ↦ absurd (not_both l (unlit c p))
            ];
        off = λ _. let e = get_or-all CPUS c no_cpu in record { current = ap (λ y. y.current) e; idle = ap (λ y. y.idle) e };
      }

  waits-shape : Shape waits
  waits-shape =
      let o = fresh-shape n a b in
      record { some = o.some; most = o.most; states = length-set (replicate n EMPTY) 0 BLOCKED ∙ o.states; epochs = o.epochs; homes = o.homes; marks = o.marks; cpus = o.cpus }

  waits_core : Core waits 0
  waits_core =
      record {
        shape = waits-shape;
        on = λ e. omega (arith, waits_there);
        slots = λ i _.
            record {
              state = (waits_quiet i).0;
              home = rw (all_zero i) (omega arith);
              epoch = rw (all_zero i) (omega arith);
              queued = λ c _. ap (λ q. occ i q) (no_queue c) ∙ occ-nil i ∙ sym (ready_else (state_of waits i) (home_of waits i) c (λ e _. (waits_quiet i).1 e));
              running = λ r. absurd ((waits_quiet i).2 r);
            };
        cpus = waits-cpu;
        first = refl;
      }

  started_core : Core (claims (fresh n) 0 0) CPUS
  started_core =
      let homes : set zeros 0 0 ≡ zeros = ap (λ x. set zeros 0 x) (sym (all_zero 0)) ∙ set-get_or zeros 0 0 in
      let marks : set (replicate n false) 0 false ≡ replicate n false = ap (λ x. set (replicate n false) 0 x) (sym (get_or-all n 0 false)) ∙ set-get_or (replicate n false) 0 false in
      rw (homes, marks, all_zero 0)
      (rw (set-set zeros 0 BLOCKED RUNNING, all_zero 0) at
      (run_core waits 0 0 waits_core (omega arith) refl a ((waits_quiet 0).1, (waits_quiet 0).2) (all_zero 0)))

  pub started-live : Shape (claimed (fresh n) 0 0) × Live (claimed (fresh n) 0 0)
  started-live =
      claims_live (fresh n) (fresh-shape n a b) 0 0 (omega arith) a started_core
      (claims_awake (fresh n) (fresh-shape n a b) 0 0 (omega arith) a (λ d _ ne l. absurd (not_both l (unlit d ne))))
      (λ x p _. absurd (not_both refl (ap free p))) tt (omega arith)

pub start-sound : (m : Model) → Sound m → Sound (start_step m).after
unfolding start_step
start-sound m s =
    step_if (started m) (refusing 4 m) _ (λ _. s)
    (λ off.
    let e = unstarted m s off in
    sound-live (claimed m 0 0) (subst (λ w. Shape (claimed w 0 0) × Live (claimed w 0 0)) (sym e) (started-live m.n s.shape.some s.shape.most)))

pub start_cpu_sound : (m : Model) (c : ℕ) → c < CPUS → Sound m → Sound (start_cpu_step m c).after
unfolding start_cpu_step
start_cpu_sound m c hc s =
    step-started m _ s
    (λ v. step_if (started_on m c) _ _ (λ _. s)
    (λ off. step_if (ltb (free_slot m) m.n) _ _
    (λ e.
    let hs = ltb-true (free_slot m) m.n e in
    sound-live (claimed m c (free_slot m)) (claimed-live m s.shape v c (free_slot m) hc off hs (free-vacant m hs)))
    (λ _. s)))
