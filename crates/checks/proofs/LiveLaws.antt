-- A table that is started fits, part by part, exactly when it is live in the model.
use Rattle.std.proofs.Common.{◌≡◌, ℕ, ◌<◌, ◌≤◌, true, ◌⊎◌, List, length, get_or, sym, refl, ap, ◌∙◌, inl, inr, ⊎_elim, arith, ne_eqb}
use native.Mathlib.Decide.{ℕ_discrete}
use Rattle.lists.specs.Tab.{tab}
use Rattle.lists.specs.Search.{one_if}
use Rattle.lists.proofs.Basics.{true_or_false, not_both}
use Rattle.lists.specs.Flags.{FLAGS}
use Rattle.lists.proofs.FlagLaws.{set-off, off_set}
use Rattle.ids.specs.declared.TaskId.{TaskId}
use Rattle.ids.specs.Id.{EPOCHS, idle}
use Rattle.model.specs.Model.{Model, MOST, CPUS, EMPTY, READY, RUNNING, state_of}
use Rattle.model.specs.Sound.{occ, ready_on, SlotOk, OnOk, CpuOk, Live}
use Rattle.memory.specs.declared.Tasks.{Tasks}
use Rattle.memory.specs.View.{view}
use Rattle.memory.proofs.ViewLaws.{view_n, view-state, view-epoch, view-home, view-mark, view-current, view-idle}
use Rattle.checks.specs.Parts.{no_notes, entries, QueuesFit, queues_notes, is_on, OnFits, CpuFits, CpusFit, cpus_notes, SlotFits, LiveFits}
use Rattle.checks.proofs.QueueLaws.{occ_in, queues-long, queues-homed, queues-most, queues-at, queues-fit, queue_away}
use Rattle.checks.proofs.CpuLaws.{Runs, cpus_else, cpus_one, cpus-fit, cpus-at}
use Rattle.checks.proofs.SlotLaws.{one_most, Tallied, running-note, note-running, note-queued, note-asked}
use Rattle.checks.proofs.ReadLaws.{off-idle, ready_is, known-all, known-each, queue-tab, homed-known, homed-home, known-homed, occupied_is, started_is, parked_ok, parked-fits}

module _ (t : Tasks) (some : 1 ≤ t.small.n) (most : t.small.n ≤ MOST) (full : t.small.n ≤ length t.states) (started : get_or t.states 0 0 ≡ EMPTY → ⊥) where
  abbrev m : Model
  m = view t

  abbrev queue : ℕ → ℕ → TaskId
  queue = entries t.ring_slots t.ring_epochs t.small.n t.small.heads

  abbrev home : ℕ → ℕ
  home i = get_or t.homes i 0

  abbrev count : ℕ → ℕ → ℕ
  count i c = occ i (tab (get_or t.small.lens c 0) (queue c))

  abbrev Queues : Type 0
  Queues = QueuesFit t.epochs t.homes t.small.n queue t.small.lens CPUS no_notes

  -- the notes after the queues, and after the CPUs
  abbrev queued : List ℕ
  queued = queues_notes queue t.small.lens CPUS no_notes

  abbrev Cpus : Type 0
  Cpus = CpusFit t.states t.epochs t.homes t.marks t.small.n t.small.currents t.small.idles CPUS queued

  abbrev asks : List ℕ
  asks = cpus_notes t.small.currents t.small.idles CPUS queued

  long : t.small.n ≤ length queued
  long = omega (arith, queues-long t.epochs t.homes t.small.n queue t.small.lens most CPUS)

  decide : (i : ℕ) → Runs t.small.currents t.small.idles (home i) i ⊎ (Runs t.small.currents t.small.idles (home i) i → ⊥)
  decide i =
      ⊎_elim
      (λ on.
      elim (ℕ_discrete (get_or t.small.currents (home i) idle).slot i) [
        | yes e ↦ inl (record { on = on; slot = e })
        | no e ↦ inr (λ r. e r.slot)
      ])
      (λ off. inr (λ r. not_both r.on off))
      (true_or_false (is_on (home i) (get_or t.small.idles (home i) idle)))

  tallied : Queues → Cpus → (i : ℕ) → i < t.small.n → home i < CPUS → Tallied (Runs t.small.currents t.small.idles (home i) i) (count i) (home i) (get_or asks i 0)
  tallied q p i hi hh =
      let at = (queues-at t.epochs t.homes t.small.n queue t.small.lens most CPUS q i hi).0 hh in
      record {
        decided = decide i;
        runs =
            λ r. (
              cpus-at t.states t.epochs t.homes t.marks t.small.n t.small.currents t.small.idles queued long CPUS p i hi hh r,
              sym at
                  ∙ ap (λ s. get_or queued s 0) (sym r.slot)
                  ∙ ((cpus_one t.states t.epochs t.homes t.marks t.small.n t.small.currents t.small.idles queued long CPUS (home i) hh p).on r.on).current.free,
            );
        rests = λ r. cpus_else t.states t.epochs t.homes t.marks t.small.n t.small.currents t.small.idles queued long CPUS p i (λ _. r) ∙ at;
        most = rw (← at) (queues-most t.epochs t.homes t.small.n queue t.small.lens most CPUS q i hi);
        away =
            λ c hc ne.
            queue_away t.epochs t.homes t.small.n c (queue c) (get_or t.small.lens c 0) i (queues-homed t.epochs t.homes t.small.n queue t.small.lens most CPUS c hc q) ne;
      }

  -- FROM WHAT FITS

  module _ (q : Queues) (p : Cpus) (each : (i : ℕ) → i < t.small.n → SlotFits (get_or t.states i 0) (get_or t.homes i 0) (get_or t.marks i 0) (get_or asks i 0)) where
    tally : (i : ℕ) → i < t.small.n → Tallied (Runs t.small.currents t.small.idles (home i) i) (count i) (home i) (get_or asks i 0)
    tally i h = tallied q p i h (each i h).home

    slot_ok : ((i : ℕ) → get_or t.epochs i 0 < EPOCHS) → (i : ℕ) → i < t.small.n → SlotOk m i
    slot_ok fits i h =
        let f = each i h in
        let s = get_or t.states i 0 in
        record {
          state = rw (view-state t i h) f.state;
          home = rw (view-home t i h) f.home;
          epoch = rw (view-epoch t i h) (fits i);
          queued = λ c hc. rw (queue-tab t c hc, view-state t i h, view-home t i h) (note-queued s (tally i h) f.note c hc);
          running =
              λ e.
              let r = note-running s (tally i h) f.note (sym (view-state t i h) ∙ e) in
              rw (view-home t i h) (started_is t some started (home i) f.home ∙ r.on, ap (λ (x : TaskId). x.slot) (view-current t (home i) f.home) ∙ r.slot);
        }

    on_ok : (c : ℕ) → c < CPUS → OnFits t.states t.epochs t.homes t.marks t.small.n c (get_or t.small.currents c idle) (get_or t.small.idles c idle) queued → is_on c (get_or t.small.idles c idle) ≡ true → OnOk m c
    on_ok c hc o e =
        let who = get_or t.small.currents c idle in
        let own = get_or t.small.idles c idle in
        let w = o.current.homed in
        let d = o.idle.homed in
        let r : Runs t.small.currents t.small.idles (home who.slot) who.slot = rw w.home (record { on = e; slot = refl }) in
        let cu = view-current t c hc in
        let id = view-idle t c hc in
        record {
          current = rw cu (homed-known t c who w);
          runs = rw cu (view-state t who.slot w.slot ∙ running-note (get_or t.states who.slot 0) (tally who.slot w.slot) (each who.slot w.slot).note r);
          current_home = rw cu (homed-home t c who w);
          idle = rw id (homed-known t c own d);
          idle_active = rw (id, view-state t own.slot d.slot) o.idle.active;
          idle_home = rw id (homed-home t c own d);
          idle_mark = rw id (view-mark t own.slot d.slot ∙ set-off (get_or t.marks own.slot 0) o.idle.mark);
        }

    cpu_ok : (c : ℕ) → c < CPUS → CpuOk m c
    cpu_ok c hc =
        let o = cpus_one t.states t.epochs t.homes t.marks t.small.n t.small.currents t.small.idles queued long CPUS c hc p in
        let st = started_is t some started c hc in
        record {
          entries =
              rw (queue-tab t c hc)
              (known-all m (get_or t.small.lens c 0) (queue c) (λ j h. homed-known t c (queue c j) (queues-homed t.epochs t.homes t.small.n queue t.small.lens most CPUS c hc q j h)));
          on = λ e. let e2 = sym st ∙ e in on_ok c hc (o.on e2) e2;
          off = λ e. record { current = view-current t c hc ∙ o.off (sym st ∙ e); idle = view-idle t c hc ∙ off-idle c (get_or t.small.idles c idle) (sym st ∙ e) };
        }

  pub fits-live : ((i : ℕ) → get_or t.epochs i 0 < EPOCHS) → t.small.parked_id.epoch < EPOCHS → LiveFits t.states t.epochs t.homes t.marks t.ring_slots t.ring_epochs t.small → Live (view t)
  unfolding view
  fits-live fits last l =
      record {
        on = λ e. started (sym (view-state t 0 some) ∙ e);
        slots = slot_ok l.queues l.cpus l.each fits;
        cpus = cpu_ok l.queues l.cpus l.each;
        first = view-idle t 0 (omega arith) ∙ (cpus_one t.states t.epochs t.homes t.marks t.small.n t.small.currents t.small.idles queued long CPUS 0 (omega arith) l.cpus).first refl;
        parked = parked_ok t t.small.parked_id t.small.parked last l.parked;
        low = rw (occupied_is t full) l.low;
        high = l.high;
      }

  -- FROM A LIVE TABLE

  module _ (flags : (i : ℕ) → i < t.small.n → get_or t.marks i 0 < FLAGS) (flag : t.small.parked < FLAGS) (l : Live (view t)) where
    slot_in : (i : ℕ) → i < t.small.n → SlotOk m i
    slot_in i h = l.slots i (rw (view_n t) h)

    counted : (i c : ℕ) → i < t.small.n → c < CPUS → count i c ≡ one_if (ready_on m c i)
    counted i c h hc = ap (occ i) (sym (queue-tab t c hc)) ∙ (slot_in i h).queued c hc

    live-queues : Queues
    live-queues =
        queues-fit t.epochs t.homes t.small.n queue t.small.lens most CPUS
        (λ c hc j hj.
        let k = known-each m (get_or t.small.lens c 0) (queue c) (rw (queue-tab t c hc) at (l.cpus c hc).entries) j hj in
        let s = (queue c j).slot in
        let r = ready_is m c s (rw (counted s c (rw (view_n t) at k.slot) hc) at (occ_in (get_or t.small.lens c 0) j (queue c) hj)) in
        known-homed t c (queue c j) k r.1)
        (λ c i hc hi. rw (counted i c hi hc) (one_most (ready_on m c i)))

    -- a Running slot is noted by no queue
    live-free : (i c : ℕ) → i < t.small.n → c < CPUS → home i ≡ c → state_of m i ≡ RUNNING → get_or queued i 0 ≡ EMPTY
    live-free i c h hc e r =
        (queues-at t.epochs t.homes t.small.n queue t.small.lens most CPUS live-queues i h).0 (omega arith)
        ∙ counted i (home i) h (omega arith)
        ∙ rw (ne_eqb (state_of m i) READY (λ z. omega arith))

    live-cpu : (c : ℕ) → c < CPUS → CpuFits t.states t.epochs t.homes t.marks t.small.n c (get_or t.small.currents c idle) (get_or t.small.idles c idle) queued
    live-cpu c hc =
        let cu = view-current t c hc in
        let id = view-idle t c hc in
        let st = started_is t some started c hc in
        record {
          first = λ z. rw z (sym (view-idle t 0 (omega arith)) ∙ l.first);
          on =
              λ e.
              let who = get_or t.small.currents c idle in
              let own = get_or t.small.idles c idle in
              let o = (l.cpus c hc).on (st ∙ e) in
              let w = known-homed t c who (rw cu at o.current) (rw cu at o.current_home) in
              let d = known-homed t c own (rw id at o.idle) (rw id at o.idle_home) in
              record {
                current = record { homed = w; free = live-free who.slot c w.slot hc w.home (rw cu at o.runs) };
                idle = record { homed = d; mark = off_set (get_or t.marks own.slot 0) (sym (view-mark t own.slot d.slot) ∙ (rw id at o.idle_mark)); active = rw (id, view-state t own.slot d.slot) at o.idle_active };
              };
          off = λ e. sym cu ∙ ((l.cpus c hc).off (st ∙ e)).current;
        }

    live-cpus : Cpus
    live-cpus = cpus-fit t.states t.epochs t.homes t.marks t.small.n t.small.currents t.small.idles queued long CPUS live-cpu

    live-slot : (i : ℕ) → i < t.small.n → SlotFits (get_or t.states i 0) (home i) (get_or t.marks i 0) (get_or asks i 0)
    live-slot i h =
        let o = slot_in i h in
        let vs = view-state t i h in
        let vh = view-home t i h in
        let hh : home i < CPUS = rw vh at o.home in
        let st = started_is t some started (home i) hh in
        let cu = ap (λ (x : TaskId). x.slot) (view-current t (home i) hh) in
        record {
          state = rw vs at o.state;
          home = hh;
          mark = flags i h;
          note =
              note-asked (get_or t.states i 0) (tallied live-queues live-cpus i h hh) (rw vs at o.state)
              (rw (vs, vh) at (counted i (home i) h hh))
              (λ r. sym vs ∙ ap (λ s. state_of m s) (sym (cu ∙ r.slot)) ∙ ((l.cpus (home i) hh).on (st ∙ r.on)).runs)
              (λ e. let r = rw vh at (o.running (vs ∙ e)) in record { on = sym st ∙ r.0; slot = sym cu ∙ r.1 });
        }

    pub live-fits : LiveFits t.states t.epochs t.homes t.marks t.ring_slots t.ring_epochs t.small
    unfolding view
    live-fits =
        record {
          queues = live-queues;
          cpus = live-cpus;
          each = live-slot;
          parked = parked-fits t t.small.parked_id t.small.parked flag l.parked;
          low = rw (occupied_is t full) at l.low;
          high = l.high;
        }
