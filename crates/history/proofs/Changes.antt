-- What one call does to occupied slots, epochs and counters, told by the call and its answer.
use Rattle.std.specs.Prelude.{Option, Some, None}
use mathlib.Core.Path.{◌≡◌, refl, sym, ◌∙◌, ap}
use mathlib.Core.Bool.{Bool, true, false, ◌&&◌, not, cond}
use mathlib.Core.Logic.{◌⊎◌, inl, inr, ⊎_elim}
use mathlib.Core.List.{List, [], ◌∷◌, ◌++◌}
use Prim.Native.Nat.{ℕ, ◌+◌, ◌<◌, max}
use native.Mathlib.Omega.{arith}
use native.Mathlib.Decide.{ℕ_discrete}
use lib.ListN.{length, get_or, set, length-set}
use lib.Seq.{get_or-set_same, get_or-set_other}
use lib.Dec.{eqb, ltb}
use borrow.Author.Tests.{eq-eqb, ne_eqb, eqb-true, ltb-true}
use Rattle.lists.specs.Search.{count_of, one_if}
use Rattle.lists.specs.Entries.{is_there}
use Rattle.lists.proofs.Basics.{both_true, get_or-all}
use Rattle.ids.specs.declared.TaskId.{TaskId}
use Rattle.answers.specs.Reply.{Reply, refused, done, named, stays, switched}
use Rattle.answers.specs.Contract.{Step, refusing}
use Rattle.model.specs.Model.{Model, EMPTY, READY, RUNNING, BLOCKED, CPUS, state_of, epoch_of, queue_of, current_of, idle_of, known, is_idle, started, started_on, occupied, free_slot, tenant, with_state, bump, capped}
use Rattle.model.specs.Sound.{Shape, Live, Sound}
use Rattle.model.specs.Steps.{when_started, claimed, start_step, start_cpu_step, admitted, admit_step, mark_step, woken, wake_step, collect_step}
use Rattle.model.specs.Switch.{Kind, yield, preempt, block, exit, is_yield, is_nil, idles, can_steal, stolen, stealing, try_steal_step, displaced, pulls, turn, switch_on, switch_step}
use Rattle.model.specs.Calls.{Call, start, start1, admit, switch, mark, steal, wake, collect, read, step}
use Rattle.model.proofs.Counting.{count_set, occupied-set}
use Rattle.model.proofs.Facts.{known_is, live, unstarted, by_test, free-vacant, head-known, head-ready, busy-queue}
use Rattle.model.proofs.Steals.{pulls-live}
use Rattle.model.proofs.Switches.{pulls-on, pulls-idles}
use Rattle.model.proofs.Turns.{and_true}
use Rattle.model.proofs.SwitchLaws.{handed, slept, exited, turn-yield, turn-preempt, turn-block, turn-exit, turn-stay}
use Rattle.history.specs.History.{switched_by, kind_in, arrival, departure, exit_of, blocking, displacing}

-- the table after a call, by its answer
pub record Change (m : Model) (k : Call) (r : Reply) (w : Model) : Type 0 where
  pub slots : occupied w + one_if (departure k r) ≡ occupied m + one_if (arrival m k r)
  pub epochs : (i : ℕ) → epoch_of w i ≡ cond (exit_of i k r) (bump (epoch_of m i)) (epoch_of m i)
  pub events : w.block_events ≡ cond (blocking k r) (capped m.block_events) m.block_events
  pub overwrites : w.overwrites ≡ cond (displacing k r) (capped m.overwrites) m.overwrites
  -- the peak is as it was, or raised to what is occupied now
  pub peak : (w.peak ≡ m.peak) ⊎ (w.peak ≡ max m.peak (occupied w))

-- a call that is no arrival and no switch, and leaves as many slots occupied
pub record Quiet (m w : Model) : Type 0 where
  pub slots : occupied w ≡ occupied m
  pub epochs : w.epochs ≡ m.epochs
  pub events : w.block_events ≡ m.block_events
  pub overwrites : w.overwrites ≡ m.overwrites
  pub peak : w.peak ≡ m.peak

module _ (m : Model) where
  quiet : Quiet m m
  quiet = record { slots = refl; epochs = refl; events = refl; overwrites = refl; peak = refl }

  quiet_if : (b : Bool) (x y : Step Model) → (b ≡ true → Quiet m x.after) → (b ≡ false → Quiet m y.after) → Quiet m (cond b x y).after
  quiet_if true x y f g = f refl
  quiet_if false x y f g = g refl

  quiet_model : (b : Bool) (x y : Model) → Quiet m x → Quiet m y → Quiet m (cond b x y)
  quiet_model true x y p q = p
  quiet_model false x y p q = q

  -- a call of which nothing is told
  record Silent (k : Call) (r : Reply) : Type 0 where
    no_arrival : arrival m k r ≡ false
    no_departure : departure k r ≡ false
    no_exit : (i : ℕ) → exit_of i k r ≡ false
    no_block : blocking k r ≡ false
    no_displacing : displacing k r ≡ false

  silently : (k : Call) (r : Reply) (w : Model) → Silent k r → Quiet m w → Change m k r w
  silently k r w s q =
      record {
        slots = rw (s.no_departure, s.no_arrival) (omega (arith, q.slots));
        epochs = λ i. rw (s.no_exit i) (ap (λ l. get_or l i 0) q.epochs);
        events = rw s.no_block q.events;
        overwrites = rw s.no_displacing q.overwrites;
        peak = inl q.peak;
      }

  pulls_quiet : (c : ℕ) → Quiet m (pulls m c)
  unfolding pulls stealing stolen
  pulls_quiet c =
      quiet_model (idles m c && is_nil (queue_of m c)) _ _ (quiet_model (can_steal m c) _ _ (record { slots = refl; epochs = refl; events = refl; overwrites = refl; peak = refl }) quiet) quiet

  stealing_quiet : (t : ℕ) → Quiet m (stealing m t)
  unfolding stealing stolen
  stealing_quiet t = quiet_model (can_steal m t) _ _ (record { slots = refl; epochs = refl; events = refl; overwrites = refl; peak = refl }) quiet

  -- of a call that is no switch, or whose answer is none, only an arrival can be told
  silent : (k : Call) (r : Reply) → kind_in k ≡ None → arrival m k r ≡ false → Silent k r
  silent k r e a = record { no_arrival = a; no_departure = rw e; no_exit = λ i. rw e; no_block = rw e; no_displacing = rw e }

  silent_switch : (c : ℕ) (kind : Kind) (r : Reply) → switched_by r ≡ None → Silent (switch c kind) r
  silent_switch c yield r e = record { no_arrival = refl; no_departure = refl; no_exit = λ i. refl; no_block = refl; no_displacing = refl }
  silent_switch c preempt r e = record { no_arrival = refl; no_departure = refl; no_exit = λ i. refl; no_block = refl; no_displacing = refl }
  silent_switch c block r e = record { no_arrival = refl; no_departure = refl; no_exit = λ i. refl; no_block = rw e; no_displacing = refl }
  silent_switch c exit r e = record { no_arrival = refl; no_departure = rw e; no_exit = λ i. rw e; no_block = refl; no_displacing = rw e }

-- ARRIVALS

-- an Empty slot gets a task, and the peak is noted
module _ (m : Model) (shape : Shape m) (s : ℕ) (hs : s < m.n) (empty : state_of m s ≡ EMPTY) where
  one_more : (v : ℕ) → (v ≡ EMPTY → ⊥) → occupied (with_state m s v) ≡ occupied m + 1
  one_more v ne =
      let was : one_if (not (eqb (state_of m s) EMPTY)) ≡ 0 = rw (eq-eqb (state_of m s) EMPTY empty) in
      let is : one_if (not (eqb v EMPTY)) ≡ 1 = rw (ne_eqb v EMPTY ne) in
      omega (arith, occupied-set m shape s v hs, was, is)

  claims : (k : Call) (r : Reply) (c : ℕ) → arrival m k r ≡ true → kind_in k ≡ None → Change m k r (claimed m c s)
  unfolding claimed
  claims k r c a e =
      record {
        slots = rw (a, e) (omega (arith, one_more RUNNING (λ z. omega arith)));
        epochs = λ i. rw e;
        events = rw e;
        overwrites = rw e;
        peak = inr refl;
      }

  admits : (k : Call) (r : Reply) (c : ℕ) → arrival m k r ≡ true → kind_in k ≡ None → Change m k r (admitted m c s)
  unfolding admitted
  admits k r c a e =
      record {
        slots = rw (a, e) (omega (arith, one_more READY (λ z. omega arith)));
        epochs = λ i. rw e;
        events = rw e;
        overwrites = rw e;
        peak = inr refl;
      }

-- TURNS

-- the task that ran has state v, and the head of the queue runs
module _ (m : Model) (shape : Shape m) (v : Live m) (c : ℕ) (hc : c < CPUS) (on : started_on m c ≡ true) (x : TaskId) (l : List TaskId) (q : queue_of m c ≡ x ∷ l) where
  abbrev s : ℕ
  s = (current_of m c).slot

  runs : state_of m s ≡ RUNNING
  runs = ((v.cpus c hc).on on).runs

  ready : state_of m x.slot ≡ READY
  ready = (head-ready m v c x l hc q).0

  handed_slots : (u : ℕ) (w : Model) → w.states ≡ set (set m.states s u) x.slot RUNNING → occupied w + 1 ≡ occupied m + one_if (not (eqb u EMPTY))
  handed_slots u w e =
      let slot = ((v.cpus c hc).on on).current.slot in
      let one = occupied-set m shape s u slot in
      let was : one_if (not (eqb (state_of m s) EMPTY)) ≡ 1 = rw runs in
      let other : x.slot ≡ s → ⊥ = λ z. let t : state_of m x.slot ≡ RUNNING = rw z runs in omega (arith, ready, t) in
      let left = with_state m s u in
      let head : state_of left x.slot ≡ READY = get_or-set_other m.states s x.slot u EMPTY other ∙ ready in
      let two = count_set (λ t. not (eqb t EMPTY)) left.states x.slot RUNNING EMPTY (rw length-set (omega (arith, shape.states, (head-known m v c x l hc q).slot))) in
      let then : one_if (not (eqb (state_of left x.slot) EMPTY)) ≡ 1 = rw head in
      let is : occupied w ≡ occupied (with_state left x.slot RUNNING) = ap (count_of (λ t. not (eqb t EMPTY))) e in
      omega (arith, one, was, two, then, is)

  handed_quiet : (b : List TaskId) → Quiet m (handed m c READY x b)
  handed_quiet b = record { slots = omega (arith, handed_slots READY (handed m c READY x b) refl); epochs = refl; events = refl; overwrites = refl; peak = refl }

  slept_change : (release : Option TaskId) → Change m (switch c block) (switched (current_of m c) x release) (slept m c x l)
  slept_change release =
      record {
        slots = omega (arith, handed_slots BLOCKED (slept m c x l) refl);
        epochs = λ i. refl;
        events = refl;
        overwrites = refl;
        peak = inl refl;
      }

  exited_change : Change m (switch c exit) (switched (current_of m c) x m.parked) (exited m c x l)
  exited_change =
      record {
        slots = omega (arith, handed_slots EMPTY (exited m c x l) refl);
        epochs = λ i. epoch i (ℕ_discrete s i);
        events = refl;
        overwrites = counted m.parked;
        peak = inl refl;
      }
    where
      epoch : (i : ℕ) → Dec (s ≡ i) → epoch_of (exited m c x l) i ≡ cond (eqb s i) (bump (epoch_of m i)) (epoch_of m i)
      epoch i (yes e) = rw (eq-eqb s i e, ← e) (get_or-set_same m.epochs s (bump (epoch_of m s)) 0 (omega (arith, shape.epochs, ((v.cpus c hc).on on).current.slot)))
      epoch i (no e) = rw (ne_eqb s i e) (get_or-set_other m.epochs s i (bump (epoch_of m s)) 0 (λ z. e (sym z)))

      counted : (p : Option TaskId) → displaced p m.overwrites ≡ cond (is_there p) (capped m.overwrites) m.overwrites
      counted None = refl
      counted (Some p) = refl

  turned : (kind : Kind) → Change m (switch c kind) (turn m c kind).reply (turn m c kind).after
  turned yield = let e = turn-yield m shape v c hc on x l q in rw e (silently m (switch c yield) _ _ (silent_yield (current_of m c)) (handed_quiet (l ++ (current_of m c ∷ []))))
    where
      silent_yield : (from : TaskId) → Silent m (switch c yield) (switched from x None)
      silent_yield from = record { no_arrival = refl; no_departure = refl; no_exit = λ i. refl; no_block = refl; no_displacing = refl }
  turned preempt = let e = turn-preempt m shape v c hc on x l q in rw e (silently m (switch c preempt) _ _ (silent_preempt (current_of m c)) (handed_quiet (l ++ (current_of m c ∷ []))))
    where
      silent_preempt : (from : TaskId) → Silent m (switch c preempt) (switched from x None)
      silent_preempt from = record { no_arrival = refl; no_departure = refl; no_exit = λ i. refl; no_block = refl; no_displacing = refl }
  turned block = let e = turn-block m shape v c hc on x l q in rw e (slept_change None)
  turned exit = let e = turn-exit m shape v c hc on x l q in rw e exited_change

-- EVERY CALL

-- what a switch does to a table that it finds changed quietly, it does to the table as it was
after_quiet : (m u w : Model) (c : ℕ) (kind : Kind) (r : Reply) → Quiet m u → Change u (switch c kind) r w → Change m (switch c kind) r w
after_quiet m u w c kind r q d =
    let slots = q.slots in
    let before = d.slots in
    record {
      slots = omega arith;
      epochs = λ i. d.epochs i ∙ ap (λ e. cond (exit_of i (switch c kind) r) (bump e) e) (ap (λ l. get_or l i 0) q.epochs);
      events = d.events ∙ ap (λ v. cond (blocking (switch c kind) r) (capped v) v) q.events;
      overwrites = d.overwrites ∙ ap (λ v. cond (displacing (switch c kind) r) (capped v) v) q.overwrites;
      peak = ⊎_elim (λ e. inl (e ∙ q.peak)) (λ e. inr (e ∙ ap (λ p. max p (occupied w)) q.peak)) d.peak;
    }

module _ (m : Model) (sound : Sound m) where
  abbrev Does : Call → Step Model → Type 0
  Does k s = Change m k s.reply s.after

  still : (k : Call) (r : Reply) → kind_in k ≡ None → arrival m k r ≡ false → Change m k r m
  still k r e a = silently m k r m (silent m k r e a) (quiet m)

  started_or_3 : (k : Call) (s : Step Model) → kind_in k ≡ None → arrival m k (refused 3) ≡ false → (started m ≡ true → Does k s) → Does k (when_started m s)
  started_or_3 k s e a f = by_test (λ (t : Step Model). Does k t) (started m) s (refusing 3 m) f (λ _. still k (refused 3) e a)

  of_start : Does start (start_step m)
  unfolding start_step
  of_start =
      by_test (λ (t : Step Model). Does start t) (started m) (refusing 4 m) (record { reply = done; after = claimed m 0 0 })
      (λ _. still start (refused 4) refl refl)
      (λ off.
      let empty : state_of m 0 ≡ EMPTY = ap (λ w. state_of w 0) (unstarted m sound off) ∙ get_or-all m.n 0 EMPTY in
      claims m sound.shape 0 sound.shape.some empty start done 0 refl refl)

  of_start1 : Does start1 (start_cpu_step m 1)
  unfolding start_cpu_step
  of_start1 =
      started_or_3 start1 _ refl refl
      (λ _. by_test (λ (t : Step Model). Does start1 t) (started_on m 1) (record { reply = named (Some (idle_of m 1)); after = m }) _
      (λ on. still start1 (named (Some (idle_of m 1))) refl (rw on))
      (λ off. by_test (λ (t : Step Model). Does start1 t) (ltb (free_slot m) m.n) (record { reply = named (Some (tenant m (free_slot m))); after = claimed m 1 (free_slot m) }) (record { reply = named None; after = m })
      (λ free. let below = ltb-true (free_slot m) m.n free in claims m sound.shape (free_slot m) below (free-vacant m below).empty start1 (named (Some (tenant m (free_slot m)))) 1 (rw off) refl)
      (λ _. still start1 (named None) refl refl)))

  of_admit : (c : ℕ) → Does (admit c) (admit_step m c)
  unfolding admit_step
  of_admit c =
      started_or_3 (admit c) _ refl refl
      (λ _. by_test (λ (t : Step Model). Does (admit c) t) (ltb c (length m.cpus) && ltb (free_slot m) m.n) (record { reply = named (Some (tenant m (free_slot m))); after = admitted m c (free_slot m) }) (record { reply = named None; after = m })
      (λ e.
      let below = ltb-true (free_slot m) m.n (both_true (ltb c (length m.cpus)) (ltb (free_slot m) m.n) e).1 in
      admits m sound.shape (free_slot m) below (free-vacant m below).empty (admit c) (named (Some (tenant m (free_slot m)))) c refl refl)
      (λ _. still (admit c) (named None) refl refl))

  -- a call that is never told of: what it leaves is enough
  unheard : (k : Call) (s : Step Model) → kind_in k ≡ None → arrival m k s.reply ≡ false → Quiet m s.after → Does k s
  unheard k s e a q = silently m k s.reply s.after (silent m k s.reply e a) q

  quiet_started : (s : Step Model) → (started m ≡ true → Quiet m s.after) → Quiet m (when_started m s).after
  quiet_started s f = quiet_if m (started m) s (refusing 3 m) f (λ _. quiet m)

  mark_quiet : (id : TaskId) (b : Bool) → Quiet m (mark_step m id b).after
  unfolding mark_step
  mark_quiet id b = quiet_started _ (λ _. quiet_if m (known m id && not (is_idle m id)) _ _ (λ _. record { slots = refl; epochs = refl; events = refl; overwrites = refl; peak = refl }) (λ _. quiet m))

  wake_quiet : (id : TaskId) → Quiet m (wake_step m id).after
  unfolding wake_step woken
  wake_quiet id =
      quiet_started _ (λ _. quiet_if m (known m id && eqb (state_of m id.slot) BLOCKED) _ _
      (λ e.
      let (k, b) = both_true (known m id) (eqb (state_of m id.slot) BLOCKED) e in
      let state = eqb-true (state_of m id.slot) BLOCKED b in
      let was : one_if (not (eqb (state_of m id.slot) EMPTY)) ≡ 1 = rw state in
      record { slots = omega (arith, occupied-set m sound.shape id.slot READY (known_is m id k).slot, was); epochs = refl; events = refl; overwrites = refl; peak = refl })
      (λ _. quiet m))

  collect_quiet : Quiet m (collect_step m).after
  unfolding collect_step
  collect_quiet = quiet_started _ (λ _. record { slots = refl; epochs = refl; events = refl; overwrites = refl; peak = refl })

  steal_quiet : (t : ℕ) → Quiet m (try_steal_step m t).after
  unfolding try_steal_step
  steal_quiet t = quiet_started _ (λ _. stealing_quiet m t)

  -- a switch that leaves the table, or only steals
  stays_so : (c : ℕ) (kind : Kind) (r : Reply) (w : Model) → switched_by r ≡ None → Quiet m w → Change m (switch c kind) r w
  stays_so c kind r w e q = silently m (switch c kind) r w (silent_switch m c kind r e) q

  nobody : (c : ℕ) → started m ≡ true → c < CPUS → Live (pulls m c) → started_on (pulls m c) c ≡ true → idles m c ≡ false → queue_of (pulls m c) c ≡ [] → ⊥
  nobody c on hc w on-u i q = busy-queue (pulls m c) w c hc on-u (pulls-idles m sound.shape (live m sound on) c ∙ i) q

  -- with nobody queued only idle can run, and its yield stays
  alone : (c : ℕ) (kind : Kind) → started m ≡ true → c < CPUS → Shape (pulls m c) → Live (pulls m c) → started_on (pulls m c) c ≡ true → (idles m c && not (is_yield kind)) ≡ false → queue_of (pulls m c) c ≡ [] → Does (switch c kind) (turn (pulls m c) c kind)
  alone c yield on hc shape w on-u e q = rw (turn-stay (pulls m c) shape w c hc on-u q) (stays_so c yield stays (pulls m c) refl (pulls_quiet m c))
  alone c preempt on hc shape w on-u e q = absurd (nobody c on hc w on-u (and_true (idles m c) e) q)
  alone c block on hc shape w on-u e q = absurd (nobody c on hc w on-u (and_true (idles m c) e) q)
  alone c exit on hc shape w on-u e q = absurd (nobody c on hc w on-u (and_true (idles m c) e) q)

  of_on : (c : ℕ) (kind : Kind) → started m ≡ true → c < CPUS → started_on m c ≡ true → Does (switch c kind) (switch_on m c kind)
  unfolding switch_on
  of_on c kind on hc on-c =
      let v = live m sound on in
      let u = pulls m c in
      let (shape, w) = pulls-live m sound.shape v c in
      let on-u = pulls-on m sound.shape v c on-c in
      by_test (λ (t : Step Model). Does (switch c kind) t) (idles m c && not (is_yield kind)) (record { reply = stays; after = u }) (turn u c kind)
      (λ _. stays_so c kind stays u refl (pulls_quiet m c))
      (λ e. go shape w on-u e (queue_of u c) refl)
    where
      go : Shape (pulls m c) → Live (pulls m c) → started_on (pulls m c) c ≡ true → (idles m c && not (is_yield kind)) ≡ false → (q : List TaskId) → queue_of (pulls m c) c ≡ q → Does (switch c kind) (turn (pulls m c) c kind)
      go shape w on-u e [] q = alone c kind on hc shape w on-u e q
      go shape w on-u e (x ∷ l) q = after_quiet m (pulls m c) _ c kind _ (pulls_quiet m c) (turned (pulls m c) shape w c hc on-u x l q kind)

  of_switch : (c : ℕ) (kind : Kind) → Does (switch c kind) (switch_step m c kind)
  unfolding switch_step
  of_switch c kind =
      by_test (λ (t : Step Model). Does (switch c kind) t) (started m) _ (refusing 3 m)
      (λ on. by_test (λ (t : Step Model). Does (switch c kind) t) (ltb c (length m.cpus)) _ (record { reply = stays; after = m })
      (λ below. by_test (λ (t : Step Model). Does (switch c kind) t) (started_on m c) (switch_on m c kind) (refusing 6 m)
      (λ on-c. of_on c kind on (omega (arith, ltb-true c (length m.cpus) below, sound.shape.cpus)) on-c)
      (λ _. stays_so c kind (refused 6) m refl (quiet m)))
      (λ _. stays_so c kind stays m refl (quiet m)))
      (λ _. stays_so c kind (refused 3) m refl (quiet m))

  pub changes : (k : Call) → Change m k (step m k).reply (step m k).after
  unfolding step
  changes start = of_start
  changes start1 = of_start1
  changes (admit c) = of_admit c
  changes (switch c kind) = of_switch c kind
  changes (mark id b) = unheard (mark id b) (mark_step m id b) refl refl (mark_quiet id b)
  changes (steal t) = unheard (steal t) (try_steal_step m t) refl refl (steal_quiet t)
  changes (wake id) = unheard (wake id) (wake_step m id) refl refl (wake_quiet id)
  changes collect = unheard collect (collect_step m) refl refl collect_quiet
  changes (read r) = still (read r) _ refl refl
