-- What is added to the core where a call ends: idles are Ready or Running, a parked id's slot is Empty, the peak is between the
-- occupied slots and N. Each of these under one change of state.
use Rattle.std.specs.Prelude.{Option, Some, None}
use mathlib.Core.Path.{◌≡◌, refl, sym, ◌∙◌, ap, subst}
use mathlib.Core.Bool.{Bool, true, not}
use mathlib.Core.List.{List}
use Prim.Native.Nat.{ℕ, ◌≤◌, ◌<◌}
use native.Mathlib.Omega.{arith}
use native.Mathlib.Decide.{ℕ_discrete}
use lib.ListN.{length, get_or, set, length-set}
use lib.Seq.{get_or-set_same, get_or-set_other}
use lib.Dec.{eqb}
use borrow.Author.Tests.{ne_eqb}
use Rattle.lists.specs.Search.{count_of, one_if}
use Rattle.lists.specs.Entries.{Holds}
use Rattle.ids.specs.declared.TaskId.{TaskId}
use Rattle.model.specs.Model.{Model, CPUS, EMPTY, state_of, epoch_of, queue_of, current_of, idle_of, rest_to, noted}
use Rattle.model.specs.Sound.{Shape, Active, ParkedOk}
use Rattle.lists.proofs.SearchLaws.{count_most}
use Rattle.model.proofs.Counting.{one_if-most, known_as, known_kept, count_set}
use Rattle.model.proofs.Core.{lit, lit-by, Core, Awake, Ends, runs_by, rests_by, off_by}

-- the counters and the parked id are no part of the core
pub core_rest : (m : Model) (h : ℕ) (p : Option TaskId) (o b t : ℕ) → Core m h → Core (rest_to m p o b t) h
core_rest m h p o b t k =
    let w = rest_to m p o b t in
    let s = k.shape in
    record {
      shape = record { some = s.some; most = s.most; states = s.states; epochs = s.epochs; homes = s.homes; marks = s.marks; cpus = s.cpus };
      on = k.on;
      slots = λ i hi. let a = k.slots i hi in record { state = a.state; home = a.home; epoch = a.epoch; queued = a.queued; running = a.running };
      cpus = λ d hd.
          let a = k.cpus d hd in
          record {
            entries = known_kept m w (queue_of m d) refl (λ _ _. refl) a.entries;
            current = λ l ne. let r = a.current l ne in runs_by w d (current_of m d) refl (known_as m w (current_of m d) refl refl r.current) r.runs r.home;
            rests = λ l. let r = a.rests l in rests_by w d (idle_of m d) refl (known_as m w (idle_of m d) refl refl r.idle) r.home r.mark;
            off = λ l. off_by m w d refl refl (a.off l);
          };
      first = k.first;
    }

abbrev full : ℕ → Bool
full s = not (eqb s EMPTY)

-- a parked id's slot stays as it was
pub parked_by : (m w : Model) (p : Option TaskId) → w.n ≡ m.n
    → ((x : TaskId) → p ≡ Some x → state_of m x.slot ≡ EMPTY → (state_of w x.slot ≡ state_of m x.slot) × (epoch_of w x.slot ≡ epoch_of m x.slot))
    → Holds (ParkedOk m) p → Holds (ParkedOk w) p
parked_by m w None n f o = tt
parked_by m w (Some x) n f o =
    let a = f x refl o.state in
    record { slot = rw n o.slot; other = o.other; state = a.0 ∙ o.state; fits = o.fits; epoch = o.epoch ∙ sym a.1 }

module _ (l : List ℕ) (s v : ℕ) (h : s < length l) where
  -- an active slot stays active
  pub active-set : (i : ℕ) → (i ≡ s → Active v) → Active (get_or l i EMPTY) → Active (get_or (set l s v) i EMPTY)
  active-set i f a =
      elim (ℕ_discrete i s) [
        | yes p ↦ rw (p, get_or-set_same l s v EMPTY h) (f p)
        | no p ↦ rw (get_or-set_other l s i v EMPTY p) a
      ]

  -- a slot that is occupied adds none
  count_less : (get_or l s EMPTY ≡ EMPTY → ⊥) → count_of full (set l s v) ≤ count_of full l
  count_less f =
      let one : one_if (full (get_or l s EMPTY)) ≡ 1 = rw (ne_eqb (get_or l s EMPTY) EMPTY f) in
      omega (arith, count_set full l s v EMPTY h, one_if-most (full v))

module _ (m w : Model) (s v : ℕ) (shape : Shape m) (hs : s < m.n) (states : w.states ≡ set m.states s v) where
  in_states : s < length m.states
  in_states = omega (arith, shape.states)

  seen : (i : ℕ) → state_of w i ≡ get_or (set m.states s v) i EMPTY
  seen i = ap (λ l. get_or l i EMPTY) states

  -- idles stay awake where none of them falls asleep
  pub awake_set : ((d : ℕ) → d < CPUS → idle_of w d ≡ idle_of m d) → ((d : ℕ) → d < CPUS → lit m d ≡ true → (idle_of m d).slot ≡ s → Active v) → Awake m → Awake w
  awake_set idles still a =
      record {
        idles = λ d hd l.
            let on = sym (lit-by m w d (idles d hd)) ∙ l in
            rw (idles d hd, seen (idle_of m d).slot) (active-set m.states s v in_states (idle_of m d).slot (still d hd on) (a.idles d hd on));
      }

  module _ (n : w.n ≡ m.n) (epochs : (i : ℕ) → (i ≡ s → ⊥) → epoch_of w i ≡ epoch_of m i) (parked : w.parked ≡ m.parked) (peak : w.peak ≡ m.peak) where
    -- another slot than the parked one
    parked-set : ((x : TaskId) → m.parked ≡ Some x → state_of m x.slot ≡ EMPTY → x.slot ≡ s → ⊥) → Holds (ParkedOk m) m.parked → Holds (ParkedOk w) w.parked
    parked-set away o =
        subst (λ p. Holds (ParkedOk w) p) (sym parked)
        (parked_by m w m.parked n
        (λ x p e. (seen x.slot ∙ get_or-set_other m.states s x.slot v EMPTY (away x p e), epochs x.slot (away x p e)))
        o)

    -- one occupied slot changes its state
    pub ends_set : (state_of m s ≡ EMPTY → ⊥) → Awake w → Ends m → Ends w
    ends_set occ awake z =
        record {
          awake = awake;
          parked = parked-set (λ x _ e p. occ (ap (λ i. state_of m i) (sym p) ∙ e)) z.parked;
          low = rw (states, peak) (omega (arith, count_less m.states s v in_states occ, z.low));
          high = rw (peak, n) z.high;
        }

    -- a free slot is taken, which the peak notes
    pub ends-noted : ((x : TaskId) → m.parked ≡ Some x → x.slot ≡ s → ⊥) → Holds (ParkedOk m) m.parked → m.peak ≤ m.n → Awake w → Ends (noted w)
    ends-noted other o high awake =
        record {
          awake = record { idles = awake.idles };
          parked = parked_by w (noted w) w.parked refl (λ _ _ _. (refl, refl)) (parked-set (λ x p _. other x p) o);
          low = omega arith;
          high = omega (arith, count_most full w.states, ap length states ∙ length-set m.states s v, shape.states);
        }
