-- A switch keeps a table sound, whatever it was asked for.
use Rattle.std.specs.Prelude.{Some}
use mathlib.Core.Path.{◌≡◌, refl, sym, ◌∙◌, ap, ap₂}
use mathlib.Core.Bool.{true, ◌&&◌, not}
use mathlib.Core.List.{List, [], ◌∷◌}
use Prim.Native.Nat.{ℕ, ◌<◌}
use native.Mathlib.Omega.{arith}
use lib.ListN.{length, set}
use lib.Seq.{get_or-set_same, get_or-set_other}
use lib.Dec.{ltb}
use borrow.Author.Tests.{ltb-true}
use Rattle.ids.specs.declared.TaskId.{TaskId}
use Rattle.ids.specs.Id.{same_id}
use Rattle.answers.specs.Contract.{Step, refusing}
use Rattle.model.specs.Model.{Model, CPUS, EMPTY, READY, RUNNING, state_of, epoch_of, queue_of, current_of, started_on, bump}
use Rattle.model.specs.Sound.{ParkedOk, Shape, Live, Sound}
use Rattle.model.specs.Switch.{Kind, yield, preempt, block, exit, is_yield, leaves, enters, displaced, parks, chooses, turn, idles, pulls, switch_on, switch_step}
use Rattle.model.proofs.Core.{lit, lit_is, lit-by, Core, Ends, finish}
use Rattle.model.proofs.Ends.{core_rest}
use Rattle.model.proofs.Facts.{by_test, step_if, step-started, sound-live}
use Rattle.model.proofs.Steals.{pulls-idle, pulls-current, pulls-live}
use Rattle.model.proofs.Turns.{May, and_true, lights, not_zero, leaves_core, leaves-ends, idle-left, queue-left, enterer_ready, enters_core, enters-ends}

module _ (m : Model) (shape : Shape m) (v : Live m) (c : ℕ) (hc : c < CPUS) (on : started_on m c ≡ true) where
  abbrev from : TaskId
  from = current_of m c

  -- the head runs after the leaver
  abbrev next : Kind → TaskId → List TaskId → Model
  next kind x l = enters (leaves m c kind) c x l

  module _ (kind : Kind) (may : May m c kind) where
    left_core : Core (leaves m c kind) c
    left_core = leaves_core m shape v c hc on kind may

    left-on : lit (leaves m c kind) c ≡ true
    left-on = lit-by m (leaves m c kind) c (idle-left m shape v c hc on kind c) ∙ lights m shape v c hc on

    module _ (x : TaskId) (l : List TaskId) (q : queue_of (leaves m c kind) c ≡ x ∷ l) where
      next_core : Core (next kind x l) CPUS
      next_core = enters_core (leaves m c kind) c x l left_core hc left-on q

      next_ends : Ends (next kind x l)
      next_ends = enters-ends (leaves m c kind) c x l left_core hc left-on q (leaves-ends m shape v c hc on kind may)

      head-ready : state_of (leaves m c kind) x.slot ≡ READY
      head-ready = (enterer_ready (leaves m c kind) c x l left_core hc left-on q).0

  -- on an exit the leaver is parked: its slot is Empty and has the next epoch
  parked_leaver : (may : May m c exit) (x : TaskId) (l : List TaskId) → queue_of (leaves m c exit) c ≡ x ∷ l → ParkedOk (next exit x l) from
  unfolding leaves enters
  parked_leaver may x l q =
      let s = from.slot in
      let own = (v.cpus c hc).on on in
      let hs = own.current.slot in
      let empty : state_of (leaves m c exit) s ≡ EMPTY = get_or-set_same m.states s EMPTY EMPTY (omega (arith, shape.states)) in
      let away : s ≡ x.slot → ⊥ = λ p. omega (arith, empty, head-ready exit may x l q, ap (λ i. state_of (leaves m c exit) i) p) in
      record {
        slot = hs;
        other = not_zero m shape v c hc on (and_true (idles m c) may);
        state = get_or-set_other (set m.states s EMPTY) x.slot s RUNNING EMPTY away ∙ empty;
        fits = omega (arith, (v.slots s hs).epoch, own.current.epoch);
        epoch = ap bump (sym own.current.epoch) ∙ sym (get_or-set_same m.epochs s (bump (epoch_of m s)) 0 (omega (arith, shape.epochs)));
      }

  parks-live : (kind : Kind) (may : May m c kind) (x : TaskId) (l : List TaskId) → queue_of (leaves m c kind) c ≡ x ∷ l
      → Shape (parks (next kind x l) kind from) × Live (parks (next kind x l) kind from)
  unfolding parks
  parks-live yield may x l q = finish (next yield x l) (next_core yield may x l q) (next_ends yield may x l q)
  parks-live preempt may x l q = finish (next preempt x l) (next_core preempt may x l q) (next_ends preempt may x l q)
  parks-live block may x l q = finish (next block x l) (next_core block may x l q) (next_ends block may x l q)
  parks-live exit may x l q =
      let w = next exit x l in
      let z = next_ends exit may x l q in
      let o = parked_leaver may x l q in
      finish (parks w exit from) (core_rest w CPUS (Some from) (displaced w.parked w.overwrites) w.block_events w.peak (next_core exit may x l q))
      (record {
        awake = record { idles = z.awake.idles };
        parked = record { slot = o.slot; other = o.other; state = o.state; fits = o.fits; epoch = o.epoch };
        low = z.low;
        high = z.high;
      })

  chooses-live : (kind : Kind) (may : May m c kind) (q : List TaskId) → queue_of (leaves m c kind) c ≡ q
      → Shape (chooses (leaves m c kind) c kind from q).after × Live (chooses (leaves m c kind) c kind from q).after
  unfolding chooses
  chooses-live kind may [] e = absurd (queue-left m shape v c hc on kind may e)
  chooses-live kind may (x ∷ l) e =
      by_test (λ (w : Step Model). Shape w.after × Live w.after) (same_id x from) _ _ (λ _. finish (next kind x l) (next_core kind may x l e) (next_ends kind may x l e))
      (λ _. parks-live kind may x l e)

  -- a started CPU takes a turn
  pub turn-live : (kind : Kind) → May m c kind → Shape (turn m c kind).after × Live (turn m c kind).after
  unfolding turn
  turn-live kind may = chooses-live kind may (queue_of (leaves m c kind) c) refl

-- what a CPU has pulled changes neither whether it is started nor who runs there
module _ (m : Model) (shape : Shape m) (v : Live m) (c : ℕ) where
  pub pulls-on : started_on m c ≡ true → started_on (pulls m c) c ≡ true
  pulls-on on =
      lit_is (pulls m c) (pulls-live m shape v c).1.on c ∙ lit-by m (pulls m c) c (pulls-idle m c c) ∙ sym (lit_is m v.on c) ∙ on

  pub pulls-idles : idles (pulls m c) c ≡ idles m c
  pulls-idles = ap₂ (λ a b. same_id a b) (pulls-current m c c) (pulls-idle m c c)

  pub switch_on-live : c < CPUS → started_on m c ≡ true → (kind : Kind) → Shape (switch_on m c kind).after × Live (switch_on m c kind).after
  unfolding switch_on
  switch_on-live hc on kind =
      let u = pulls-live m shape v c in
      by_test (λ (w : Step Model). Shape w.after × Live w.after) (idles m c && not (is_yield kind)) _ _ (λ _. u)
      (λ e. turn-live (pulls m c) u.0 u.1 c hc (pulls-on on) kind (ap (λ b. b && not (is_yield kind)) pulls-idles ∙ e))

pub switch-sound : (m : Model) (c : ℕ) (kind : Kind) → Sound m → Sound (switch_step m c kind).after
unfolding switch_step
switch-sound m c kind s =
    step-started m _ s
    (λ v. step_if (ltb c (length m.cpus)) _ _
    (λ e. step_if (started_on m c) (switch_on m c kind) (refusing 6 m)
    (λ on. sound-live (switch_on m c kind).after (switch_on-live m s.shape v c (omega (arith, ltb-true c (length m.cpus) e, s.shape.cpus)) on kind))
    (λ _. s))
    (λ _. s))
