-- Counters over any run: conservation, the peak, counters that stop at their end, epochs, and when an old id is known again.
use mathlib.Core.Path.{◌≡◌, refl, sym, ◌∙◌, ap}
use mathlib.Core.Bool.{Bool, true, false, cond}
use mathlib.Core.Logic.{⊎_elim}
use mathlib.Core.List.{List, [], ◌∷◌}
use Prim.Native.Nat.{ℕ, ◌+◌, ◌%◌, ◌≤◌, ◌<◌, min, max}
use native.Mathlib.Nat.{mod-add-mod}
use native.Mathlib.Omega.{arith}
use Rattle.lists.specs.Search.{one_if}
use Rattle.lists.proofs.Basics.{get_or-all, not_so}
use Rattle.ids.specs.declared.TaskId.{TaskId}
use Rattle.ids.specs.Id.{EPOCHS}
use Rattle.answers.specs.Reply.{Reply}
use Rattle.answers.specs.Run.{left, times}
use Rattle.model.specs.Model.{Model, MOST, TOP, capped, bump, epoch_of, known, occupied, fresh}
use Rattle.model.specs.Sound.{Known, Live, Sound}
use Rattle.model.specs.Calls.{Call, step}
use Rattle.model.proofs.Counting.{occupied-fresh}
use Rattle.model.proofs.Facts.{known_is, known_true}
use Rattle.model.proofs.Claims.{fresh-sound}
use Rattle.model.proofs.Keeps.{step-sound}
use Rattle.model.proofs.Sizes.{step-size}
use Rattle.history.specs.History.{exit_of, blocking, displacing, highest, arrivals, departures, exits_of, blocks, displacements}
use Rattle.history.proofs.Changes.{changes}

-- CONSERVATION

-- first starts of a CPU plus admissions that gave an id, less exits that answered Switch, is the change in occupied slots
pub conserved : (m : Model) (ks : List Call) → Sound m → occupied (left step m ks) + departures m ks ≡ occupied m + arrivals m ks
unfolding left times
conserved m [] s = refl
conserved m (k ∷ ks) s = omega (arith, (changes m s k).slots, conserved (step m k).after ks (step-sound m k s))

pub conserved_fresh : (n : ℕ) → 1 ≤ n → n ≤ MOST → (ks : List Call) → occupied (left step (fresh n) ks) + departures (fresh n) ks ≡ arrivals (fresh n) ks
conserved_fresh n a b ks = omega (arith, conserved (fresh n) ks (fresh-sound n a b), occupied-fresh n)

-- THE PEAK

low : (m : Model) → Sound m → occupied m ≤ m.peak
low m s =
    ⊎_elim
    (λ (e : m ≡ fresh m.n). let z : occupied m ≡ 0 = ap (λ w. occupied w) e ∙ occupied-fresh m.n in omega arith)
    (λ (v : Live m). v.low)
    s.either

max_of : (a b : ℕ) → b ≤ a → max a b ≡ a
max_of a b h = omega arith

one_peak : (m : Model) (k : Call) → Sound m → (step m k).after.peak ≡ max m.peak (occupied (step m k).after)
one_peak m k s =
    let w = (step m k).after in
    ⊎_elim
    (λ (e : w.peak ≡ m.peak). e ∙ sym (max_of m.peak (occupied w) (omega (arith, low w (step-sound m k s)))))
    (λ (e : w.peak ≡ max m.peak (occupied w)). e)
    (changes m s k).peak

highest-least : (m : Model) (ks : List Call) → occupied m ≤ highest m ks
unfolding highest
highest-least m [] = omega arith
highest-least m (k ∷ ks) = omega arith

-- the peak is the most that was occupied at once, from any sound table on
pub peak-highest : (m : Model) (ks : List Call) → Sound m → (left step m ks).peak ≡ max m.peak (highest m ks)
unfolding left highest
peak-highest m [] s = sym (max_of m.peak (occupied m) (low m s))
peak-highest m (k ∷ ks) s =
    let w = (step m k).after in
    omega (arith, peak-highest w ks (step-sound m k s), one_peak m k s, low m s, highest-least w ks)

pub peak-fresh : (n : ℕ) → 1 ≤ n → n ≤ MOST → (ks : List Call) → (left step (fresh n) ks).peak ≡ highest (fresh n) ks
peak-fresh n a b ks = omega (arith, peak-highest (fresh n) ks (fresh-sound n a b))

-- COUNTERS THAT STOP AT THEIR END

module _ (f : Model → ℕ) (did : Model → Call → Reply → Bool) (one : (m : Model) (k : Call) → Sound m → f (step m k).after ≡ cond (did m k (step m k).reply) (capped (f m)) (f m)) where
  capped_by : (b : Bool) (v t : ℕ) → v ≤ TOP → (cond b (capped v) v ≤ TOP) × (min (cond b (capped v) v + t) TOP ≡ min (v + (one_if b + t)) TOP)
  capped_by true v t h = (omega arith, omega arith)
  capped_by false v t h = (omega arith, omega arith)

  counted : (m : Model) (ks : List Call) → Sound m → f m ≤ TOP → f (left step m ks) ≡ min (f m + times step did m ks) TOP
  unfolding left times
  counted m [] s h = omega arith
  counted m (k ∷ ks) s h =
      let w = (step m k).after in
      let (fits, sum) = capped_by (did m k (step m k).reply) (f m) (times step did w ks) h in
      counted w ks (step-sound m k s) (rw (one m k s) fits) ∙ rw (one m k s) sum

-- blocks that happened
pub events-counted : (m : Model) (ks : List Call) → Sound m → m.block_events ≤ TOP → (left step m ks).block_events ≡ min (m.block_events + blocks m ks) TOP
events-counted = counted (λ m. m.block_events) (λ m k r. blocking k r) (λ m k s. (changes m s k).events)

-- displaced leavers
pub overwrites-counted : (m : Model) (ks : List Call) → Sound m → m.overwrites ≤ TOP → (left step m ks).overwrites ≡ min (m.overwrites + displacements m ks) TOP
overwrites-counted = counted (λ m. m.overwrites) (λ m k r. displacing k r) (λ m k s. (changes m s k).overwrites)

pub counters_fresh : (n : ℕ) → 1 ≤ n → n ≤ MOST → (ks : List Call) → ((left step (fresh n) ks).block_events ≡ min (blocks (fresh n) ks) TOP) × ((left step (fresh n) ks).overwrites ≡ min (displacements (fresh n) ks) TOP)
counters_fresh n a b ks =
    let s = fresh-sound n a b in
    (omega (arith, events-counted (fresh n) ks s (omega arith)), omega (arith, overwrites-counted (fresh n) ks s (omega arith)))

-- OLD IDS

fits : (m : Model) (i : ℕ) → Sound m → i < m.n → epoch_of m i < EPOCHS
fits m i s h =
    ⊎_elim
    (λ (e : m ≡ fresh m.n). let z : epoch_of m i ≡ 0 = ap (λ w. epoch_of w i) e ∙ get_or-all m.n i 0 in omega arith)
    (λ (v : Live m). (v.slots i h).epoch)
    s.either

-- a slot's epoch is the number of its exits, round the span of epochs
bumped : (b : Bool) (e t : ℕ) → (cond b (bump e) e + t) % EPOCHS ≡ (e + (one_if b + t)) % EPOCHS
bumped true e t = mod-add-mod (e + 1) EPOCHS t ∙ ap (λ k. k % EPOCHS) (omega arith)
bumped false e t = ap (λ k. k % EPOCHS) (omega arith)

pub epoch_exits : (m : Model) (i : ℕ) (ks : List Call) → Sound m → i < m.n → epoch_of (left step m ks) i ≡ (epoch_of m i + exits_of i m ks) % EPOCHS
unfolding left times
epoch_exits m i [] s h = let e = fits m i s h in omega arith
epoch_exits m i (k ∷ ks) s h =
    let w = (step m k).after in
    epoch_exits w i ks (step-sound m k s) (rw (step-size m k) h)
    ∙ ap (λ e. (e + exits_of i w ks) % EPOCHS) ((changes m s k).epochs i)
    ∙ bumped (exit_of i k (step m k).reply) (epoch_of m i) (exits_of i w ks)

left-size : (m : Model) (ks : List Call) → (left step m ks).n ≡ m.n
unfolding left
left-size m [] = refl
left-size m (k ∷ ks) = left-size (step m k).after ks ∙ step-size m k

module _ (m : Model) (s : Sound m) (x : TaskId) (was : Known m x) (ks : List Call) where
  abbrev exits : ℕ
  exits = exits_of x.slot m ks

  epoch-now : epoch_of (left step m ks) x.slot ≡ (x.epoch + exits) % EPOCHS
  epoch-now = epoch_exits m x.slot ks s was.slot ∙ ap (λ e. (e + exits) % EPOCHS) was.epoch

  small : x.epoch < EPOCHS
  small = let f = fits m x.slot s was.slot in omega (arith, was.epoch)

  -- known in a table, an id is unknown after the next exit of its slot, until the slot's 65,536th ..
  pub old_unknown : 0 < exits → exits < EPOCHS → known (left step m ks) x ≡ false
  old_unknown lo hi = not_so (known (left step m ks) x) (λ e. let k = (known_is (left step m ks) x e).epoch in omega (arith, epoch-now, small, k))

  -- .. and is known again then
  pub old_known : exits ≡ EPOCHS → known (left step m ks) x ≡ true
  old_known e = known_true (left step m ks) x (record { slot = rw (left-size m ks) was.slot; epoch = omega (arith, epoch-now, small) })

  -- while its slot has no exit it stays known
  pub tenant-known : exits ≡ 0 → known (left step m ks) x ≡ true
  tenant-known e = known_true (left step m ks) x (record { slot = rw (left-size m ks) was.slot; epoch = omega (arith, epoch-now, small) })
