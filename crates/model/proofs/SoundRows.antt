-- Tables that are sound, and tables that are not: the ends of document 01's clauses.
use Rattle.std.specs.Prelude.{Some, None}
use mathlib.Core.Path.{refl}
use mathlib.Core.Bool.{true}
use mathlib.Core.List.{List, [], ◌∷◌}
use Prim.Native.Nat.{ℕ, ◌≤◌}
use native.Mathlib.Omega.{arith}
use Rattle.lists.specs.Search.{count_of}
use Rattle.lists.proofs.Basics.{not_both}
use Rattle.ids.specs.declared.TaskId.{TaskId}
use Rattle.answers.specs.Run.{left}
use Rattle.model.specs.Model.{Model, CPUS, MOST, rest_to, with_epoch, with_mark, fresh}
use Rattle.model.specs.Steps.{start_step, claimed}
use Rattle.model.specs.Switch.{yield, exit}
use Rattle.model.specs.Calls.{Call, start, start1, admit, switch, mark, steal, step}
use Rattle.model.specs.Sound.{Sound}
use Rattle.model.proofs.Core.{live_core, live-ends, finish}
use Rattle.model.proofs.Ends.{core_rest}
use Rattle.model.proofs.SlotMoves.{Quiet, wipe_core}
use Rattle.model.proofs.Facts.{live, sound-live, quiet_idle}
use Rattle.model.proofs.Claims.{fresh-sound}
use Rattle.model.proofs.Keeps.{calls-sound}

abbrev id : ℕ → ℕ → TaskId
id s e = record { slot = s; epoch = e }

reached : (n : ℕ) → 1 ≤ n → n ≤ MOST → (ks : List Call) → Sound (left step (fresh n) ks)
reached n a b ks = calls-sound (fresh n) ks (fresh-sound n a b)

-- one slot; a queue of CPU 1 before its start (A3); a parked slot; every slot taken, so that the peak is N
pub one_slot : Sound (left step (fresh 1) (start ∷ []))
one_slot = reached 1 (omega arith) (omega arith) (start ∷ [])

pub early_queue : Sound (left step (fresh 8) (start ∷ admit 0 ∷ admit 0 ∷ mark (id 2 0) true ∷ steal 1 ∷ []))
early_queue = reached 8 (omega arith) (omega arith) (start ∷ admit 0 ∷ admit 0 ∷ mark (id 2 0) true ∷ steal 1 ∷ [])

pub parked-slot : Sound (left step (fresh 4) (start ∷ admit 0 ∷ switch 0 yield ∷ switch 0 exit ∷ []))
parked-slot = reached 4 (omega arith) (omega arith) (start ∷ admit 0 ∷ switch 0 yield ∷ switch 0 exit ∷ [])

pub all-taken : Sound (left step (fresh 2) (start ∷ start1 ∷ []))
all-taken = reached 2 (omega arith) (omega arith) (start ∷ start1 ∷ [])

-- a table of two slots, started
abbrev pub begun : Model
begun = left step (fresh 2) (start ∷ [])

-- the peak is at least the occupied slots, and at most N
pub peak-low : Sound (rest_to begun None 0 0 0) → ⊥
unfolding left step start_step claimed count_of
peak-low s = let v = live (rest_to begun None 0 0 0) s refl in omega (arith, v.low)

pub peak-high : Sound (rest_to begun None 0 0 3) → ⊥
unfolding left step start_step claimed count_of
peak-high s = let v = live (rest_to begun None 0 0 3) s refl in omega (arith, v.high)

-- a parked id has the epoch before its slot's: 65,535 before 0, but not 0 beside 0
pub parked-now : Sound (rest_to begun (Some (id 1 0)) 0 0 1) → ⊥
unfolding left step start_step claimed count_of
parked-now s = let v = live (rest_to begun (Some (id 1 0)) 0 0 1) s refl in omega (arith, v.parked.epoch)

-- so a leaver of epoch 65,535 is parked where the slot's epoch is 0 again
pub parked-wrap : Sound (rest_to begun (Some (id 1 65535)) 0 0 1)
unfolding left step start_step claimed count_of
parked-wrap =
    let s = reached 2 (omega arith) (omega arith) (start ∷ []) in
    let v = live begun s refl in
    let w = rest_to begun (Some (id 1 65535)) 0 0 1 in
    sound-live w
    (finish w (core_rest begun CPUS (Some (id 1 65535)) 0 0 1 (live_core begun s.shape v))
    (record {
      awake = record { idles = (live-ends begun v).awake.idles };
      parked = record { slot = omega arith; other = λ e. omega arith; state = refl; fits = omega arith; epoch = refl };
      low = v.low;
      high = v.high;
    }))

-- a slot's epoch may be the last one, 65,535
pub last_epoch : Sound (with_epoch begun 1 65535)
unfolding left step start_step claimed count_of
last_epoch =
    let s = reached 2 (omega arith) (omega arith) (start ∷ []) in
    let v = live begun s refl in
    let k = live_core begun s.shape v in
    let z = live-ends begun v in
    let quiet : Quiet begun 1 = (λ e. omega arith, λ e. omega arith) in
    let w = with_epoch begun 1 65535 in
    sound-live w
    (finish w (wipe_core begun CPUS k 1 65535 (omega arith) (omega arith) quiet (quiet_idle begun CPUS k z.awake 1 quiet))
    (record { awake = record { idles = z.awake.idles }; parked = tt; low = v.low; high = v.high }))

-- an idle is not marked
pub idle-marked : Sound (with_mark begun 0 true) → ⊥
unfolding left step start_step claimed count_of
idle-marked s = let v = live (with_mark begun 0 true) s refl in not_both refl ((v.cpus 0 (omega arith)).on refl).idle_mark
