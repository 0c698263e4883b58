-- Every call keeps a table sound.
use Rattle.std.specs.Prelude.{None}
use mathlib.Core.Path.{◌≡◌, refl}
use mathlib.Core.Bool.{Bool, true, false, ◌&&◌, not}
use mathlib.Core.List.{List, [], ◌∷◌}
use native.Mathlib.Omega.{arith}
use borrow.Author.Tests.{not-true}
use Rattle.lists.proofs.Basics.{both_true}
use Rattle.ids.specs.declared.TaskId.{TaskId}
use Rattle.answers.specs.Run.{left}
use Rattle.model.specs.Model.{Model, CPUS, known, is_idle, with_mark, with_parked}
use Rattle.model.specs.Sound.{Shape, Live, Sound}
use Rattle.model.specs.Steps.{mark_step, collect_step}
use Rattle.model.specs.Calls.{Call, start, start1, admit, switch, mark, steal, wake, collect, read, step}
use Rattle.model.proofs.Core.{live_core, live-ends, finish}
use Rattle.model.proofs.SlotMoves.{mark_core}
use Rattle.model.proofs.Ends.{core_rest, parked_by}
use Rattle.model.proofs.Facts.{known_is, no_idle, step_if, step-started, sound-live}
use Rattle.model.proofs.Joins.{wake-sound, admit-sound}
use Rattle.model.proofs.Steals.{try_steal_sound}
use Rattle.model.proofs.Switches.{switch-sound}
use Rattle.model.proofs.Claims.{start-sound, start_cpu_sound}

module _ (m : Model) (shape : Shape m) (v : Live m) where
  pub marked-live : (id : TaskId) (b : Bool) → known m id ≡ true → is_idle m id ≡ false → Shape (with_mark m id.slot b) × Live (with_mark m id.slot b)
  marked-live id b k e =
      let core = live_core m shape v in
      let w = with_mark m id.slot b in
      finish w (mark_core m CPUS id.slot b core (λ d hd l p. absurd (omega (arith, no_idle m CPUS core id (known_is m id k) e d hd l p))))
      (record {
        awake = record { idles = (live-ends m v).awake.idles };
        parked = parked_by m w m.parked refl (λ _ _ _. (refl, refl)) v.parked;
        low = v.low;
        high = v.high;
      })

  pub collected_live : Shape (with_parked m None) × Live (with_parked m None)
  collected_live =
      finish (with_parked m None) (core_rest m CPUS None m.overwrites m.block_events m.peak (live_core m shape v))
      (record { awake = record { idles = (live-ends m v).awake.idles }; parked = tt; low = v.low; high = v.high })

pub mark-sound : (m : Model) (id : TaskId) (b : Bool) → Sound m → Sound (mark_step m id b).after
unfolding mark_step
mark-sound m id b s =
    step-started m _ s
    (λ v. step_if (known m id && not (is_idle m id)) _ _
    (λ e.
    let a = both_true (known m id) (not (is_idle m id)) e in
    sound-live (with_mark m id.slot b) (marked-live m s.shape v id b a.0 (not-true (is_idle m id) a.1)))
    (λ _. s))

pub collect-sound : (m : Model) → Sound m → Sound (collect_step m).after
unfolding collect_step
collect-sound m s = step-started m _ s (λ v. sound-live (with_parked m None) (collected_live m s.shape v))

pub step-sound : (m : Model) (k : Call) → Sound m → Sound (step m k).after
unfolding step
step-sound m start s = start-sound m s
step-sound m start1 s = start_cpu_sound m 1 (omega arith) s
step-sound m (admit c) s = admit-sound m c s
step-sound m (switch c k) s = switch-sound m c k s
step-sound m (mark id b) s = mark-sound m id b s
step-sound m (steal t) s = try_steal_sound m t s
step-sound m (wake id) s = wake-sound m id s
step-sound m collect s = collect-sound m s
step-sound m (read r) s = s

-- whatever is called
pub calls-sound : (m : Model) (ks : List Call) → Sound m → Sound (left step m ks)
unfolding left
calls-sound m [] s = s
calls-sound m (k ∷ ks) s = calls-sound (step m k).after ks (step-sound m k s)
