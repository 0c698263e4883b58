-- A task joins a queue: a wake and an admission keep a table sound.
use mathlib.Core.Path.{◌≡◌, refl}
use mathlib.Core.Logic.{inl}
use mathlib.Core.Bool.{false, ◌&&◌}
use mathlib.Core.List.{List, [], ◌∷◌, ◌++◌}
use Prim.Native.Nat.{ℕ, ◌<◌}
use native.Mathlib.Omega.{arith}
use lib.ListN.{length}
use lib.Seq.{set-get_or, set-set}
use lib.Dec.{eqb, ltb}
use borrow.Author.Tests.{eqb-true, ltb-true}
use Rattle.lists.proofs.Basics.{both_true}
use Rattle.ids.specs.declared.TaskId.{TaskId}
use Rattle.model.specs.Model.{Model, CPUS, READY, BLOCKED, no_cpu, state_of, home_of, cpu_of, queue_of, idle_of, tenant, known, free_slot, set_queue, with_state, with_home, with_mark, with_queue, pushed, noted}
use Rattle.model.specs.Sound.{Known, Shape, Live, Sound}
use Rattle.model.specs.Steps.{woken, wake_step, admitted, admit_step}
use Rattle.model.proofs.Counting.{get_or-set-kept}
use Rattle.model.proofs.Core.{Core, Ends, live_core, live-ends, finish}
use Rattle.model.proofs.SlotMoves.{Quiet, IdleOnly, at_home, join_core, house_core}
use Rattle.model.proofs.Ends.{core_rest, awake_set, ends_set, ends-noted}
use Rattle.model.proofs.Facts.{known_is, known-tenant, quiet_idle, Vacant, free-vacant, step_if, step-started, sound-live}

module _ (m : Model) (shape : Shape m) (v : Live m) where
  abbrev k : Core m CPUS
  k = live_core m shape v

  abbrev z : Ends m
  z = live-ends m v

  -- a push changes no idle
  idle-kept : (c : ℕ) (q : List TaskId) (d : ℕ) → idle_of (with_queue m c q) d ≡ idle_of m d
  idle-kept c q d = get_or-set-kept (λ x. x.idle) m.cpus c (set_queue (cpu_of m c) q) no_cpu refl d

  -- a known, Blocked id is woken
  module _ (id : TaskId) (ki : Known m id) (blocked : state_of m id.slot ≡ BLOCKED) where
    abbrev c : ℕ
    c = home_of m id.slot

    woken_core : Core (woken m id) CPUS
    unfolding woken
    woken_core =
        rw (set-get_or m.homes id.slot 0, known-tenant m id ki) at
        (join_core m CPUS k id.slot c ki.slot (k.slots id.slot ki.slot).home (λ e. omega arith, λ e. omega arith) (at_home m CPUS k id.slot))

    woken-ends : Ends (woken m id)
    unfolding woken
    woken-ends =
        ends_set m (woken m id) id.slot READY shape ki.slot refl refl (λ _ _. refl) refl refl (λ e. omega arith)
        (awake_set m (woken m id) id.slot READY shape ki.slot refl (λ d _. idle-kept c (queue_of m c ++ (id ∷ [])) d) (λ _ _ _ _. inl refl) z.awake)
        z

    pub woken-live : Shape (woken m id) × Live (woken m id)
    woken-live = finish (woken m id) woken_core woken-ends

  -- a free slot's task is admitted
  module _ (c s : ℕ) (hc : c < CPUS) (hs : s < m.n) (free : Vacant m s) where
    quiet : Quiet m s
    quiet = (λ e. omega (arith, free.empty), λ e. omega (arith, free.empty))

    no_idle_there : IdleOnly m s CPUS
    no_idle_there = quiet_idle m CPUS k z.awake s quiet

    abbrev w : Model
    w = pushed (with_mark (with_home (with_state m s READY) s c) s false) c (tenant m s)

    joined_core : Core w CPUS
    joined_core =
        rw (set-set m.homes s c c) at
        (join_core (with_mark (with_home m s c) s false) CPUS (house_core m CPUS k s c hs hc quiet no_idle_there) s c hs hc quiet (λ d hd l p. absurd (omega (arith, no_idle_there d hd l p))))

    pub admitted-live : Shape (admitted m c s) × Live (admitted m c s)
    unfolding admitted
    admitted-live =
        finish (noted w) (core_rest w CPUS w.parked w.overwrites w.block_events (noted w).peak joined_core)
        (ends-noted m w s READY shape hs refl refl (λ _ _. refl) refl refl free.other v.parked v.high
        (awake_set m w s READY shape hs refl (λ d _. idle-kept c (queue_of m c ++ (tenant m s ∷ [])) d) (λ _ _ _ _. inl refl) z.awake))

pub wake-sound : (m : Model) (id : TaskId) → Sound m → Sound (wake_step m id).after
unfolding wake_step
wake-sound m id s =
    step-started m _ s
    (λ v. step_if (known m id && eqb (state_of m id.slot) BLOCKED) _ _
    (λ e.
    let a = both_true (known m id) (eqb (state_of m id.slot) BLOCKED) e in
    sound-live (woken m id) (woken-live m s.shape v id (known_is m id a.0) (eqb-true (state_of m id.slot) BLOCKED a.1)))
    (λ _. s))

pub admit-sound : (m : Model) (c : ℕ) → Sound m → Sound (admit_step m c).after
unfolding admit_step
admit-sound m c s =
    step-started m _ s
    (λ v. step_if (ltb c (length m.cpus) && ltb (free_slot m) m.n) _ _
    (λ e.
    let a = both_true (ltb c (length m.cpus)) (ltb (free_slot m) m.n) e in
    let hs = ltb-true (free_slot m) m.n a.1 in
    let hc : c < CPUS = omega (arith, ltb-true c (length m.cpus) a.0, s.shape.cpus) in
    sound-live (admitted m c (free_slot m)) (admitted-live m s.shape v c (free_slot m) hc hs (free-vacant m hs)))
    (λ _. s))
