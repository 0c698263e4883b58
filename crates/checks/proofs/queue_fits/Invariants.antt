-- `queue_fits` walks along a queue and notes its entries.
use Rattle.model.specs.Model.{READY}
use Rattle.checks.specs.Parts.{noted, Free, entry_at}
use Rattle.checks.proofs.WalkLaws.{Walked}
use Rattle.checks.proofs.queue_fits.Given as goal

abbrev pub invariant-loop-j : goal.invariant-loop-j
invariant-loop-j l =
    let t = l.t in
    Walked (λ i. Free t.epochs.now t.homes.now l.n l.c (entry_at t.ring_slots.now t.ring_epochs.now l.n l.c l.head i)) (λ i. noted READY (entry_at t.ring_slots.now t.ring_epochs.now l.n l.c l.head i)) l.j l.initial.want l.want
