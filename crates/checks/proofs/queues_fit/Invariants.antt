-- `queues_fit` walks along the queues of the CPUs and notes their entries.
use Rattle.std.specs.Prelude.{slice_index}
use Rattle.checks.specs.Parts.{entries, QueueFits, queue_notes}
use Rattle.checks.proofs.WalkLaws.{Walked}
use Rattle.checks.proofs.queues_fit.Given as goal

abbrev pub invariant-loop-c : goal.invariant-loop-c
invariant-loop-c l =
    let t = l.t in
    let s = t.small.now in
    Walked (λ i. QueueFits t.epochs.now t.homes.now s.n i (entries t.ring_slots.now t.ring_epochs.now s.n s.heads i) (slice_index s.lens i)) (λ i. queue_notes (entries t.ring_slots.now t.ring_epochs.now s.n s.heads i) (slice_index s.lens i)) l.c l.initial.want l.want
