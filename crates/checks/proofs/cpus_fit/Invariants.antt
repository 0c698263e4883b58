-- `cpus_fit` walks along the CPUs and notes their currents.
use Rattle.std.specs.Prelude.{slice_index_or}
use Rattle.ids.specs.Id.{idle}
use Rattle.checks.specs.Parts.{CpuFits, cpu_notes}
use Rattle.checks.proofs.WalkLaws.{Walked}
use Rattle.checks.proofs.cpus_fit.Given as goal

abbrev pub invariant-loop-c : goal.invariant-loop-c
invariant-loop-c l =
    let t = l.t in
    let s = t.small.now in
    Walked (λ i. CpuFits t.states.now t.epochs.now t.homes.now t.marks.now s.n i (slice_index_or s.currents i idle) (slice_index_or s.idles i idle)) (λ i. cpu_notes i (slice_index_or s.currents i idle) (slice_index_or s.idles i idle)) l.c l.initial.want l.want
