-- `cpus_blank` tells whether every CPU is as in a table just made.
use Rattle.std.specs.Prelude.{ℕ, ◌<◌}
use Rattle.checks.specs.Parts.{CpuBlank}
use Rattle.checks.proofs.cpus_blank.Given as goal

abbrev pub invariant-loop-c : goal.invariant-loop-c
invariant-loop-c l = (k : ℕ) → k < l.c → CpuBlank l.s.lens l.s.currents l.s.idles k
