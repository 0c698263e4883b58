-- 5 above the last CPU.
use Rattle.std.proofs.Common.{arith}
use Rattle.reads.proofs.Laws.{idle_is}
use Rattle.reads.proofs.idle_of_in.Goals as goal

pub returns : goal.returns
returns c = idle_is _ c.requires _ (omega (arith, c.if-c-ge-CPUS.false))
