-- 5 above the last CPU.
use Rattle.std.proofs.Common.{arith}
use Rattle.reads.proofs.Laws.{ready_is}
use Rattle.reads.proofs.has_ready_on_in.Goals as goal

pub returns : goal.returns
returns c = ready_is _ c.requires _ (omega (arith, c.if-c-ge-CPUS.false))
