-- 5 above the last CPU.
use Rattle.std.proofs.Common.{arith}
use Rattle.reads.proofs.Laws.{current_is}
use Rattle.reads.proofs.current_on_in.Goals as goal

pub returns : goal.returns
returns c = current_is _ c.requires _ (omega (arith, c.if-c-ge-CPUS.false))
