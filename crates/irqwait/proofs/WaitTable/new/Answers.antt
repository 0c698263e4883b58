-- Eight free entries and sixty-four clear marks are the fresh table.
use Rattle.std.proofs.Common.{refl}
use Rattle.irqwait.proofs.Returns.{made}
use Rattle.irqwait.proofs.WaitTable.new.Goals as goal

pub returns : goal.returns
returns c = made _ refl refl
