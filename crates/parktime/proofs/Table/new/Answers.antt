-- `Table::new`: sixteen places, all free.
use Rattle.std.proofs.Common.{refl}
use Rattle.parktime.proofs.Laws.{made}
use Rattle.parktime.proofs.Table.new.Goals as goal

pub returns : goal.returns
returns c = made _ refl
