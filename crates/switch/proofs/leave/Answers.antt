-- By the kind: the stores of each are those that the laws speak of.
use Rattle.std.proofs.Common.{refl, ap}
use Rattle.switch.specs.Decisions.{kind_of}
use Rattle.switch.proofs.Laws.{to-tail, from_low, goes-tail, goes-blocked, goes-out}
use Rattle.memory.proofs.Lent.{there}
use Rattle.switch.proofs.leave.Goals as goal

pub bounds-t-f : goal.bounds-t-f
bounds-t-f c = from_low c.requires.low c.requires.going

pub bounds-t-f-in-Block : goal.bounds-t-f-in-Block
bounds-t-f-in-Block c = from_low c.requires.low c.requires.going

pub bounds-t-f-in-Exit : goal.bounds-t-f-in-Exit
bounds-t-f-in-Exit c = from_low c.requires.low c.requires.going

pub bounds-t-f-in-Exit-2 : goal.bounds-t-f-in-Exit-2
bounds-t-f-in-Exit-2 c = from_low c.requires.low c.requires.going

pub bounds-t-f-in-Exit-3 : goal.bounds-t-f-in-Exit-3
bounds-t-f-in-Exit-3 c = from_low c.requires.low c.requires.going

pub returns-in-Yield : goal.returns-in-Yield
returns-in-Yield c =
    (there c.args.t.now, goes-tail c.requires.low c.requires.going (λ m. to-tail c.args.kind c.in-Yield.is m c.args.c) _ c.spot-to.ensures.0)

pub returns-in-Block : goal.returns-in-Block
returns-in-Block c = (there c.args.t.now, goes-blocked c.requires.low c.requires.going (ap kind_of c.in-Block.is) _ c.raised-t.ensures)

pub returns-in-Exit : goal.returns-in-Exit
returns-in-Exit c = (there c.args.t.now, goes-out c.requires.low c.requires.going (ap kind_of c.in-Exit.is) _ refl)
