-- The laws on the loop are in Turns.
use Rattle.std.proofs.Common.{rules, arith}
use Rattle.std.proofs.lemmas.Iterator.{YieldsList-from_slice, YieldsList-from_take}
use Rattle.std.proofs.lemmas.Iterator.Consumers.{YieldsList-turn, YieldsList-end}
use Rattle.std.proofs.lemmas.List.{length_push}
use Rattle.print.proofs.Turns.{begin, one_fits, turn, ended}
use Rattle.print.proofs.listing.Goals as goal

pub loop-raw-init : goal.loop-raw-init
loop-raw-init c = begin _ _ _ c.requires

pub spaced-end-requires : goal.spaced-end-requires
spaced-end-requires c =
    let t = YieldsList-turn (YieldsList-from_take c.args.k (YieldsList-from_slice c.args.raws.now (search rules)) (search rules)) c.loop-raw.yielded _ c.loop-raw.yielded_by _ _ c.in-Some.raw c.in-Some.is c.next.ensures.steps in
    rw c.from_raw.ensures (one_fits c.loop-raw.invariant c.in-Some.raw.now t)

pub loop-raw-preserved : goal.loop-raw-preserved
loop-raw-preserved c =
    let t = YieldsList-turn (YieldsList-from_take c.args.k (YieldsList-from_slice c.args.raws.now (search rules)) (search rules)) c.loop-raw.yielded _ c.loop-raw.yielded_by _ _ c.in-Some.raw c.in-Some.is c.next.ensures.steps in
    rw length_push (turn c.loop-raw.invariant c.in-Some.raw.now t _ _ (rw c.from_raw.ensures at c.spaced-end.ensures))

pub returns : goal.returns
returns c =
    let t = YieldsList-end (YieldsList-from_take c.args.k (YieldsList-from_slice c.args.raws.now (search rules)) (search rules)) c.loop-raw.yielded _ c.loop-raw.yielded_by _ _ c.in-None.is c.next.ensures.steps in
    ended c.loop-raw.invariant (omega (arith, t.1))
