-- The walk over the entries: what it says is what it says of those from here on.
use Rattle.std.proofs.Common.{sym, ◌∙◌, arith}
use Rattle.irqwait.specs.Waits.{has_cookie, is_for}
use Rattle.irqwait.proofs.Cases.{walked_none, walked_cookie, walked_task, walked_more, walked_all}
use Rattle.irqwait.proofs.Laws.{waits-length, waits_test}
use Rattle.irqwait.proofs.busy.Goals as goal

pub loop-e-init : goal.loop-e-init
loop-e-init c = walked_none _ _ _

pub returns-then-has : goal.returns-then-has
returns-then-has c =
    walked_cookie _ _ _ _ c.loop-e.invariant (omega (arith, waits-length c.args.waiters.now))
    (sym (c.has.ensures ∙ waits_test c.args.waiters.now (has_cookie c.args.cookie.0) c.loop-e.e-index) ∙ c.if-has.true)

pub returns-then-is_for : goal.returns-then-is_for
returns-then-is_for c =
    walked_task _ _ _ _ c.loop-e.invariant (omega (arith, waits-length c.args.waiters.now))
    (sym (c.has.ensures ∙ waits_test c.args.waiters.now (has_cookie c.args.cookie.0) c.loop-e.e-index) ∙ c.if-has.false)
    (sym (c.is_for.ensures ∙ waits_test c.args.waiters.now (is_for c.args.task) c.loop-e.e-index) ∙ c.if-is_for.true)

pub loop-e-preserved : goal.loop-e-preserved
loop-e-preserved c =
    walked_more _ _ _ _ c.loop-e.invariant (omega (arith, waits-length c.args.waiters.now))
    (sym (c.has.ensures ∙ waits_test c.args.waiters.now (has_cookie c.args.cookie.0) c.loop-e.e-index) ∙ c.if-has.false)
    (sym (c.is_for.ensures ∙ waits_test c.args.waiters.now (is_for c.args.task) c.loop-e.e-index) ∙ c.if-is_for.false)

pub returns : goal.returns
returns c = walked_all _ _ _ _ c.loop-e.invariant (omega (arith, waits-length c.args.waiters.now))
