-- The walk over the peer's queue: none of those passed may be stolen.
use Rattle.std.proofs.Common.{arith, refl, sym, ◌∙◌}
use Rattle.reads.proofs.Walks.{far, busy, walk_start, walk-on, walk_found, walk_none}
use Rattle.reads.proofs.can_steal_into_in.Goals as goal
use Rattle.reads.proofs.can_steal_into_in.Goals.{then-c-ge-CPUS-via-then-c-ge-CPUS, then-c-ge-CPUS-via-else-c-ge-CPUS+then-t-c-ne0}

pub returns-then-c-ge-CPUS : goal.returns-then-c-ge-CPUS
returns-then-c-ge-CPUS c =
    elim c.then-c-ge-CPUS.branch [
      | then-c-ge-CPUS-via-then-c-ge-CPUS w ↦ far _ c.requires _ w.if-c-ge-CPUS.true
      | then-c-ge-CPUS-via-else-c-ge-CPUS+then-t-c-ne0 w ↦ busy _ c.requires _ (omega (arith, w.if-c-ge-CPUS.false)) w.if-t-c-ne0.true
    ]

pub loop-j-init : goal.loop-j-init
loop-j-init c = walk_start _ c.requires _ c.if-c-ge-CPUS.false c.if-t-c-ne0.false _ refl

pub returns-then-stealeable : goal.returns-then-stealeable
returns-then-stealeable c =
    walk_found _ c.requires _ c.if-c-ge-CPUS.false c.if-t-c-ne0.false _ refl _ _ c.loop-j.invariant c.loop-j-test.true
    c.spot-at.ensures.0 (sym c.stealeable.ensures ∙ c.if-stealeable.true)

pub loop-j-preserved : goal.loop-j-preserved
loop-j-preserved c =
    walk-on _ c.requires _ c.if-c-ge-CPUS.false c.if-t-c-ne0.false _ refl _ _ c.loop-j.invariant c.loop-j-test.true
    c.spot-at.ensures.0 (sym c.stealeable.ensures ∙ c.if-stealeable.false)

pub returns : goal.returns
returns c = walk_none _ c.requires _ c.if-c-ge-CPUS.false c.if-t-c-ne0.false _ refl _ c.loop-j.invariant c.loop-j-test.false
