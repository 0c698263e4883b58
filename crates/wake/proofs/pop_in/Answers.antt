-- The oldest token, or nothing.
use Rattle.std.proofs.Common.{arith}
use Rattle.wake.proofs.Held.{listed_small}
use Rattle.wake.proofs.Laws.{pop-none, pop-done}
use Rattle.wake.proofs.pop_in.Goals as goal

pub returns-then-ends : goal.returns-then-ends
returns-then-ends c = pop-none _ c.requires c.if-ends.true

pub offset_bounds-tokens-ends : goal.offset_bounds-tokens-ends
offset_bounds-tokens-ends c = let s = listed_small _ c.requires.size in omega arith

pub bounds-tokens-ends : goal.bounds-tokens-ends
bounds-tokens-ends c = let s = listed_small _ c.requires.size in omega arith

pub returns : goal.returns
returns c = pop-done _ c.requires _ c.if-ends.false c.place-ends.ensures.0 c.place-ends.ensures.1
