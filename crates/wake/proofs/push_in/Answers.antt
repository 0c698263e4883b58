-- A drop that is counted where the next place is the tail, or one more at the end.
use Rattle.std.proofs.Common.{refl, arith, rules}
use Rattle.wake.proofs.Held.{listed_small}
use Rattle.wake.proofs.Laws.{push-full, push-done}
use Rattle.wake.proofs.push_in.Goals as goal

pub returns-then-next-ends : goal.returns-then-next-ends
returns-then-next-ends c = push-full _ c.requires _ _ c.place-next.ensures.0 c.place-next.ensures.1 _ c.if-next-ends.true (search rules)

pub offset_bounds-tokens-ends : goal.offset_bounds-tokens-ends
offset_bounds-tokens-ends c = let s = listed_small _ c.requires.size in omega arith

pub bounds-tokens-ends : goal.bounds-tokens-ends
bounds-tokens-ends c = let s = listed_small _ c.requires.size in omega arith

pub returns : goal.returns
returns c = push-done _ c.requires _ _ c.place-next.ensures.0 c.place-next.ensures.1 _ (search rules) c.if-next-ends.false refl
