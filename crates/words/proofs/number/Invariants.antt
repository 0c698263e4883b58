-- The bytes passed are worth v, which is at most max.
use Rattle.std.proofs.Common.{◌≡◌, ◌≤◌, drop}
use Rattle.text.specs.Text.{number, at_most, value}
use Rattle.words.proofs.number.Given as goal

abbrev pub invariant-loop-d : goal.invariant-loop-d
invariant-loop-d l = (l.v ≤ l.max) × (number l.max l.w ≡ at_most l.max (value l.v (drop l.d-index l.w)))
