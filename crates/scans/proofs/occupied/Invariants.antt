-- The slots before that are not Empty are counted.
use Rattle.std.proofs.Common.{◌≡◌, ◌≤◌, nat_eq, count_by, take, not}
use Rattle.scans.proofs.occupied.Given as goal

abbrev pub invariant-loop-s : goal.invariant-loop-s
invariant-loop-s l = (l.count ≡ count_by (λ s. not (nat_eq s 0)) (take l.s-index l.s-items)) × (l.count ≤ l.s-index)
