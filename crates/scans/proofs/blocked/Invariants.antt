-- The slots before that are Blocked are counted.
use Rattle.std.proofs.Common.{◌≡◌, ◌≤◌, nat_eq, count_by, take}
use Rattle.scans.proofs.blocked.Given as goal

abbrev pub invariant-loop-s : goal.invariant-loop-s
invariant-loop-s l = (l.count ≡ count_by (λ s. nat_eq s 3) (take l.s-index l.s-items)) × (l.count ≤ l.s-index)
