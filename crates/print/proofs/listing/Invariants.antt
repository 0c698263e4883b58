-- The laws on the loop are in Turns.
use Rattle.std.proofs.Common.{length, take}
use Rattle.print.proofs.Turns.{Listing}
use Rattle.print.proofs.listing.Given as goal

abbrev pub invariant-loop-raw : goal.invariant-loop-raw
invariant-loop-raw l = Listing l.initial.out l.at (take l.k l.raws) l.out l.end (length l.yielded)
