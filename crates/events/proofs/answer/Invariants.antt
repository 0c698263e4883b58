-- Between two chunks: how far the script has come, and that its tables are sound.
use Rattle.std.proofs.Common.{length, ◌-◌}
use Rattle.place.proofs.Between.{Between}
use Rattle.events.proofs.answer.Given as goal

abbrev pub invariant-loop-here : goal.invariant-loop-here
invariant-loop-here g l = Between 16384 l.input l.out l.here

abbrev pub decreases-loop-here : goal.decreases-loop-here
decreases-loop-here g l = length l.input - l.here.at
