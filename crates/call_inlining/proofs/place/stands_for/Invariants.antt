use Rattle.std.proofs.Common.{length, ◌-◌}
use Rattle.call_inlining.proofs.place.stands_for.Given as goal

abbrev pub decreases-loop-placed : goal.decreases-loop-placed
decreases-loop-placed l = length l.places - l.index
