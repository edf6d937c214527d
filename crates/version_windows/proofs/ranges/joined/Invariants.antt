use Rattle.std.proofs.Common.{◌+◌}
use Rattle.version_windows.proofs.Joining.{AreJoined}
use Rattle.version_windows.proofs.ranges.joined.Given as goal

abbrev pub invariant-loop-range : goal.invariant-loop-range
invariant-loop-range l = AreJoined l.ranges (l.range-index + 1) l.all.items l.last
