use Rattle.std.proofs.Common.{length}
use Rattle.call_inlining.proofs.cells.+behind_restores.Given as goal

abbrev pub decreases-behind_restores : goal.decreases-behind_restores
decreases-behind_restores l = length l.kept.now
