use Rattle.std.proofs.Common.{length}
use Rattle.call_inlining.proofs.cells.+behind_saves.Given as goal

abbrev pub decreases-behind_saves : goal.decreases-behind_saves
decreases-behind_saves l = length l.kept.now
