use Rattle.change_ops.specs.IdRuns.{removals_of}
use Rattle.version_windows.proofs.Hulls.{IsHull}
use Rattle.version_windows.proofs.touched.touched_by_removals.Given as goal

abbrev pub invariant-loop-index : goal.invariant-loop-index
invariant-loop-index l = IsHull l.sequence (removals_of l.run) l.index l.all
