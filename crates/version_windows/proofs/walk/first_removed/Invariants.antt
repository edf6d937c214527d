use Rattle.version_windows.specs.Walked.{AreRemoved}
use Rattle.version_windows.proofs.walk.first_removed.Given as goal

abbrev pub invariant-loop-index : goal.invariant-loop-index
invariant-loop-index l = AreRemoved l.sequence l.removal l.index l.first
