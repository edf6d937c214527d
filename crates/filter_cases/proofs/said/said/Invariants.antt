use Rattle.std.proofs.Common.{length}
use Rattle.filter_cases.proofs.Saying.{Telling}
use Rattle.filter_cases.proofs.said.said.Given as goal

abbrev pub invariant-loop-word : goal.invariant-loop-word
invariant-loop-word l = Telling l.fn.text l.marks l.rest

abbrev pub decreases-loop-word : goal.decreases-loop-word
decreases-loop-word l = length l.rest
