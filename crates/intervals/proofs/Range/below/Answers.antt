use Rattle.std.proofs.Common.{arith}
use Rattle.intervals.proofs.Range.below.Goals as goal

pub returns-clause-contains : goal.returns-clause-contains
returns-clause-contains c = λ x inside within. c.at_most.ensures.contains x inside (omega arith)
