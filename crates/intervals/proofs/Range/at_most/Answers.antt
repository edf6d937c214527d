use Rattle.std.proofs.Common.{arith}
use Rattle.intervals.proofs.Range.at_most.Goals as goal

pub returns-clause-contains : goal.returns-clause-contains
returns-clause-contains c = λ x inside within. c.new.ensures.contains x (omega arith) (omega arith)
