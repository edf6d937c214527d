use Rattle.std.proofs.Common.{arith}
use Rattle.intervals.proofs.Range.meet.Goals as goal

pub returns-clause-contains : goal.returns-clause-contains
returns-clause-contains c = λ x left right. c.new.ensures.contains x (omega arith) (omega arith)
