use Rattle.std.proofs.Common.{arith}
use Rattle.intervals.proofs.Products.{products}
use Rattle.intervals.proofs.Range.mul.Goals as goal

pub returns-clause-contains : goal.returns-clause-contains
returns-clause-contains c = products c.args.self c.args.other _ (grind arith) (grind arith) (grind arith)
