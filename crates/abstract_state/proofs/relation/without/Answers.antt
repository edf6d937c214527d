use Rattle.std.proofs.Common.{arith}
use Rattle.abstract_state.proofs.relation.without.Goals as goal

pub returns-then-range-n-clause-contains : goal.returns-then-range-n-clause-contains
returns-then-range-n-clause-contains c = λ m r apart. let low = r.low in c.above.ensures.contains m r (omega arith)

pub returns-then-range-n-2-clause-contains : goal.returns-then-range-n-2-clause-contains
returns-then-range-n-2-clause-contains c = λ m r apart. let high = r.high in c.below.ensures.contains m r (omega arith)
