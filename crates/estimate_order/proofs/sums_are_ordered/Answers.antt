use Rattle.estimate_order.proofs.Added.{added_within, taken_within}
use Rattle.estimate_order.proofs.sums_are_ordered.Goals as goal

pub returns-clause-sum : goal.returns-clause-sum
returns-clause-sum c = added_within

pub returns-clause-difference : goal.returns-clause-difference
returns-clause-difference c = taken_within
