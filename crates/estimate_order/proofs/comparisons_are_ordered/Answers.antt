use Rattle.estimate_order.proofs.Told.{told_within, told_inside}
use Rattle.estimate_order.proofs.comparisons_are_ordered.Goals as goal

pub returns-clause-order : goal.returns-clause-order
returns-clause-order c = told_within

pub returns-clause-more : goal.returns-clause-more
returns-clause-more c = told_inside
