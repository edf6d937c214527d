use Rattle.estimate_order.proofs.Cut.{of_both_within, of_either_within, of_one_within}
use Rattle.estimate_order.proofs.Shifts.{shifted_left_within, shifted_right_within}
use Rattle.estimate_order.proofs.bitwise_operations_are_ordered.Goals as goal

pub returns-clause-both : goal.returns-clause-both
returns-clause-both c = of_both_within

pub returns-clause-either : goal.returns-clause-either
returns-clause-either c = of_either_within

pub returns-clause-one : goal.returns-clause-one
returns-clause-one c = of_one_within

pub returns-clause-left : goal.returns-clause-left
returns-clause-left c = shifted_left_within

pub returns-clause-right : goal.returns-clause-right
returns-clause-right c = shifted_right_within
