use Rattle.loop_labels.proofs.Sums.{at_most_most, sum_of_spans}
use Rattle.loop_labels.proofs.bounds_add_up.Goals as goal

pub returns-clause-most : goal.returns-clause-most
returns-clause-most c = at_most_most

pub returns-clause-all : goal.returns-clause-all
returns-clause-all c = sum_of_spans
