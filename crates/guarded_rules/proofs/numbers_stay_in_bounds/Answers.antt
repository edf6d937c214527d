use Rattle.guarded_rules.proofs.Bounds.{normal_keeps, cut_keeps, sum_keeps, difference_keeps, join_keeps}
use Rattle.guarded_rules.proofs.numbers_stay_in_bounds.Goals as goal

pub returns-clause-normal : goal.returns-clause-normal
returns-clause-normal c = normal_keeps

pub returns-clause-cut : goal.returns-clause-cut
returns-clause-cut c = cut_keeps

pub returns-clause-sum : goal.returns-clause-sum
returns-clause-sum c = sum_keeps

pub returns-clause-difference : goal.returns-clause-difference
returns-clause-difference c = difference_keeps

pub returns-clause-join : goal.returns-clause-join
returns-clause-join c = join_keeps
