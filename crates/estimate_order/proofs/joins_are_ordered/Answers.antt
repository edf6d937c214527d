use Rattle.estimate_order.proofs.Numbers.{joined_within}
use Rattle.estimate_order.proofs.joins_are_ordered.Goals as goal

pub returns : goal.returns
returns c = joined_within
