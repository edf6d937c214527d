use Rattle.estimate_order.proofs.Settled.{settled_left, settled_right}
use Rattle.estimate_order.proofs.settled_sides_are_within_joins.Goals as goal

pub returns-clause-first : goal.returns-clause-first
returns-clause-first c = settled_left

pub returns-clause-second : goal.returns-clause-second
returns-clause-second c = settled_right
