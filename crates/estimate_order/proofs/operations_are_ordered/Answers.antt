use Rattle.estimate_order.proofs.Table.{transferred_within}
use Rattle.estimate_order.proofs.operations_are_ordered.Goals as goal

pub returns : goal.returns
returns c = transferred_within
