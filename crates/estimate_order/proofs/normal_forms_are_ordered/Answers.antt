use Rattle.estimate_order.proofs.Normal.{normal_within}
use Rattle.estimate_order.proofs.normal_forms_are_ordered.Goals as goal

pub returns : goal.returns
returns c = normal_within
