use Rattle.mark_anchors.proofs.Stores.{none_stored}
use Rattle.mark_anchors.proofs.values.Values.none.Goals as goal

pub returns : goal.returns
returns c = none_stored
