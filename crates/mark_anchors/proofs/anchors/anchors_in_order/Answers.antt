use Rattle.mark_anchors.proofs.AnchorOrder.{anchors_ordered}
use Rattle.mark_anchors.proofs.anchors.anchors_in_order.Goals as goal

pub returns : goal.returns
returns c = λ ops m n a b h first second. anchors_ordered ops c.args.sequence.now.elements h m n a b first second
