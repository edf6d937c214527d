use Rattle.std.proofs.Common.{◌≡◌, List, length}
use Rattle.std.specs.Vec.Iter.{into_iter_items, into_iter_len}
use Rattle.change_ops.specs.declared.operation.Op.{Op}
use Rattle.char_sequence.specs.declared.sequence.Element.{Element}
use Rattle.mark_anchors.specs.Placed.{AreAllPlaced}
use Rattle.mark_anchors.proofs.Rows.{AreTaken}
use Rattle.mark_anchors.proofs.resolved.rows_of.Given as goal

abbrev pub invariant-loop-list : goal.invariant-loop-list
invariant-loop-list l = record {
  count : into_iter_len l.list-iterator ≡ length (into_iter_items l.list-iterator);
  taken : (es : List Element) (operations : List Op) → AreAllPlaced es operations l.marks → AreTaken es operations l.rows.items (into_iter_items l.list-iterator);
}
