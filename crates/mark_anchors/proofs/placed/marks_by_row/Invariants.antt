use Rattle.std.proofs.Common.{◌≡◌, List, length}
use Rattle.change_ops.specs.declared.keys.TheConstants.{KEYS}
use Rattle.change_ops.specs.declared.operation.Op.{Op}
use Rattle.char_sequence.specs.declared.sequence.Element.{Element}
use Rattle.mark_anchors.specs.Placed.{AreAllPlaced, AreFirstByRow}
use Rattle.mark_anchors.proofs.placed.marks_by_row.Given as goal

abbrev pub invariant-loop-mark : goal.invariant-loop-mark
invariant-loop-mark l = record {
  sized : length l.lists.items ≡ KEYS;
  each : (es : List Element) (operations : List Op) → AreAllPlaced es operations l.marks → AreFirstByRow es operations l.mark-index l.lists.items;
}
