use Rattle.mark_anchors.specs.Placed.{AreFirstMarks}
use Rattle.mark_anchors.proofs.placed.placed_marks.Given as goal

abbrev pub invariant-loop-index : goal.invariant-loop-index
invariant-loop-index l = AreFirstMarks l.places l.operations l.index l.marks.items
