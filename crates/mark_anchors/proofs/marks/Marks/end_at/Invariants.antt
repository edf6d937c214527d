use Rattle.mark_anchors.specs.Anchored.{Ends}
use Rattle.mark_anchors.proofs.AtAnchor.{AreFound}
use Rattle.mark_anchors.proofs.marks.Marks.end_at.Given as goal

abbrev pub invariant-loop-operation : goal.invariant-loop-operation
invariant-loop-operation l = AreFound Ends l.self l.operation-index l.anchor l.ids.items
