use Rattle.mark_anchors.specs.Anchored.{Begins}
use Rattle.mark_anchors.proofs.AtAnchor.{AreFound}
use Rattle.mark_anchors.proofs.marks.Marks.begin_at.Given as goal

abbrev pub invariant-loop-operation : goal.invariant-loop-operation
invariant-loop-operation l = AreFound Begins l.self l.operation-index l.anchor l.ids.items
