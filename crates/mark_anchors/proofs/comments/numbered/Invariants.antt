use Rattle.mark_anchors.proofs.Grouping.{AreFirstNumbered}
use Rattle.mark_anchors.proofs.comments.numbered.Given as goal

abbrev pub invariant-loop-mark : goal.invariant-loop-mark
invariant-loop-mark l = AreFirstNumbered l.marks l.mark-index l.comments.items
