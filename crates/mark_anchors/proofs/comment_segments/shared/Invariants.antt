use Rattle.mark_anchors.proofs.Segments.{AreShared}
use Rattle.mark_anchors.proofs.comment_segments.shared.Given as goal

abbrev pub invariant-loop-runs : goal.invariant-loop-runs
invariant-loop-runs l = AreShared l.runs-index l.segments l.shared.items
