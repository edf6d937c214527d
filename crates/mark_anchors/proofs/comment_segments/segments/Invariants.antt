use Rattle.std.proofs.Common.{take}
use Rattle.mark_anchors.specs.CommentLists.{AreSegments, vec_runs}
use Rattle.mark_anchors.proofs.comment_segments.segments.Given as goal

abbrev pub invariant-loop-run : goal.invariant-loop-run
invariant-loop-run l = AreSegments vec_runs (take l.run-index l.runs) l.cuts l.segments.items
