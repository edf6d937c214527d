use Rattle.std.proofs.Common.{◌≡◌, ◌+◌, List, length}
use Rattle.mark_anchors.specs.CommentLists.{AreSegments, vec_runs}
use Rattle.mark_anchors.specs.declared.comment_runs.CommentRun.{CommentRun}
use Rattle.mark_anchors.proofs.Segments.{AreAdded}
use Rattle.mark_anchors.proofs.comment_segments.add_run.Given as goal

abbrev pub invariant-loop-segment : goal.invariant-loop-segment
invariant-loop-segment l = record {
  sized : length l.segments.items ≡ length l.cuts + 1;
  added : (runs : List CommentRun) → AreSegments vec_runs runs l.cuts l.initial.segments.items → AreAdded runs l.run l.cuts l.segment l.segments.items;
}
