use Rattle.std.proofs.Common.{◌≡◌, ◌+◌, length}
use Rattle.mark_anchors.specs.CommentLists.{AreEmpty}
use Rattle.mark_anchors.proofs.comment_segments.empty_lists.Given as goal

abbrev pub invariant-loop-cut : goal.invariant-loop-cut
invariant-loop-cut l = record { sized : length l.lists.items ≡ l.cut-index + 1; empty : AreEmpty l.lists.items }
