use Rattle.std.proofs.Common.{◌≡◌, ◌-◌, ◌<◌, ◌≤◌, ℕ, Some, length}
use Rattle.std.specs.List.{slice_get}
use Rattle.mark_anchors.specs.declared.comments.CommentMark.{CommentMark}
use Rattle.mark_anchors.proofs.comments.comment_end.Given as goal

abbrev pub invariant-loop-end : goal.invariant-loop-end
invariant-loop-end l = record {
  some : l.from < l.end;
  within : l.end ≤ length l.comments;
  same : (i : ℕ) (c : CommentMark) → l.from ≤ i → i < l.end → slice_get l.comments i ≡ Some c → c.number ≡ l.number;
}

abbrev pub decreases-loop-end : goal.decreases-loop-end
decreases-loop-end l = length l.comments - l.end
