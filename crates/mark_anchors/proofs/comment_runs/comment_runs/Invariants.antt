use Rattle.std.proofs.Common.{◌≡◌, ◌-◌, ℕ, ◌<◌, ◌≤◌, List, Some, length}
use Rattle.std.specs.List.{slice_get, Contains}
use Rattle.char_sequence.specs.declared.sequence.Element.{Element}
use Rattle.mark_anchors.specs.Commented.{AreCommented}
use Rattle.mark_anchors.specs.CommentRuns.{AreOrderly, AreHeld, IsCovered}
use Rattle.mark_anchors.specs.declared.comments.CommentMark.{CommentMark}
use Rattle.mark_anchors.specs.declared.comment_runs.CommentRun.{CommentRun}
use Rattle.mark_anchors.proofs.comment_runs.comment_runs.Given as goal

abbrev pub invariant-loop-index : goal.invariant-loop-index
invariant-loop-index l = record {
  within : l.index ≤ length l.comments;
  orderly : AreOrderly l.runs.items;
  below : (run : CommentRun) (i : ℕ) (c : CommentMark) → Contains l.runs.items run → l.index ≤ i → slice_get l.comments i ≡ Some c → run.number < c.number;
  before : (i j : ℕ) (c d : CommentMark) → i < l.index → l.index ≤ j → slice_get l.comments i ≡ Some c → slice_get l.comments j ≡ Some d → c.number < d.number;
  held : (es : List Element) → AreCommented es l.operations l.comments → AreHeld es l.operations l.runs.items;
  covered : (es : List Element) (i : ℕ) (c : CommentMark) → AreCommented es l.operations l.comments → i < l.index → slice_get l.comments i ≡ Some c → IsCovered es l.operations l.runs.items c.number;
}

abbrev pub decreases-loop-index : goal.decreases-loop-index
decreases-loop-index l = length l.comments - l.index
