use Rattle.std.proofs.Common.{◌≡◌, ℕ, ◌<◌, ◌≤◌, ◌⊎◌, List, Some}
use Rattle.std.specs.List.{slice_get, Contains}
use Rattle.change_ops.specs.declared.id.OpId.{OpId}
use Rattle.change_ops.specs.declared.attribute.Attribute.TheVariants.{Comment}
use Rattle.change_ops.specs.declared.attribute.Key.TheVariants as key
use Rattle.change_ops.specs.declared.operation.Op.{Op}
use Rattle.char_sequence.specs.declared.sequence.Element.{Element}
use Rattle.char_sequence.specs.Order.{Shows, IsAt}
use Rattle.mark_anchors.specs.Format.{Bears}
use Rattle.mark_anchors.specs.Marks.{AreMarks}
use Rattle.mark_anchors.specs.Placed.{ArePlaced}
use Rattle.mark_anchors.specs.CommentRuns.{HasRun, AreOrderly, AreHeld}
use Rattle.mark_anchors.specs.declared.comment_runs.CommentRun.{CommentRun}
use Rattle.mark_anchors.proofs.comment_runs.push_runs.Given as goal

abbrev pub invariant-loop-index : goal.invariant-loop-index
invariant-loop-index l = record {
  orderly : AreOrderly l.runs.items;
  up_to : (run : CommentRun) → Contains l.runs.items run → run.number ≤ l.comment.number;
  behind : (run : CommentRun) (last : ℕ) → Contains l.runs.items run → slice_get l.places l.index ≡ Some last → (run.number < l.comment.number) ⊎ ((run.number ≡ l.comment.number) × (run.to ≤ last));
  kept : (n place : ℕ) → HasRun l.fn.runs.items n place → HasRun l.runs.items n place;
  held : (es : List Element) → ArePlaced es l.operations (key.Comment l.comment.number) l.comment.marks → AreHeld es l.operations l.fn.runs.items → AreHeld es l.operations l.runs.items;
  covered : (es : List Element) (ops : List Op) (p first last : ℕ) (e : OpId) → ArePlaced es l.operations (key.Comment l.comment.number) l.comment.marks → Shows es ops → AreMarks ops l.operations → IsAt es e p → slice_get l.places 0 ≡ Some first → slice_get l.places l.index ≡ Some last → first ≤ p → p < last → Bears ops e (Comment l.comment.number) → HasRun l.runs.items l.comment.number p;
}
