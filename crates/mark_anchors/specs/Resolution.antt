-- What is seen of resolved marks, and what they keep.
use Rattle.std.specs.Prelude.{◌≡◌, ◌<◌, ℕ, List, Option, Some, Contains, IsTrue, length, slice_get}
use Rattle.std.specs.List.Sorted.{IsStrictlyIncreasing}
use Rattle.change_ops.specs.declared.attribute.Key.TheVariants.{Row}
use Rattle.change_ops.specs.declared.keys.TheConstants.{KEYS}
use Rattle.change_ops.specs.declared.value.Value.{Value}
use Rattle.change_ops.specs.Keys.{type_of_row}
use Rattle.change_ops.specs.Values.{is_of_type}
use Rattle.change_ops.specs.declared.operation.Op.{Op}
use Rattle.char_sequence.specs.declared.sequence.Element.{Element}
use Rattle.char_sequence.specs.Order.{Shows}
use Rattle.mark_anchors.specs.Formatting.{Format}
use Rattle.mark_anchors.specs.KeyMarks.{AreEnds}
use Rattle.mark_anchors.specs.Marks.{AreMarks}
use Rattle.mark_anchors.specs.Placed.{AreAllPlaced, ArePlaced}
use Rattle.mark_anchors.specs.CommentRuns.{AreHolding, AreOrderly}
use Rattle.mark_anchors.specs.Ranges.{AreWithin, IsCutAt}
use Rattle.mark_anchors.specs.declared.placed.PlacedMark.{PlacedMark}
use Rattle.mark_anchors.specs.declared.comment_runs.CommentRun.{CommentRun}

-- the marks, the elements against which they were resolved, and the places at which comments hold
pub record ResolvedMarks : Type 0 where
  pub elements : List Element
  pub marks : List Op
  pub runs : List CommentRun

-- where a walk over the characters stands
pub record FormatSweep : Type 0 where
  pub resolution : ResolvedMarks
  pub place : ℕ

-- the format of what was decided of the keys of one value, and of the comments' numbers
abbrev pub formatting_of : List (Option Value) → List ℕ → Format
formatting_of values numbers = record { values = values; comments = numbers }

-- each value is of the type of its row's key
abbrev pub AreTyped : List (Option Value) → Type 0
AreTyped values =
    (row : ℕ) (value : Value) → slice_get values row ≡ Some (Some value) → IsTrue (is_of_type (type_of_row row) value)

-- a list for each key of one value: the marks of the key
pub record AreByRow (es : List Element) (operations : List Op) (rows : List (List PlacedMark)) : Type 0 where
  pub sized : length rows ≡ KEYS
  pub each : (row : ℕ) (marks : List PlacedMark) → slice_get rows row ≡ Some marks
      → ArePlaced es operations (Row row) marks

-- those of the places that are behind `low` and before `high`, and `high` itself
pub record AreInWindow (places : List ℕ) (low high : ℕ) (cuts : List ℕ) : Type 0 where
  pub rising : IsStrictlyIncreasing cuts
  pub within : AreWithin low high cuts
  pub end : low < high → Contains cuts high
  pub every : (place : ℕ) → Contains places place → IsCutAt low high cuts place

-- marks of a text that is shown: the places at which all of them begin and end, those of each key of one value, and
-- the runs of the comments
pub record AreResolved (es : List Element) (operations : List Op) (places : List ℕ) (lists : List (List PlacedMark))
    (runs : List CommentRun) : Type 0 where
  pub text : (ops : List Op) × Shows es ops × AreMarks ops operations
  pub ends : (marks : List PlacedMark) × AreAllPlaced es operations marks × AreEnds marks places
  pub rows : AreByRow es operations lists
  pub comments : AreHolding es operations runs
  pub orderly : AreOrderly runs
