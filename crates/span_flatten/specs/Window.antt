-- A window: what is visible of the characters between two places, as one text with a row for each span.
use Rattle.std.specs.Prelude.{ℕ, List, Contains, slice_range}
use Rattle.change_ops.specs.declared.operation.Op.{Op}
use Rattle.char_sequence.specs.declared.sequence.Element.{Element}
use Rattle.char_sequence.specs.Order.{Shows}
use Rattle.mark_anchors.specs.Format.{IsFormat}
use Rattle.mark_anchors.specs.Marks.{AreMarks}
use Rattle.span_flatten.specs.declared.version.Row.{Row}
use Rattle.span_flatten.specs.Spans.{Shown, Cuts}
use Rattle.span_flatten.specs.Taken.{AreDrawn}
use Rattle.span_flatten.specs.Version.{spans_in}

-- what is seen of a window: its text as UTF-8, and its rows
pub record Window : Type 0 where
  pub text : List ℕ
  pub rows : List Row

-- its spans are those of the visible elements from place `low` up to `high`, each with its format
pub record IsFlattened (elements : List Element) (marks : List Op) (low high : ℕ) (window : Window) : Type 0 where
  pub shown : List Shown
  pub drawn : AreDrawn (slice_range elements low high) shown
  pub formatted : (ops : List Op) → Shows elements ops → AreMarks ops marks
      → (s : Shown) → Contains shown s → IsFormat ops s.id s.format
  pub cut : Cuts shown (spans_in window.text window.rows)
