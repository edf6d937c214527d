-- What of a text is laid out already.
use Rattle.std.specs.Prelude.{◌≡◌, ◌<◌, ◌≤◌, ◌-◌, ℕ, Bool, true, List, length, map}
use Rattle.std.specs.Prelude.{slice_index_or, slice_range, All}
use Rattle.std.specs.List.{filter}
use Rattle.change_ops.specs.declared.operation.Op.{Op}
use Rattle.char_sequence.specs.declared.sequence.Element.{Element}
use Rattle.char_sequence.specs.Order.{Shows}
use Rattle.char_sequence.specs.Visible.{visible_text}
use Rattle.mark_anchors.specs.Format.{IsFormat}
use Rattle.mark_anchors.specs.Marks.{AreMarks}
use Rattle.mark_anchors.specs.Ranges.{IsFormatAt}
use Rattle.span_flatten.specs.declared.version.Row.{Row}
use Rattle.span_flatten.specs.Spans.{Shown}
use Rattle.span_flatten.specs.Version.{IsDraft}

-- the element that a shown character was
abbrev pub element_of : Shown → Element
element_of s = record { id = s.id; character = s.character; visible = true }

abbrev pub is_visible : Element → Bool
is_visible e = e.visible

-- the characters are the visible elements, in order
abbrev pub AreDrawn : List Element → List Shown → Type 0
AreDrawn es shown = map element_of shown ≡ filter is_visible es

-- what of the elements from place `low` up to this one is visible is laid out, in no more rows than bytes
pub record IsTaken (elements : List Element) (marks : List Op) (low place : ℕ) (text : List ℕ)
    (rows : List Row) : Type 0 where
  pub order : low ≤ place
  pub shown : List Shown
  pub drawn : AreDrawn (slice_range elements low place) shown
  pub formatted : (ops : List Op) → Shows elements ops → AreMarks ops marks
      → All (λ s. IsFormat ops s.id s.format) shown
  pub draft : IsDraft shown text rows
  pub spelt : text ≡ visible_text (slice_range elements low place)
  pub few : length rows ≤ length text

-- the last row has the format of the character at the place
abbrev pub IsLastFormat : List Element → List Op → ℕ → List Row → Type 0
IsLastFormat elements marks place rows =
    (d : Row) → 0 < length rows → IsFormatAt elements marks place (slice_index_or rows (length rows - 1) d).format
