-- Ranges whose characters have the format of one at their edges, and what else gives ranges their formats.
use Rattle.std.specs.Prelude.{◌≡◌, ◌<◌, ◌-◌, ◌⊎◌, ℕ, List, Some, count_by, slice_get, take}
use Rattle.change_ops.specs.declared.operation.Op.{Op}
use Rattle.char_sequence.specs.declared.sequence.Element.{Element}
use Rattle.mark_anchors.specs.Formatting.{Format}
use Rattle.mark_anchors.specs.Ranges.{IsFormatAt, IsUniform}
use Rattle.mark_places.specs.MarkPlace.{MarkPlace}
use Rattle.mark_places.specs.Places.{AreMarkPlaces}
use Rattle.mark_places.specs.declared.range.PlaceRange.{PlaceRange}
use Rattle.span_flatten.specs.Taken.{is_visible}
use Rattle.span_flatten.specs.Version.{spans_of}
use Rattle.version_glyphs.specs.Glyphs.{Glyph, glyphs}
use Rattle.version_glyphs.specs.Replacements.{formats}
use Rattle.version_windows.specs.declared.windows.Formats.{Formats}
use Rattle.version_windows.specs.declared.windows.Formats.TheVariants.{OfNeighbors, OfMarks}

-- no mark of these places begins or ends between the range's places, and it isn't the whole text, which ends at `end`
pub record IsLikeNeighbor (places : List MarkPlace) (end : ℕ) (range : PlaceRange) : Type 0 where
  pub uniform : (elements : List Element) (marks : List Op) → AreMarkPlaces elements marks places
      → IsUniform elements marks range.low range.high
  pub inside : (0 < range.low) ⊎ (range.high < end)

-- a character has the format that the marks give the element at the place
abbrev pub HasFormatOf : List Glyph → List Element → List Op → ℕ → ℕ → Type 0
HasFormatOf characters es marks character place =
    (format : Format) × (slice_get (formats characters) character ≡ Some format) × IsFormatAt es marks place format

-- no mark begins or ends between the range's places: it begins with an element of which the character has the format
-- that stands where the old range began, or where the text begins, and then it ends with such an element
pub record HasNeighbor (characters : List Glyph) (old new : List Element) (marks : List Op)
    (was range : PlaceRange) : Type 0 where
  pub uniform : IsUniform new marks range.low range.high
  pub first : 0 < range.low → (range.low < range.high)
      × HasFormatOf characters new marks (count_by is_visible (take was.low old)) range.low
  pub last : range.low ≡ 0 → (at : ℕ) × (at < range.high) × (0 < count_by is_visible (take was.high old))
      × HasFormatOf characters new marks (count_by is_visible (take was.high old) - 1) at

-- what gives the range the formats that the marks give it
abbrev pub GiveFormats : Formats → List Element → List Element → List Op → PlaceRange → PlaceRange → Type 0
GiveFormats (OfNeighbors version) old new marks was range =
    HasNeighbor (glyphs (spans_of version.now)) old new marks was range
GiveFormats (OfMarks resolved) old new marks was range =
    (resolved.now.elements ≡ new) × (resolved.now.marks ≡ marks)

-- what gives each of the ranges its formats
abbrev pub GiveAllFormats : Formats → List Element → List Element → List Op → List PlaceRange → List PlaceRange → Type 0
GiveAllFormats given old new marks olds ranges =
    (k : ℕ) (was range : PlaceRange) → slice_get olds k ≡ Some was → slice_get ranges k ≡ Some range
    → GiveFormats given old new marks was range
