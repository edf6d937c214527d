-- Ranges that begin and end with characters which a change leaves as they were.
use Rattle.std.specs.Prelude.{◌≡◌, ◌≤◌, ◌+◌, ◌<◌, ◌⊎◌, ℕ, true, List, Some, drop, length, slice_get}
use Rattle.std.specs.Prelude.{slice_index_or, take}
use Rattle.char_sequence.specs.declared.sequence.Element.{Element}
use Rattle.char_sequence.specs.Visible.{visible_count, IsFirstVisible, IsLastVisible}
use Rattle.mark_places.specs.declared.range.PlaceRange.{PlaceRange}
use Rattle.version_laws.specs.Ranges.{LiesOutside}

-- at the place stands a visible character, and none of the ranges covers it
abbrev pub IsKeptAt : List Element → List PlaceRange → ℕ → Type 0
IsKeptAt elements ranges place =
    (e : Element) × (slice_get elements place ≡ Some e) × (e.visible ≡ true) × LiesOutside ranges place

-- the range begins with one, or where the text begins, and ends with one of its own, or where the text ends
pub record HasKeptEdges (elements : List Element) (ranges : List PlaceRange) (range : PlaceRange) : Type 0 where
  pub front : (range.low ≡ 0) ⊎ IsKeptAt elements ranges range.low
  pub back : (range.high ≡ length elements)
      ⊎ ((last : ℕ) × (range.high ≡ last + 1) × (range.low ≤ last) × IsKeptAt elements ranges last)

-- it begins with the last visible character before the range, or where the text begins if there is none, and ends with
-- the first one behind it, or where the text ends
pub record IsWidened (elements : List Element) (range wider : PlaceRange) : Type 0 where
  pub front : IsLastVisible elements range.low wider.low
      ⊎ ((wider.low ≡ 0) × (visible_count (take range.low elements) ≡ 0))
  pub back : ((last : ℕ) × (wider.high ≡ last + 1) × IsFirstVisible elements range.high last)
      ⊎ ((wider.high ≡ length elements) × (visible_count (drop range.high elements) ≡ 0))

-- each of them is the range at its index, widened
pub record AreWidened (elements : List Element) (ranges wider : List PlaceRange) : Type 0 where
  pub as_many : length wider ≡ length ranges
  pub each : (k : ℕ) (d : PlaceRange) → k < length ranges
      → IsWidened elements (slice_index_or ranges k d) (slice_index_or wider k d)
