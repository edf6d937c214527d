-- Ranges of places that cover others.
use Rattle.std.specs.Prelude.{◌≡◌, ◌≤◌, ℕ, List, Contains}
use Rattle.mark_places.specs.declared.range.PlaceRange.{PlaceRange}

-- where a range begins
abbrev pub low_of : PlaceRange → ℕ
low_of range = range.low

-- one of the ranges covers all places of this one
abbrev pub IsCovered : List PlaceRange → PlaceRange → Type 0
IsCovered ranges range = (by : PlaceRange) × Contains ranges by × (by.low ≤ range.low) × (range.high ≤ by.high)

-- the range begins where one of these begins, and ends where one of them ends
pub record HasEndsOf (ranges : List PlaceRange) (range : PlaceRange) : Type 0 where
  pub first : (r : PlaceRange) × Contains ranges r × (range.low ≡ r.low)
  pub last : (r : PlaceRange) × Contains ranges r × (range.high ≡ r.high)
