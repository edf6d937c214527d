-- Ranges of places, and marks that cover some of them.
use Rattle.std.specs.Prelude.{◌≡◌, ◌-◌, ◌<◌, ◌≤◌, ℕ, List, [], ◌∷◌, Some, Contains, length, slice_get}
use Rattle.mark_anchors.specs.declared.placed.PlacedMark.{PlacedMark}
use Rattle.mark_places.specs.declared.range.PlaceRange.{PlaceRange}

-- from a place on, the ranges stand one after another, and the last one ends at `end` or before it
abbrev pub AreApart : List PlaceRange → ℕ → ℕ → Type 0
AreApart [] at end = at ≤ end
AreApart (r ∷ rs) at end = (at ≤ r.low) × (r.low ≤ r.high) × AreApart rs r.high end

-- it begins where the first range does, and ends where the last one does
pub record IsHull (ranges : List PlaceRange) (hull : PlaceRange) : Type 0 where
  pub first : (range : PlaceRange) × (slice_get ranges 0 ≡ Some range) × (hull.low ≡ range.low)
  pub last : (range : PlaceRange) × (slice_get ranges (length ranges - 1) ≡ Some range) × (hull.high ≡ range.high)

-- the mark covers a place of the range, if that has one
pub record CoversSome (range : PlaceRange) (mark : PlacedMark) : Type 0 where
  pub before : mark.start < range.high
  pub behind : range.low < mark.end
  pub some : mark.start < mark.end

-- it covers one of some range
abbrev pub CoversAny : List PlaceRange → PlacedMark → Type 0
CoversAny ranges mark = (range : PlaceRange) × Contains ranges range × CoversSome range mark
