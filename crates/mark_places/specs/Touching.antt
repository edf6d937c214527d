-- Marks that cover some of the places of ranges.
use Rattle.std.specs.Prelude.{ℕ, ◌/◌, ◌<◌, ◌&&◌, Bool, List, ltb, map, filter}
use Rattle.std.specs.List.{list_any}
use Rattle.mark_anchors.specs.declared.placed.PlacedMark.{PlacedMark}
use Rattle.mark_places.specs.MarkPlace.{MarkPlace}
use Rattle.mark_places.specs.declared.range.PlaceRange.{PlaceRange}
use Rattle.mark_places.specs.declared.ranked.RankedMark.{RankedMark}

-- the mark covers a place of the range, if that has one
abbrev pub touches : PlacedMark → PlaceRange → Bool
touches mark range = (ltb mark.start range.high && ltb range.low mark.end) && ltb mark.start mark.end

-- the marks that cover a place of some range, in their order
abbrev pub touching : List PlaceRange → List MarkPlace → List PlacedMark
touching ranges places =
    filter (λ mark. list_any (touches mark) ranges) (map (λ (place : MarkPlace). place.mark) places)

-- the mark begins behind the places or ends before them
abbrev pub IsApart : ℕ → ℕ → RankedMark → Type 0
IsApart low high mark = mark.start / 2 < high → low < mark.end / 2 → ⊥
