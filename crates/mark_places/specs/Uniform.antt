-- Marks that begin or end between places, and ranks between ranks.
use Rattle.std.specs.Prelude.{ℕ, ◌&&◌, ◌||◌, Bool, leb, ltb, not}
use Rattle.mark_anchors.specs.declared.placed.PlacedMark.{PlacedMark}
use Rattle.mark_places.specs.declared.range.PlaceRange.{PlaceRange}
use Rattle.mark_places.specs.declared.ranked.RankedMark.{RankedMark}

-- the place lies behind the range's first place and before its end
abbrev pub is_inside : PlaceRange → ℕ → Bool
is_inside range place = ltb range.low place && ltb place range.high

-- the mark neither begins nor ends inside the range
abbrev pub is_whole : PlaceRange → PlacedMark → Bool
is_whole range mark = not (is_inside range mark.start || is_inside range mark.end)

-- the rank is from `from` on and below `below`
abbrev pub is_between : ℕ → ℕ → ℕ → Bool
is_between from below rank = leb from rank && ltb rank below

-- neither rank of the mark is
abbrev pub has_none_between : ℕ → ℕ → RankedMark → Bool
has_none_between from below mark = not (is_between from below mark.start || is_between from below mark.end)
