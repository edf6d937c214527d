-- The ranks of the ends of marks: twice the place, and one more where the end gives way.
use Rattle.std.specs.Prelude.{ℕ, ◌+◌, ◌/◌, ◌%◌, ◌==◌, ◌<◌, Bool, cond, leb}
use Rattle.mark_anchors.specs.declared.placed.PlacedMark.{PlacedMark}
use Rattle.mark_places.specs.MarkPlace.{MarkPlace}
use Rattle.mark_places.specs.declared.ranked.RankedMark.{RankedMark}

-- the end with this rank gives way
abbrev pub is_odd : ℕ → Bool
is_odd rank = rank % 2 == 1

-- the mark with its places
abbrev pub placed : RankedMark → PlacedMark
placed mark =
    record { index = mark.index; id = mark.id; key = mark.key; start = mark.start / 2; end = mark.end / 2 }

-- and whether its ends give way
abbrev pub place_of : RankedMark → MarkPlace
place_of mark =
    record { mark = placed mark; start_gives_way = is_odd mark.start; end_gives_way = is_odd mark.end }

-- a rank from `from` on is moved
abbrev pub raised : ℕ → ℕ → ℕ → ℕ
raised from by rank = cond (leb from rank) (rank + by) rank

-- those of the mark's ends whose ranks are from `from` on are moved
abbrev pub mark_raised : ℕ → ℕ → RankedMark → RankedMark
mark_raised from by mark = record mark { start = raised from by mark.start; end = raised from by mark.end }

-- both ranks are below the limit
abbrev pub IsBelow : ℕ → RankedMark → Type 0
IsBelow limit mark = (mark.start < limit) × (mark.end < limit)
