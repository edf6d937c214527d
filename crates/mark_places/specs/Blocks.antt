-- The marks of a block.
use Rattle.std.specs.Prelude.{◌≡◌, ◌⊎◌, ℕ, ◌+◌, ◌<◌, ◌≤◌, ◌^◌, List, [], ◌∷◌, All, Contains, length}
use Rattle.mark_places.specs.declared.ranked.RankedMark.{RankedMark}
use Rattle.mark_places.specs.declared.block.MarkName.{MarkName}

-- the mark of the name, with these ranks
abbrev pub named : MarkName → ℕ → ℕ → RankedMark
named name start end = record { index = name.index; id = name.id; key = name.key; start = start; end = end }

-- the marks of the names, with the ranks of their ends, to which the offset belongs
abbrev pub ranked : ℕ → List MarkName → List ℕ → List ℕ → List RankedMark
ranked offset [] starts ends = []
ranked offset (name ∷ names) [] ends = []
ranked offset (name ∷ names) (start ∷ starts) [] = []
ranked offset (name ∷ names) (start ∷ starts) (end ∷ ends) =
    named name (offset + start) (offset + end) ∷ ranked offset names starts ends

-- the mark's ranks are neither below the least nor above the greatest one
abbrev pub IsWithin : ℕ → ℕ → RankedMark → Type 0
IsWithin least greatest mark =
    ((least ≤ mark.start) × (mark.start ≤ greatest)) × ((least ≤ mark.end) × (mark.end ≤ greatest))

-- the ranks are from `least` up to `greatest`, which one of them is
pub record AreBounded (offset least greatest : ℕ) (marks : List RankedMark) : Type 0 where
  pub from : offset ≤ least
  pub below : greatest < 2 ^ 31
  pub within : All (IsWithin least greatest) marks
  pub reached : (mark : RankedMark) × Contains marks mark × ((mark.start ≡ greatest) ⊎ (mark.end ≡ greatest))

-- each name has its two ranks, and the bounds are those of the ranks
pub record IsBlock (offset least greatest : ℕ) (names : List MarkName) (starts ends : List ℕ) : Type 0 where
  pub starts_sized : length starts ≡ length names
  pub ends_sized : length ends ≡ length names
  pub bounded : AreBounded offset least greatest (ranked offset names starts ends)
