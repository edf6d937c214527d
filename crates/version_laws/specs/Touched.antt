-- Which places of a text an operation touches.
use Rattle.std.specs.Prelude.{ℕ, ◌<◌, ◌≤◌, ◌⊎◌, List, Contains}
use Rattle.change_ops.specs.declared.id.OpId.{OpId}
use Rattle.change_ops.specs.declared.operation.Op.{Op}
use Rattle.change_ops.specs.declared.operation.Op.TheVariants.{Insert, Remove, AddMark, RemoveMark, Revive}
use Rattle.char_sequence.specs.declared.sequence.Element.{Element}
use Rattle.char_sequence.specs.Order.{IsAt}
use Rattle.mark_anchors.specs.Places.{Lies}

-- the character stands from `low` on and below `high`
abbrev pub StandsWithin : List Element → ℕ → ℕ → OpId → Type 0
StandsWithin es low high x = (place : ℕ) × IsAt es x place × (low ≤ place) × (place < high)

-- the mark covers no place, or its anchors have `low` characters before them or more, and `high` or fewer
abbrev pub CoversWithin : List Element → ℕ → ℕ → Op → Type 0
CoversWithin es low high o =
    (first : ℕ) × ((last : ℕ) × Lies es o first last × ((last ≤ first) ⊎ ((low ≤ first) × (last ≤ high))))

-- of these operations, one touches no place below `low` and none from `high` on: the character that it inserts or
-- removes stands between them, or those that it marks, or each character whose removal it takes back
abbrev pub TouchesWithin : List Op → List Element → ℕ → ℕ → Op → Type 0
TouchesWithin ops es low high (Insert id parent character) = StandsWithin es low high id
TouchesWithin ops es low high (Remove id target) = StandsWithin es low high target
TouchesWithin ops es low high (AddMark id attribute start end) =
    CoversWithin es low high (AddMark id attribute start end)
TouchesWithin ops es low high (RemoveMark id key start end) = CoversWithin es low high (RemoveMark id key start end)
TouchesWithin ops es low high (Revive id removal) =
    (x : OpId) → Contains ops (Remove removal x) → StandsWithin es low high x
