-- The places at which formats change, and the format of the character at a place.
use Rattle.std.specs.Prelude.{◌≡◌, ◌<◌, ◌≤◌, ◌+◌, ◌⊎◌, ℕ, List, Some, Contains, slice_get}
use Rattle.std.specs.List.Sorted.{IsStrictlyIncreasing}
use Rattle.change_ops.specs.declared.operation.Op.{Op}
use Rattle.char_sequence.specs.declared.sequence.Element.{Element}
use Rattle.char_sequence.specs.Order.{Shows}
use Rattle.mark_anchors.specs.Format.{IsFormat}
use Rattle.mark_anchors.specs.Formatting.{Format}
use Rattle.mark_anchors.specs.Marks.{AreMarks}
use Rattle.mark_anchors.specs.Places.{Lies}

-- the character at the place has the format
abbrev pub IsFormatAt : List Element → List Op → ℕ → Format → Type 0
IsFormatAt es marks place format =
    (ops : List Op) (e : Element) → Shows es ops → AreMarks ops marks → slice_get es place ≡ Some e
    → IsFormat ops e.id format

-- each cut is behind `low`, and none is behind `high`
abbrev pub AreWithin : ℕ → ℕ → List ℕ → Type 0
AreWithin low high cuts = (c : ℕ) → Contains cuts c → (low < c) × (c ≤ high)

-- the place is among the cuts, where it is behind `low` and not behind `high`
abbrev pub IsCutAt : ℕ → ℕ → List ℕ → ℕ → Type 0
IsCutAt low high cuts place = low < place → place ≤ high → Contains cuts place

-- so are the places of the mark's anchors
abbrev pub IsCut : List Element → ℕ → ℕ → List ℕ → Op → Type 0
IsCut es low high cuts o =
    (first : ℕ) × ((last : ℕ) × Lies es o first last × IsCutAt low high cuts first × IsCutAt low high cuts last)

-- the places behind `low`, up to `high`, at which marks begin and end, and `high` itself
pub record AreCuts (es : List Element) (marks : List Op) (low high : ℕ) (cuts : List ℕ) : Type 0 where
  pub rising : IsStrictlyIncreasing cuts
  pub within : AreWithin low high cuts
  pub end : low < high → Contains cuts high
  pub every : (o : Op) → Contains marks o → IsCut es low high cuts o

-- the last of the first `k` cuts, or the place before all of them
abbrev pub IsReached : List ℕ → ℕ → ℕ → ℕ → Type 0
IsReached cuts low k from =
    ((k ≡ 0) × (from ≡ low)) ⊎ ((j : ℕ) × (k ≡ j + 1) × (slice_get cuts j ≡ Some from))

-- no mark begins or ends between the two places
abbrev pub IsUniform : List Element → List Op → ℕ → ℕ → Type 0
IsUniform es marks from to =
    (o : Op) → Contains marks o
    → (first : ℕ)
    × ((last : ℕ) × Lies es o first last × ((first ≤ from) ⊎ (to ≤ first)) × ((last ≤ from) ⊎ (to ≤ last)))
