-- Texts that changed in several ranges of places.
use Rattle.std.specs.Prelude.{◌≡◌, ◌<◌, ◌≤◌, ◌⊎◌, ℕ, List, [], ◌∷◌, Contains, drop, length, slice_range}
use Rattle.change_ops.specs.declared.operation.Op.{Op}
use Rattle.char_sequence.specs.declared.sequence.Element.{Element}
use Rattle.mark_places.specs.declared.range.PlaceRange.{PlaceRange}
use Rattle.version_laws.specs.Touched.{TouchesWithin}

-- of these operations, one touches places of one of the ranges alone
abbrev pub TouchesOneOf : List Op → List Element → List PlaceRange → Op → Type 0
TouchesOneOf ops es ranges o = (r : PlaceRange) × Contains ranges r × TouchesWithin ops es r.low r.high o

-- the place is in none of the ranges
abbrev pub LiesOutside : List PlaceRange → ℕ → Type 0
LiesOutside [] place = Unit {0}
LiesOutside (r ∷ rs) place = ((place < r.low) ⊎ (r.high ≤ place)) × LiesOutside rs place

-- a place lies between each two of them
abbrev pub AreGapped : List PlaceRange → Type 0
AreGapped [] = Unit {0}
AreGapped (r ∷ []) = Unit {0}
AreGapped (r ∷ next ∷ rs) = (r.high < next.low) × AreGapped (next ∷ rs)

-- from place `a` of the old elements and `b` of the new ones on: before each range of the old ones stands what stands
-- before that of the new ones, and what stands behind the last one is the same; the ranges are places of the old ones
abbrev pub AreChangedWithin : List Element → List Element → List PlaceRange → List PlaceRange → ℕ → ℕ → Type 0
AreChangedWithin old new [] [] a b = (a ≤ length old) × (drop a old ≡ drop b new)
AreChangedWithin old new (o ∷ os) (n ∷ ns) a b =
    (a ≤ o.low) × (o.low ≤ o.high) × (slice_range old a o.low ≡ slice_range new b n.low)
    × AreChangedWithin old new os ns o.high n.high
AreChangedWithin old new os ns a b = ⊥
