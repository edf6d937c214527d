-- Places of characters of consecutive ids.
use Rattle.std.specs.Prelude.{◌≡◌, ◌<◌, ◌≤◌, ℕ, List, Contains}
use Rattle.change_ops.specs.IdRuns.{later_id}
use Rattle.change_ops.specs.declared.id.OpId.{OpId}
use Rattle.change_ops.specs.declared.operation.Op.{Op}
use Rattle.change_ops.specs.declared.operation.Op.TheVariants.{Remove}
use Rattle.char_sequence.specs.Held.{Sequence, HoldsRemovals}
use Rattle.char_sequence.specs.Order.{IsAt}
use Rattle.char_sequence.specs.declared.sequence.Element.{Element}
use Rattle.mark_places.specs.declared.range.PlaceRange.{PlaceRange}

-- those of this many ids from the first one on that stand before the end stand in the range
abbrev pub CoversIds : List Element → OpId → ℕ → ℕ → PlaceRange → Type 0
CoversIds es first count end range =
    (k place : ℕ) → k < count → place < end → IsAt es (later_id first k) place
    → (range.low ≤ place) × (place < range.high)

-- of this many removals from an id on, each removes the character whose id is as much greater than the first one's
abbrev pub AreRemoved : Sequence → OpId → ℕ → OpId → Type 0
AreRemoved sequence removal count first =
    (ops : List Op) → HoldsRemovals sequence.removals ops → (k : ℕ) (x : OpId) → k < count
    → Contains ops (Remove (later_id removal k) x) → x ≡ later_id first k
