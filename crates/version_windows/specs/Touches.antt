-- Ranges of places that operations touch, whichever operations have the removals that a sequence holds.
use Rattle.std.specs.Prelude.{List, Contains}
use Rattle.change_ops.specs.declared.operation.Op.{Op}
use Rattle.char_sequence.specs.Held.{Sequence, HoldsRemovals}
use Rattle.mark_places.specs.declared.range.PlaceRange.{PlaceRange}
use Rattle.version_laws.specs.Ranges.{TouchesOneOf}
use Rattle.version_laws.specs.Touched.{TouchesWithin}

-- each of them touches places of the range alone
abbrev pub AllTouchWithin : Sequence → List Op → PlaceRange → Type 0
AllTouchWithin sequence added range =
    (ops : List Op) → HoldsRemovals sequence.removals ops → (o : Op) → Contains added o
    → TouchesWithin ops sequence.elements range.low range.high o

-- each of them touches places of one of the ranges alone
abbrev pub AllTouchOneOf : Sequence → List Op → List PlaceRange → Type 0
AllTouchOneOf sequence added ranges =
    (ops : List Op) → HoldsRemovals sequence.removals ops → (o : Op) → Contains added o
    → TouchesOneOf ops sequence.elements ranges o
