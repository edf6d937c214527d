-- The order of anchors, and which characters a mark covers (Peritext, CSCW 2022).
use Rattle.std.specs.Prelude.{◌≡◌, List, Some, ◌⊎◌}
use Rattle.change_ops.specs.declared.id.OpId.{OpId}
use Rattle.change_ops.specs.declared.operation.Op.{Op}
use Rattle.change_ops.specs.declared.operation.Anchor.{Anchor}
use Rattle.change_ops.specs.declared.operation.Anchor.TheVariants.{TextStart, BeforeCharacter, AfterCharacter, TextEnd}
use Rattle.char_sequence.specs.Order.{Before}

-- the same character, or an earlier one; hidden characters keep their places
abbrev pub NotAfter : List Op → OpId → OpId → Type 0
NotAfter ops x y = (x ≡ y) ⊎ Before ops (Some x) y

-- the start of the text comes first, its end last; between them come for each character, in order, the anchor before it
-- and then the one after it
abbrev pub AtOrBefore : List Op → Anchor → Anchor → Type 0
AtOrBefore ops TextStart b = Unit {0}
AtOrBefore ops a TextEnd = Unit {0}
AtOrBefore ops (BeforeCharacter x) (BeforeCharacter y) = NotAfter ops x y
AtOrBefore ops (BeforeCharacter x) (AfterCharacter y) = NotAfter ops x y
AtOrBefore ops (AfterCharacter x) (AfterCharacter y) = NotAfter ops x y
AtOrBefore ops (AfterCharacter x) (BeforeCharacter y) = Before ops (Some x) y
AtOrBefore ops a b = ⊥

-- a mark from one anchor to another covers the character: both of its anchors lie between them
abbrev pub Covers : List Op → Anchor → Anchor → OpId → Type 0
Covers ops start end e = AtOrBefore ops start (BeforeCharacter e) × AtOrBefore ops (AfterCharacter e) end
