-- What additions and removals of marks have in common.
use Rattle.std.specs.Prelude.{◌≡◌}
use Rattle.change_ops.specs.Operations.{key_of}
use Rattle.change_ops.specs.declared.operation.Op.{Op}
use Rattle.change_ops.specs.declared.operation.Op.TheVariants.{Insert, Remove, AddMark, RemoveMark, Revive}
use Rattle.mark_anchors.specs.declared.mark_range.MarkRange.{MarkRange}

-- the key and the anchors of the operation
abbrev pub IsRangeOf : Op → MarkRange → Type 0
IsRangeOf (Insert id parent character) range = ⊥
IsRangeOf (Remove id target) range = ⊥
IsRangeOf (AddMark id attribute start end) range =
    (key_of attribute ≡ range.key) × (start ≡ range.start) × (end ≡ range.end)
IsRangeOf (RemoveMark id key start end) range = (key ≡ range.key) × (start ≡ range.start) × (end ≡ range.end)
IsRangeOf (Revive id removal) range = ⊥
