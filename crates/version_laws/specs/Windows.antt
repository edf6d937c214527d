-- Which operations change formats within a window of places alone.
use Rattle.std.specs.Prelude.{◌≡◌, ℕ, ◌≤◌, ◌⊎◌, true, List}
use Rattle.change_ops.specs.Operations.{is_edit}
use Rattle.change_ops.specs.declared.operation.Op.{Op}
use Rattle.char_sequence.specs.declared.sequence.Element.{Element}
use Rattle.mark_anchors.specs.Places.{Lies}

-- the operation is no mark, or one that covers no place below `from` and none from `to` on
abbrev pub IsWithinWindow : List Element → ℕ → ℕ → Op → Type 0
IsWithinWindow es from to o =
    (is_edit o ≡ true)
    ⊎ ((first : ℕ) × ((last : ℕ) × Lies es o first last × ((last ≤ first) ⊎ ((from ≤ first) × (last ≤ to)))))
