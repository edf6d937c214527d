-- Anchors by their places among the elements.
use Rattle.std.specs.Prelude.{◌≡◌, ℕ, ◌+◌, List, length}
use Rattle.change_ops.specs.declared.operation.Anchor.{Anchor}
use Rattle.change_ops.specs.declared.operation.Anchor.TheVariants.{TextStart, BeforeCharacter, AfterCharacter, TextEnd}
use Rattle.change_ops.specs.Operations.{key_of}
use Rattle.change_ops.specs.declared.attribute.Key.{Key}
use Rattle.change_ops.specs.declared.operation.Op.{Op}
use Rattle.change_ops.specs.declared.operation.Op.TheVariants.{Insert, Remove, AddMark, RemoveMark, Revive}
use Rattle.char_sequence.specs.declared.sequence.Element.{Element}
use Rattle.char_sequence.specs.Order.{IsAt}

-- `n` characters stand before the anchor
abbrev pub IsBoundary : List Element → Anchor → ℕ → Type 0
IsBoundary es TextStart n = n ≡ 0
IsBoundary es (BeforeCharacter x) n = IsAt es x n
IsBoundary es (AfterCharacter x) n = (k : ℕ) × IsAt es x k × (n ≡ k + 1)
IsBoundary es TextEnd n = n ≡ length es

-- the operation adds or removes a mark of the key
abbrev pub IsOfKey : Key → Op → Type 0
IsOfKey key (Insert id parent character) = ⊥
IsOfKey key (Remove id target) = ⊥
IsOfKey key (AddMark id attribute start end) = key_of attribute ≡ key
IsOfKey key (RemoveMark id k start end) = k ≡ key
IsOfKey key (Revive id removal) = ⊥

-- its anchors have `first` and `last` characters before them
abbrev pub Lies : List Element → Op → ℕ → ℕ → Type 0
Lies es (Insert id parent character) first last = ⊥
Lies es (Remove id target) first last = ⊥
Lies es (AddMark id attribute start end) first last = IsBoundary es start first × IsBoundary es end last
Lies es (RemoveMark id k start end) first last = IsBoundary es start first × IsBoundary es end last
Lies es (Revive id removal) first last = ⊥
