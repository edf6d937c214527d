-- Operations: their ids, keys, and the characters and removals that they name (Peritext, CSCW 2022).
use Rattle.std.specs.Prelude.{◌≡◌, ℕ, Some, ◌⊎◌, Bool, true, false, length, encode_utf8}
use Rattle.change_ops.specs.declared.id.OpId.{OpId}
use Rattle.change_ops.specs.declared.attribute.Key.{Key}
use Rattle.change_ops.specs.declared.attribute.Key.TheVariants as key
use Rattle.change_ops.specs.declared.attribute.Attribute.{Attribute}
use Rattle.change_ops.specs.declared.attribute.Attribute.TheVariants as attribute
use Rattle.change_ops.specs.declared.operation.Anchor.{Anchor}
use Rattle.change_ops.specs.declared.operation.Anchor.TheVariants.{TextStart, BeforeCharacter, AfterCharacter, TextEnd}
use Rattle.change_ops.specs.declared.operation.Op.{Op}
use Rattle.change_ops.specs.declared.operation.Op.TheVariants.{Insert, Remove, AddMark, RemoveMark, Revive}

abbrev pub key_of : Attribute → Key
key_of (attribute.Row valued) = key.Row valued.row
key_of (attribute.Comment number) = key.Comment number

abbrev pub id_of : Op → OpId
id_of (Insert id parent character) = id
id_of (Remove id target) = id
id_of (AddMark id attribute start end) = id
id_of (RemoveMark id key start end) = id
id_of (Revive id removal) = id

abbrev pub AnchorNames : Anchor → OpId → Type 0
AnchorNames TextStart x = ⊥
AnchorNames (BeforeCharacter y) x = y ≡ x
AnchorNames (AfterCharacter y) x = y ≡ x
AnchorNames TextEnd x = ⊥

-- the operation names the character
abbrev pub Names : Op → OpId → Type 0
Names (Insert id parent character) x = parent ≡ Some x
Names (Remove id target) x = target ≡ x
Names (AddMark id attribute start end) x = AnchorNames start x ⊎ AnchorNames end x
Names (RemoveMark id key start end) x = AnchorNames start x ⊎ AnchorNames end x
Names (Revive id removal) x = ⊥

-- the operation names the removal
abbrev pub NamesRemoval : Op → OpId → Type 0
NamesRemoval (Insert id parent character) r = ⊥
NamesRemoval (Remove id target) r = ⊥
NamesRemoval (AddMark id attribute start end) r = ⊥
NamesRemoval (RemoveMark id key start end) r = ⊥
NamesRemoval (Revive id removal) r = removal ≡ r

abbrev pub is_insert : Op → Bool
is_insert (Insert id parent character) = true
is_insert (Remove id target) = false
is_insert (AddMark id attribute start end) = false
is_insert (RemoveMark id key start end) = false
is_insert (Revive id removal) = false

-- the operation inserts or removes a character, or takes a removal back
abbrev pub is_edit : Op → Bool
is_edit (Insert id parent character) = true
is_edit (Remove id target) = true
is_edit (AddMark id attribute start end) = false
is_edit (RemoveMark id key start end) = false
is_edit (Revive id removal) = true

-- the operation adds or removes a mark
abbrev pub is_mark : Op → Bool
is_mark (Insert id parent character) = false
is_mark (Remove id target) = false
is_mark (AddMark id attribute start end) = true
is_mark (RemoveMark id key start end) = true
is_mark (Revive id removal) = false

-- the operation takes a removal back
abbrev pub is_revival : Op → Bool
is_revival (Insert id parent character) = false
is_revival (Remove id target) = false
is_revival (AddMark id attribute start end) = false
is_revival (RemoveMark id key start end) = false
is_revival (Revive id removal) = true

-- how many bytes the character of an insert has
abbrev pub bytes_of : Op → ℕ
bytes_of (Insert id parent character) = length (encode_utf8 character)
bytes_of (Remove id target) = 0
bytes_of (AddMark id attribute start end) = 0
bytes_of (RemoveMark id key start end) = 0
bytes_of (Revive id removal) = 0

-- an operation that stands for none
abbrev pub blank : Op
blank = let least : OpId = record { counter = 1; node = 1 } in Remove least least
