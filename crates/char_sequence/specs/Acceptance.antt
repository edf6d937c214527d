-- Which operations are accepted after others (Peritext, CSCW 2022).
use Rattle.std.specs.Prelude.{◌≡◌, ◌≤◌, ◌<◌, ◌+◌, ◌++◌, ◌⊎◌, ℕ, List, Contains, true, Some, count_by, take, slice_get}
use Rattle.std.specs.Prelude.{if◌then◌else◌, Option, Result, Ok, Err, length, encode_utf8}
use Rattle.change_ops.specs.Operations.{id_of, is_insert, is_revival, bytes_of, Names, NamesRemoval}
use Rattle.change_ops.specs.declared.id.OpId.{OpId}
use Rattle.change_ops.specs.declared.operation.Op.{Op}
use Rattle.change_ops.specs.declared.operation.Op.TheVariants.{Insert, Remove, AddMark, RemoveMark, Revive}
use Rattle.change_ops.specs.declared.size.Size.{Size}
use Rattle.change_ops.specs.Sizes.{most_characters, most_bytes}
use Rattle.char_sequence.specs.declared.sequence.Element.{Element}
use Rattle.char_sequence.specs.declared.sequence.SequenceError.{SequenceError}
use Rattle.char_sequence.specs.declared.sequence.SequenceError.TheVariants.{StaleCounter, UnknownRef, DocumentFull}
use Rattle.char_sequence.specs.Tree.{Present, IsRemoval, HidesAlone}
use Rattle.char_sequence.specs.Order.{Shows}
use Rattle.char_sequence.specs.Visible.{visible_text}

-- an operation of the same peer has a counter as great
abbrev pub Used : List Op → OpId → Type 0
Used ops id = (o : Op) × Contains ops o × ((id_of o).node ≡ id.node) × (id.counter ≤ (id_of o).counter)

-- an id that the operation names: a character, or a removal
abbrev pub NamesId : Op → OpId → Type 0
NamesId op x = Names op x ⊎ NamesRemoval op x

-- the counter is not above its peer's last one, or not above that of an id that the operation names
abbrev pub IsStale : List Op → Op → Type 0
IsStale ops op = Used ops (id_of op) ⊎ ((x : OpId) × NamesId op x × ((id_of op).counter ≤ x.counter))

-- a character or a removal that the operation names is not there
abbrev pub IsUnknown : List Op → Op → Type 0
IsUnknown ops op =
    ((x : OpId) × Names op x × (Present ops x → ⊥)) ⊎ ((r : OpId) × NamesRemoval op r × (IsRemoval ops r → ⊥))

-- the operation shows a character: it inserts it, or takes the only removal back that hides it
abbrev pub ShowsCharacter : List Op → Op → ℕ → Type 0
ShowsCharacter ops (Insert id parent character) c = character ≡ c
ShowsCharacter ops (Remove id target) c = ⊥
ShowsCharacter ops (AddMark id attribute start end) c = ⊥
ShowsCharacter ops (RemoveMark id key start end) c = ⊥
ShowsCharacter ops (Revive id removal) c =
    (x : OpId) × (p : Option OpId) × Contains ops (Insert x p c) × HidesAlone ops removal x

-- with the character that the operation shows the visible text would have more than 131,072 bytes
abbrev pub HasNoRoom : List Op → Op → Type 0
HasNoRoom ops op =
    (es : List Element) × (c : ℕ) × Shows es ops × ShowsCharacter ops op c
    × (most_bytes < length (visible_text es) + length (encode_utf8 c))

-- how many bytes an operation adds to the visible text at most: those of an insert's character, four of a revival's
abbrev pub most_growth : Op → ℕ
most_growth op = if is_revival op then 4 else bytes_of op

-- an insert after as many as the size allows, or an operation that shows a character for which there is no room
abbrev pub IsFull : Size → List Op → Op → Type 0
IsFull size ops op =
    ((is_insert op ≡ true) × (most_characters size ≤ count_by is_insert ops)) ⊎ HasNoRoom ops op

pub record Accepts (size : Size) (ops : List Op) (op : Op) : Type 0 where
  pub fresh : IsStale ops op → ⊥
  pub known : (x : OpId) → Names op x → Present ops x
  pub removal : (r : OpId) → NamesRemoval op r → IsRemoval ops r
  pub room : IsFull size ops op → ⊥

-- each of several operations is accepted after those before it
abbrev pub AcceptsAll : Size → List Op → List Op → Type 0
AcceptsAll size ops added = (i : ℕ) (op : Op) → slice_get added i ≡ Some op → Accepts size (ops ++ take i added) op

-- what a check answers: the first refusal that applies
abbrev pub Checked : {T : Type 0} → Size → List Op → Op → Result T SequenceError → Type 0
Checked size ops op (Ok x) = Accepts size ops op
Checked size ops op (Err StaleCounter) = IsStale ops op
Checked size ops op (Err UnknownRef) = (IsStale ops op → ⊥) × IsUnknown ops op
Checked size ops op (Err DocumentFull) = (IsStale ops op → ⊥) × (IsUnknown ops op → ⊥) × IsFull size ops op
