-- The names of an object (System V gABI, chapter 4, "String Table").
use Rattle.std.specs.Prelude.{◌≡◌, ℕ, ◌+◌, ◌-◌, ◌<◌, List, length, slice_index, drop, ◌==◌}
use Rattle.std.specs.List.{before_first}
use Rattle.object_files.specs.Sections.{section_at, count, name_table, contents, HasSections}

-- the section of an index is a string table: its last byte is 0, so each name that begins in it ends in it
pub record IsStringTable (bytes : List ℕ) (index : ℕ) : Type 0 where
  pub below : index < count bytes
  pub kind : (section_at bytes index).kind ≡ 3
  pub some : 0 < (section_at bytes index).size
  pub ends : slice_index bytes ((section_at bytes index).offset + (section_at bytes index).size - 1) ≡ 0

-- the name that begins at an offset of a string table: the bytes before the next 0
abbrev pub name_in : List ℕ → ℕ → List ℕ
name_in strings offset = before_first (λ byte. byte == 0) (drop offset strings)

-- the name that begins at an offset of the section of an index, which has a 0 behind it
pub record IsNameOf (bytes : List ℕ) (index offset : ℕ) (name : List ℕ) : Type 0 where
  pub bytes_are : name ≡ name_in (contents bytes (section_at bytes index)) offset
  pub ends : slice_index (contents bytes (section_at bytes index)) (offset + length name) ≡ 0

pub record HasNameTable (bytes : List ℕ) : Type 0 where
  pub sections : HasSections bytes
  pub strings : IsStringTable bytes (name_table bytes)

abbrev pub HasName : List ℕ → ℕ → Type 0
HasName bytes index = (section_at bytes index).name < (section_at bytes (name_table bytes)).size

abbrev pub AreNamed : List ℕ → ℕ → Type 0
AreNamed bytes limit = (index : ℕ) → index < limit → HasName bytes index

pub record HasNames (bytes : List ℕ) : Type 0 where
  pub name_table : HasNameTable bytes
  pub named : AreNamed bytes (count bytes)
