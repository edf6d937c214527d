-- The sections of an object (System V gABI, chapter 4, "Section Header").
use Rattle.std.specs.Prelude.{◌≡◌, ℕ, zero, suc, ◌+◌, ◌*◌, ◌<◌, ◌≤◌, List}
use Rattle.std.specs.Prelude.{[], length, slice_range, ◌⊎◌, ◌==◌, ◌||◌, if◌then◌else◌, Bool}
use Rattle.object_files.specs.Header.{number_at, IsBpf}
use Rattle.object_files.specs.declared.section.Section.{Section}

-- where the table begins, how many sections it has, and which of them holds their names
unfoldable pub table : List ℕ → ℕ
table bytes = number_at 8 40 bytes

unfoldable pub count : List ℕ → ℕ
count bytes = number_at 2 60 bytes

unfoldable pub name_table : List ℕ → ℕ
name_table bytes = number_at 2 62 bytes

-- the row of the table at an offset
unfoldable pub row_at : ℕ → List ℕ → Section
row_at offset bytes = record {
  name = number_at 4 offset bytes;
  kind = number_at 4 (offset + 4) bytes;
  flags = number_at 8 (offset + 8) bytes;
  offset = number_at 8 (offset + 24) bytes;
  size = number_at 8 (offset + 32) bytes;
  link = number_at 4 (offset + 40) bytes;
  info = number_at 4 (offset + 44) bytes;
  alignment = number_at 8 (offset + 48) bytes;
  entry_size = number_at 8 (offset + 56) bytes;
}

-- the section of an index
unfoldable pub section_at : List ℕ → ℕ → Section
section_at bytes index = row_at (table bytes + 64 * index) bytes

pub record HasEntries (bytes : List ℕ) : Type 0 where
  pub bpf : IsBpf bytes
  pub size : number_at 2 58 bytes ≡ 64

-- some, and fewer than the first reserved index, 0xff00
pub record IsCounted (bytes : List ℕ) : Type 0 where
  pub entries : HasEntries bytes
  pub some : 0 < count bytes
  pub few : count bytes < 65280

-- the table lies behind the header, within the bytes
pub record IsPlaced (bytes : List ℕ) : Type 0 where
  pub counted : IsCounted bytes
  pub behind : 64 ≤ table bytes
  pub within : table bytes + 64 * count bytes ≤ length bytes

-- section 0 is none
pub record IsTable (bytes : List ℕ) : Type 0 where
  pub placed : IsPlaced bytes
  pub first : (section_at bytes 0).kind ≡ 0

-- no section (kind 0), and zeroes (kind 8), have no bytes
abbrev pub is_empty : Section → Bool
is_empty section = (section.kind == 0) || (section.kind == 8)

abbrev pub IsEmpty : Section → Type 0
IsEmpty section = (section.kind ≡ 0) ⊎ (section.kind ≡ 8)

-- its bytes are in the file
abbrev pub IsWithin : List ℕ → Section → Type 0
IsWithin bytes section = IsEmpty section ⊎ (section.offset + section.size ≤ length bytes)

-- its bytes, if it has any, share none with the header or the table
abbrev pub IsApart : List ℕ → Section → Type 0
IsApart bytes section =
    IsEmpty section
    ⊎ ((section.size ≡ 0)
    ⊎ ((64 ≤ section.offset)
    × ((section.offset + section.size ≤ table bytes) ⊎ (table bytes + 64 * count bytes ≤ section.offset))))

-- how many bytes a section has in the file
abbrev pub file_size : Section → ℕ
file_size section = if is_empty section then 0 else section.size

-- how many bytes the first sections have
unfoldable pub total_size : List ℕ → ℕ → ℕ
total_size bytes zero = 0
total_size bytes (suc index) = total_size bytes index + file_size (section_at bytes index)

abbrev pub AreWithin : List ℕ → ℕ → Type 0
AreWithin bytes limit = (index : ℕ) → index < limit → IsWithin bytes (section_at bytes index)

abbrev pub AreApart : List ℕ → ℕ → Type 0
AreApart bytes limit = (index : ℕ) → index < limit → IsApart bytes (section_at bytes index)

pub record HasBytes (bytes : List ℕ) : Type 0 where
  pub table : IsTable bytes
  pub within : AreWithin bytes (count bytes)

pub record HasOwnBytes (bytes : List ℕ) : Type 0 where
  pub has_bytes : HasBytes bytes
  pub apart : AreApart bytes (count bytes)

-- together the sections have no more bytes than the file
pub record HasSections (bytes : List ℕ) : Type 0 where
  pub own : HasOwnBytes bytes
  pub total : total_size bytes (count bytes) ≤ length bytes

-- the bytes of a section
abbrev pub contents : List ℕ → Section → List ℕ
contents bytes section =
    if is_empty section then [] else slice_range bytes section.offset (section.offset + section.size)
