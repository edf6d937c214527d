-- The relocations of an object (System V gABI, chapter 4, "Relocation").
use Rattle.std.specs.Prelude.{◌≡◌, ℕ, zero, suc, ◌+◌, ◌*◌, ◌/◌, ◌%◌, ◌<◌}
use Rattle.std.specs.Prelude.{List, Option, Some, None, ◌⊎◌, ◌==◌, ◌||◌, ◌&&◌}
use Rattle.std.specs.Prelude.{if◌then◌else◌, Bool, false, length, slice_get}
use Rattle.object_files.specs.Header.{number_at}
use Rattle.object_files.specs.Sections.{section_at, count}
use Rattle.object_files.specs.Symbols.{symbol_table, symbol_count, HasSymbols}
use Rattle.object_files.specs.declared.section.Section.{Section}
use Rattle.object_files.specs.declared.relocation.Relocation.{Relocation}

-- a table of relocations, with addends (kind 4) or without (kind 9)
abbrev pub is_relocating : Section → Bool
is_relocating section = (section.kind == 4) || (section.kind == 9)

-- a section that a running program has
abbrev pub is_allocated : Section → Bool
is_allocated section = section.flags / 2 % 2 == 1

-- the section that a table of relocations applies to
abbrev pub target : List ℕ → ℕ → Section
target bytes index = section_at bytes (section_at bytes index).info

unfoldable pub relocation_entry_at : ℕ → List ℕ → Relocation
relocation_entry_at offset bytes = record {
  offset = number_at 8 offset bytes;
  kind = number_at 4 (offset + 8) bytes;
  symbol = number_at 4 (offset + 12) bytes;
}

unfoldable pub relocation_count : List ℕ → ℕ → ℕ
relocation_count bytes table = (section_at bytes table).size / 16

-- the relocation of an index in a table
unfoldable pub relocation_at : List ℕ → ℕ → ℕ → Relocation
relocation_at bytes table index = relocation_entry_at ((section_at bytes table).offset + 16 * index) bytes

-- entries of 16 bytes, of the symbols of the object
pub record HasRelocations (bytes : List ℕ) (table : ℕ) : Type 0 where
  pub size : (section_at bytes table).entry_size ≡ 16
  pub whole : (section_at bytes table).size % 16 ≡ 0
  pub symbols : (section_at bytes table).link ≡ symbol_table bytes

abbrev pub NameSymbols : List ℕ → ℕ → ℕ → Type 0
NameSymbols bytes table limit =
    (index : ℕ) → index < limit → (relocation_at bytes table index).symbol < symbol_count bytes

-- a table of relocations of a section that a running program has: it has no addends, and each names a symbol
pub record IsRelocationTable (bytes : List ℕ) (table : ℕ) : Type 0 where
  pub kind : (section_at bytes table).kind ≡ 9
  pub entries : HasRelocations bytes table
  pub each : NameSymbols bytes table (relocation_count bytes table)

-- a section that is no table of relocations, or one of a section that no running program has, or a sound one
abbrev pub RelocatesWell : List ℕ → ℕ → Type 0
RelocatesWell bytes table =
    (is_relocating (section_at bytes table) ≡ false)
    ⊎ (((section_at bytes table).info < count bytes)
    × ((is_allocated (target bytes table) ≡ false) ⊎ IsRelocationTable bytes table))

abbrev pub AllRelocateWell : List ℕ → ℕ → Type 0
AllRelocateWell bytes limit = (table : ℕ) → table < limit → RelocatesWell bytes table

pub record HasRelocationTables (bytes : List ℕ) : Type 0 where
  pub symbols : HasSymbols bytes
  pub each : AllRelocateWell bytes (count bytes)

-- which section a table of relocations applies to, where a running program has it
unfoldable pub applied_to : List ℕ → ℕ → Option ℕ
applied_to bytes table =
    if is_relocating (section_at bytes table) && is_allocated (target bytes table)
    then Some (section_at bytes table).info
    else None

-- of two tables that may apply to a section the later one
abbrev pub latest : Option ℕ → ℕ → ℕ → Option ℕ → Option ℕ
latest None section table before = before
latest (Some other) section table before = if other == section then Some table else before

-- the last table among the first sections that applies to this one
unfoldable pub last_relocation_table : List ℕ → ℕ → ℕ → Option ℕ
last_relocation_table bytes section zero = None
last_relocation_table bytes section (suc table) =
    latest (applied_to bytes table) section table (last_relocation_table bytes section table)

-- among the first sections no two tables apply to one section
pub record ApplyOnce (bytes : List ℕ) (limit : ℕ) : Type 0 where
  pub last : (table section : ℕ) → table < limit → applied_to bytes table ≡ Some section
      → last_relocation_table bytes section limit ≡ Some table

-- the only table of relocations that applies to a section
unfoldable pub relocation_table : List ℕ → ℕ → Option ℕ
relocation_table bytes section = last_relocation_table bytes section (count bytes)

-- for each section, the table that applies to it among the first sections
pub record IsIndex (bytes : List ℕ) (tables : List (Option ℕ)) (limit : ℕ) : Type 0 where
  pub all : length tables ≡ count bytes
  pub each : (section : ℕ) → section < count bytes
      → slice_get tables section ≡ Some (last_relocation_table bytes section limit)

-- how many relocations a section has, by the table that applies to it
abbrev pub relocations_in : List ℕ → Option ℕ → ℕ
relocations_in bytes None = 0
relocations_in bytes (Some table) = relocation_count bytes table
