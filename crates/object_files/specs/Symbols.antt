-- The symbols of an object (System V gABI, chapter 4, "Symbol Table").
use Rattle.std.specs.Prelude.{◌≡◌, ℕ, zero, suc, ◌+◌, ◌*◌, ◌/◌, ◌%◌}
use Rattle.std.specs.Prelude.{◌<◌, List, Option, Some, None, unwrap_or, ◌⊎◌, ◌==◌}
use Rattle.std.specs.Prelude.{if◌then◌else◌, slice_index}
use Rattle.object_files.specs.Header.{number_at}
use Rattle.object_files.specs.Sections.{section_at, count}
use Rattle.object_files.specs.Strings.{IsStringTable, HasNames}
use Rattle.object_files.specs.declared.symbol.Symbol.{Symbol}
use Rattle.object_files.specs.declared.symbol.SymbolPlace.{SymbolPlace}
use Rattle.object_files.specs.declared.symbol.SymbolPlace.TheVariants.{Undefined, Absolute, Common, InSection}

-- the last symbol table among the first sections
unfoldable pub last_symbol_table : List ℕ → ℕ → Option ℕ
last_symbol_table bytes zero = None
last_symbol_table bytes (suc index) =
    if (section_at bytes index).kind == 2 then Some index else last_symbol_table bytes index

-- no symbol table is among the first sections
abbrev pub HasNone : List ℕ → ℕ → Type 0
HasNone bytes limit = (index : ℕ) → index < limit → (section_at bytes index).kind ≡ 2 → ⊥

-- this one alone is among the first sections
pub record IsOnly (bytes : List ℕ) (limit : ℕ) (table : ℕ) : Type 0 where
  pub below : table < limit
  pub kind : (section_at bytes table).kind ≡ 2
  pub alone : (index : ℕ) → index < limit → (section_at bytes index).kind ≡ 2 → index ≡ table

unfoldable pub symbol_table : List ℕ → ℕ
symbol_table bytes = unwrap_or (last_symbol_table bytes (count bytes)) 0

-- there is one symbol table
pub record HasSymbolTable (bytes : List ℕ) : Type 0 where
  pub names : HasNames bytes
  pub only : IsOnly bytes (count bytes) (symbol_table bytes)

pub record HasSymbolEntries (bytes : List ℕ) : Type 0 where
  pub table : HasSymbolTable bytes
  pub size : (section_at bytes (symbol_table bytes)).entry_size ≡ 24
  pub whole : (section_at bytes (symbol_table bytes)).size % 24 ≡ 0

-- which section holds the names of symbols
unfoldable pub symbol_names : List ℕ → ℕ
symbol_names bytes = (section_at bytes (symbol_table bytes)).link

pub record HasSymbolNames (bytes : List ℕ) : Type 0 where
  pub entries : HasSymbolEntries bytes
  pub strings : IsStringTable bytes (symbol_names bytes)

unfoldable pub symbol_count : List ℕ → ℕ
symbol_count bytes = (section_at bytes (symbol_table bytes)).size / 24

-- the entry at an offset
unfoldable pub symbol_entry_at : ℕ → List ℕ → Symbol
symbol_entry_at offset bytes = record {
  name = number_at 4 offset bytes;
  kind = slice_index bytes (offset + 4) % 16;
  binding = slice_index bytes (offset + 4) / 16;
  section = number_at 2 (offset + 6) bytes;
  value = number_at 8 (offset + 8) bytes;
  size = number_at 8 (offset + 16) bytes;
}

-- the symbol of an index
unfoldable pub symbol_at : List ℕ → ℕ → Symbol
symbol_at bytes index = symbol_entry_at ((section_at bytes (symbol_table bytes)).offset + 24 * index) bytes

-- where a symbol stands: in no section of the object, at a fixed number, where a linker chooses, or in a section
abbrev pub place_of : ℕ → SymbolPlace
place_of number =
    if number == 0 then Undefined
    else if number == 65521 then Absolute
    else if number == 65522 then Common
    else InSection number

-- its name begins in the names
abbrev pub IsSymbolNamed : List ℕ → Symbol → Type 0
IsSymbolNamed bytes symbol = symbol.name < (section_at bytes (symbol_names bytes)).size

-- its section is one of the object's, 0 for an undefined one; or it is absolute, or common
abbrev pub HasSection : List ℕ → Symbol → Type 0
HasSection bytes symbol = (symbol.section < count bytes) ⊎ ((symbol.section ≡ 65521) ⊎ (symbol.section ≡ 65522))

pub record IsSymbol (bytes : List ℕ) (symbol : Symbol) : Type 0 where
  pub named : IsSymbolNamed bytes symbol
  pub section : HasSection bytes symbol

abbrev pub AreSymbols : List ℕ → ℕ → Type 0
AreSymbols bytes limit = (index : ℕ) → index < limit → IsSymbol bytes (symbol_at bytes index)

pub record HasSymbols (bytes : List ℕ) : Type 0 where
  pub names : HasSymbolNames bytes
  pub each : AreSymbols bytes (symbol_count bytes)
