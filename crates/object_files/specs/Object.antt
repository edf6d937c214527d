-- Which bytes are an object, and the first fault of those that aren't.
use Rattle.std.specs.Prelude.{◌≡◌, ◌≢◌, ℕ, suc, ◌<◌, ◌≤◌, List, length, true, Option, Some, None, IsSomeAnd}
use Rattle.object_files.specs.Header.{IsWithinLimit, IsElf, IsElf64, IsRelocatable, IsBpf}
use Rattle.object_files.specs.Sections.{section_at, count, name_table, total_size}
use Rattle.object_files.specs.Sections.{HasEntries, IsCounted, IsPlaced, IsTable}
use Rattle.object_files.specs.Sections.{IsWithin, IsApart, AreWithin, AreApart}
use Rattle.object_files.specs.Sections.{HasBytes, HasOwnBytes, HasSections}
use Rattle.object_files.specs.Strings.{IsStringTable, HasNameTable, HasName, AreNamed, HasNames}
use Rattle.object_files.specs.Symbols.{symbol_table, symbol_count, symbol_at}
use Rattle.object_files.specs.Symbols.{last_symbol_table, HasNone, IsOnly}
use Rattle.object_files.specs.Symbols.{HasSymbolTable, HasSymbolEntries, HasSymbolNames}
use Rattle.object_files.specs.Symbols.{IsSymbolNamed, HasSection}
use Rattle.object_files.specs.Symbols.{AreSymbols, HasSymbols}
use Rattle.object_files.specs.Relocations.{is_relocating, is_allocated, target}
use Rattle.object_files.specs.Relocations.{relocation_count, relocation_at}
use Rattle.object_files.specs.Relocations.{HasRelocations, NameSymbols, AllRelocateWell}
use Rattle.object_files.specs.Relocations.{HasRelocationTables, applied_to}
use Rattle.object_files.specs.Relocations.{last_relocation_table, ApplyOnce, IsIndex}
use Rattle.object_files.specs.declared.fault.ObjectFault.{ObjectFault}
use Rattle.object_files.specs.declared.fault.ObjectError.{ObjectError}
use Rattle.object_files.specs.declared.fault.ObjectError.TheVariants.{Fault, OutOfMemory}
use Rattle.object_files.specs.declared.fault.ObjectFault.TheVariants.{TooLong, NotElf, NotElf64}
use Rattle.object_files.specs.declared.fault.ObjectFault.TheVariants.{NotRelocatable, NotBpf}
use Rattle.object_files.specs.declared.fault.ObjectFault.TheVariants.{SectionEntrySize, SectionCount}
use Rattle.object_files.specs.declared.fault.ObjectFault.TheVariants.{SectionTable}
use Rattle.object_files.specs.declared.fault.ObjectFault.TheVariants.{FirstSection, SectionOutside}
use Rattle.object_files.specs.declared.fault.ObjectFault.TheVariants.{SectionOverTable}
use Rattle.object_files.specs.declared.fault.ObjectFault.TheVariants.{SectionsOverlap, NameTable, SectionName}
use Rattle.object_files.specs.declared.fault.ObjectFault.TheVariants.{SecondSymbolTable, NoSymbolTable}
use Rattle.object_files.specs.declared.fault.ObjectFault.TheVariants.{SymbolEntrySize}
use Rattle.object_files.specs.declared.fault.ObjectFault.TheVariants.{SymbolNameTable, SymbolName}
use Rattle.object_files.specs.declared.fault.ObjectFault.TheVariants.{SymbolSection}
use Rattle.object_files.specs.declared.fault.ObjectFault.TheVariants.{RelocationTarget, RelocationAddends}
use Rattle.object_files.specs.declared.fault.ObjectFault.TheVariants.{RelocationTable, RelocationSymbol}
use Rattle.object_files.specs.declared.fault.ObjectFault.TheVariants.{SecondRelocationTable}

-- an object that can be linked
pub record IsObject (bytes : List ℕ) : Type 0 where
  pub tables : HasRelocationTables bytes
  pub once : ApplyOnce bytes (count bytes)

-- a section that is a table of relocations, and what is looked at before it is sound
pub record IsReached (bytes : List ℕ) (table : ℕ) : Type 0 where
  pub symbols : HasSymbols bytes
  pub below : table < count bytes
  pub before : AllRelocateWell bytes table
  pub relocating : is_relocating (section_at bytes table) ≡ true

-- one that applies to a section that a running program has
pub record IsApplied (bytes : List ℕ) (table : ℕ) : Type 0 where
  pub reached : IsReached bytes table
  pub within : (section_at bytes table).info < count bytes
  pub allocated : is_allocated (target bytes table) ≡ true

-- the fault is the first: what is looked at before it is sound, and this isn't
abbrev pub IsFirstFault : List ℕ → ObjectFault → Type 0
IsFirstFault bytes TooLong = IsWithinLimit bytes → ⊥
IsFirstFault bytes NotElf = IsWithinLimit bytes × (IsElf bytes → ⊥)
IsFirstFault bytes NotElf64 = IsElf bytes × (IsElf64 bytes → ⊥)
IsFirstFault bytes NotRelocatable = IsElf64 bytes × (IsRelocatable bytes → ⊥)
IsFirstFault bytes NotBpf = IsRelocatable bytes × (IsBpf bytes → ⊥)
IsFirstFault bytes SectionEntrySize = IsBpf bytes × (HasEntries bytes → ⊥)
IsFirstFault bytes SectionCount = HasEntries bytes × (IsCounted bytes → ⊥)
IsFirstFault bytes SectionTable = IsCounted bytes × (IsPlaced bytes → ⊥)
IsFirstFault bytes FirstSection = IsPlaced bytes × (IsTable bytes → ⊥)
IsFirstFault bytes (SectionOutside section) =
    IsTable bytes × (section < count bytes) × AreWithin bytes section × (IsWithin bytes (section_at bytes section) → ⊥)
IsFirstFault bytes (SectionOverTable section) =
    HasBytes bytes × (section < count bytes) × AreApart bytes section × (IsApart bytes (section_at bytes section) → ⊥)
IsFirstFault bytes (SectionsOverlap section) =
    HasOwnBytes bytes
    × (section < count bytes)
    × (total_size bytes section ≤ length bytes)
    × (length bytes < total_size bytes (suc section))
IsFirstFault bytes NameTable = HasSections bytes × (IsStringTable bytes (name_table bytes) → ⊥)
IsFirstFault bytes (SectionName section) =
    HasNameTable bytes × (section < count bytes) × AreNamed bytes section × (HasName bytes section → ⊥)
IsFirstFault bytes (SecondSymbolTable section) =
    HasNames bytes
    × (section < count bytes)
    × ((section_at bytes section).kind ≡ 2)
    × IsSomeAnd (last_symbol_table bytes section) (IsOnly bytes section)
IsFirstFault bytes NoSymbolTable = HasNames bytes × HasNone bytes (count bytes)
IsFirstFault bytes SymbolEntrySize = HasSymbolTable bytes × (HasSymbolEntries bytes → ⊥)
IsFirstFault bytes SymbolNameTable = HasSymbolEntries bytes × (HasSymbolNames bytes → ⊥)
IsFirstFault bytes (SymbolName symbol) =
    HasSymbolNames bytes
    × (symbol < symbol_count bytes)
    × AreSymbols bytes symbol
    × (IsSymbolNamed bytes (symbol_at bytes symbol) → ⊥)
IsFirstFault bytes (SymbolSection symbol) =
    HasSymbolNames bytes
    × (symbol < symbol_count bytes)
    × AreSymbols bytes symbol
    × IsSymbolNamed bytes (symbol_at bytes symbol)
    × (HasSection bytes (symbol_at bytes symbol) → ⊥)
IsFirstFault bytes (RelocationTarget section) =
    IsReached bytes section × (count bytes ≤ (section_at bytes section).info)
IsFirstFault bytes (RelocationAddends section) = IsApplied bytes section × ((section_at bytes section).kind ≡ 4)
IsFirstFault bytes (RelocationTable section) =
    IsApplied bytes section × ((section_at bytes section).kind ≡ 9) × (HasRelocations bytes section → ⊥)
IsFirstFault bytes (RelocationSymbol section relocation) =
    IsApplied bytes section
    × ((section_at bytes section).kind ≡ 9)
    × HasRelocations bytes section
    × (relocation < relocation_count bytes section)
    × NameSymbols bytes section relocation
    × (symbol_count bytes ≤ (relocation_at bytes section relocation).symbol)
IsFirstFault bytes (SecondRelocationTable section) =
    HasRelocationTables bytes
    × (section < count bytes)
    × ApplyOnce bytes section
    × (applied_to bytes section ≡ Some (section_at bytes section).info)
    × (last_relocation_table bytes (section_at bytes section).info section ≢ None)

-- why the bytes aren't read
abbrev pub IsRefused : List ℕ → ObjectError → Type 0
IsRefused bytes (Fault fault) = IsFirstFault bytes fault
IsRefused bytes OutOfMemory = Unit {0}

-- what is kept of an object
pub record IsRead (bytes : List ℕ) (table : ℕ) (tables : List (Option ℕ)) : Type 0 where
  pub object : IsObject bytes
  pub symbols : table ≡ symbol_table bytes
  pub index : IsIndex bytes tables (count bytes)
