-- No object has a fault.
use Rattle.std.proofs.Common.{arith, sym, ap, ◌∙◌, ◌≡◌, refl, ℕ, zero, suc, ◌+◌, ◌-◌, ◌<◌, ◌≤◌, List, Option, Some, None, true, false, IsSomeAnd, ⊎_elim}
use Rattle.std.proofs.lemmas.Bool.{true≢false}
use Rattle.std.proofs.lemmas.Option.{same_Some}
use Rattle.object_files.specs.Sections.{section_at, count, total_size, file_size}
use Rattle.object_files.specs.Symbols.{symbol_table, last_symbol_table, IsOnly}
use Rattle.object_files.specs.Relocations.{is_relocating, is_allocated, target, applied_to, last_relocation_table, ApplyOnce, IsRelocationTable}
use Rattle.object_files.specs.Object.{IsFirstFault, IsObject, IsReached, IsApplied}
use Rattle.object_files.proofs.Latest.{last-applies}
use Rattle.object_files.specs.declared.fault.ObjectFault.{ObjectFault}
use Rattle.object_files.specs.declared.fault.ObjectFault.TheVariants.{TooLong, NotElf, NotElf64, NotRelocatable, NotBpf, SectionEntrySize, SectionCount, SectionTable, FirstSection, SectionOutside, SectionOverTable, SectionsOverlap, NameTable, SectionName, SecondSymbolTable, NoSymbolTable, SymbolEntrySize, SymbolNameTable, SymbolName, SymbolSection, RelocationTarget, RelocationAddends, RelocationTable, RelocationSymbol, SecondRelocationTable}

total-suc : (bytes : List ℕ) (index : ℕ) → total_size bytes (suc index) ≡ total_size bytes index + file_size (section_at bytes index)
unfolding total_size
total-suc bytes index = refl

-- more sections have no fewer bytes
total-more : (bytes : List ℕ) (index more : ℕ) → total_size bytes index ≤ total_size bytes (more + index)
total-more bytes index zero = let e : 0 + index ≡ index = omega arith in let same = ap (total_size bytes) e in omega (arith, same)
total-more bytes index (suc more) =
    let e : suc more + index ≡ suc (more + index) = omega arith in
    let same = ap (total_size bytes) e in
    let before = total-more bytes index more in
    let next = total-suc bytes (more + index) in
    omega (arith, same, before, next)

two_tables : (bytes : List ℕ) (section : ℕ) (found : Option ℕ) → IsOnly bytes (count bytes) (symbol_table bytes)
    → section < count bytes → (section_at bytes section).kind ≡ 2 → IsSomeAnd found (IsOnly bytes section) → ⊥
two_tables bytes section None only below kind is = is
two_tables bytes section (Some table) only below kind is =
    let before : table < section = is.below in
    let one = only.alone section below kind in
    let other = only.alone table (omega arith) is.kind in
    omega (arith, before, one, other)

-- a table of relocations that is reached is sound
reached_sound : (bytes : List ℕ) (table : ℕ) → IsObject bytes → IsReached bytes table
    → ((section_at bytes table).info < count bytes)
    × ((is_allocated (target bytes table) ≡ true) → IsRelocationTable bytes table)
reached_sound bytes table object reached =
    ⊎_elim
    (λ (no : is_relocating (section_at bytes table) ≡ false). absurd (true≢false (sym reached.relocating ∙ no)))
    (λ yes. (
      yes.0,
      λ allocated.
          ⊎_elim
          (λ (no : is_allocated (target bytes table) ≡ false). absurd (true≢false (sym allocated ∙ no)))
          (λ (sound : IsRelocationTable bytes table). sound)
          yes.1,
    ))
    (object.tables.each table reached.below)

applied_sound : (bytes : List ℕ) (table : ℕ) → IsObject bytes → IsApplied bytes table → IsRelocationTable bytes table
applied_sound bytes table object applied = (reached_sound bytes table object applied.reached).1 applied.allocated

applied_twice : (bytes : List ℕ) (section table : ℕ) (found : Option ℕ) → ApplyOnce bytes (count bytes) → table < count bytes
    → applied_to bytes table ≡ Some section → last_relocation_table bytes section table ≡ found → (found ≡ None → ⊥) → ⊥
applied_twice bytes section table None once below applied is some = some refl
applied_twice bytes section table (Some other) once below applied is some =
    let before = last-applies bytes section table other is in
    let one = once.last table section below applied in
    let two = once.last other section (omega (arith, before.0, below)) before.1 in
    let same : table ≡ other = same_Some table other (sym one ∙ two) in
    omega (arith, same, before.0)

pub refused : (bytes : List ℕ) (fault : ObjectFault) → IsFirstFault bytes fault → IsObject bytes → ⊥
refused bytes TooLong h o = h o.tables.symbols.names.entries.table.names.name_table.sections.own.has_bytes.table.placed.counted.entries.bpf.relocatable.elf64.elf.limit
refused bytes NotElf h o = h.1 o.tables.symbols.names.entries.table.names.name_table.sections.own.has_bytes.table.placed.counted.entries.bpf.relocatable.elf64.elf
refused bytes NotElf64 h o = h.1 o.tables.symbols.names.entries.table.names.name_table.sections.own.has_bytes.table.placed.counted.entries.bpf.relocatable.elf64
refused bytes NotRelocatable h o = h.1 o.tables.symbols.names.entries.table.names.name_table.sections.own.has_bytes.table.placed.counted.entries.bpf.relocatable
refused bytes NotBpf h o = h.1 o.tables.symbols.names.entries.table.names.name_table.sections.own.has_bytes.table.placed.counted.entries.bpf
refused bytes SectionEntrySize h o = h.1 o.tables.symbols.names.entries.table.names.name_table.sections.own.has_bytes.table.placed.counted.entries
refused bytes SectionCount h o = h.1 o.tables.symbols.names.entries.table.names.name_table.sections.own.has_bytes.table.placed.counted
refused bytes SectionTable h o = h.1 o.tables.symbols.names.entries.table.names.name_table.sections.own.has_bytes.table.placed
refused bytes FirstSection h o = h.1 o.tables.symbols.names.entries.table.names.name_table.sections.own.has_bytes.table
refused bytes (SectionOutside section) h o =
    h.3 (o.tables.symbols.names.entries.table.names.name_table.sections.own.has_bytes.within section h.1)
refused bytes (SectionOverTable section) h o =
    h.3 (o.tables.symbols.names.entries.table.names.name_table.sections.own.apart section h.1)
refused bytes (SectionsOverlap section) h o =
    let below : section < count bytes = h.1 in
    let more = total-more bytes (suc section) (count bytes - suc section) in
    let e : count bytes - suc section + suc section ≡ count bytes = omega arith in
    let all = ap (total_size bytes) e in
    omega (arith, more, all, h.3, o.tables.symbols.names.entries.table.names.name_table.sections.total)
refused bytes NameTable h o = h.1 o.tables.symbols.names.entries.table.names.name_table.strings
refused bytes (SectionName section) h o = h.3 (o.tables.symbols.names.entries.table.names.named section h.1)
refused bytes (SecondSymbolTable section) h o =
    two_tables bytes section (last_symbol_table bytes section) o.tables.symbols.names.entries.table.only h.1 h.2 h.3
refused bytes NoSymbolTable h o =
    let only = o.tables.symbols.names.entries.table.only in h.1 (symbol_table bytes) only.below only.kind
refused bytes SymbolEntrySize h o = h.1 o.tables.symbols.names.entries
refused bytes SymbolNameTable h o = h.1 o.tables.symbols.names
refused bytes (SymbolName symbol) h o = h.3 (o.tables.symbols.each symbol h.1).named
refused bytes (SymbolSection symbol) h o = h.4 (o.tables.symbols.each symbol h.1).section
refused bytes (RelocationTarget section) h o =
    let within = (reached_sound bytes section o h.0).0 in omega (arith, within, h.1)
refused bytes (RelocationAddends section) h o =
    let kind = (applied_sound bytes section o h.0).kind in omega (arith, kind, h.1)
refused bytes (RelocationTable section) h o = h.2 (applied_sound bytes section o h.0).entries
refused bytes (RelocationSymbol section relocation) h o =
    let within = (applied_sound bytes section o h.0).each relocation h.3 in omega (arith, within, h.5)
refused bytes (SecondRelocationTable section) h o =
    applied_twice bytes (section_at bytes section).info section
    (last_relocation_table bytes (section_at bytes section).info section) o.once h.1 h.3 refl h.4
