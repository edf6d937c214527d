-- What one more section changes of the tables that apply.
use Rattle.std.proofs.Common.{rules, arith, ap, sym, ◌∙◌, ◌≡◌, refl, ℕ, zero, suc, ◌+◌, ◌<◌, ◌≤◌, List, get_or, Option, Some, None, is_some, false, length, set, replicate, ◌⊎◌, inl, inr, ⊎_elim}
use Rattle.std.specs.List.{slice_get}
use Rattle.std.proofs.lemmas.Bool.{cases_lt, cases_eq}
use Rattle.std.proofs.lemmas.List.{length-set, length-replicate, get_or-replicate}
use Rattle.std.proofs.lemmas.Option.{same_Some, none-some, slice_get-get_or, slice_get_read, gets}
use Rattle.std.proofs.lemmas.Grind.{common_steps}
use Rattle.object_files.specs.Sections.{section_at, count}
use Rattle.object_files.specs.Symbols.{symbol_count}
use Rattle.object_files.specs.Relocations.{relocation_count, relocation_at, applied_to, latest, last_relocation_table, relocation_table, ApplyOnce, IsIndex, RelocatesWell, HasRelocationTables}

latest-none : (bytes : List ℕ) (section table : ℕ) → applied_to bytes table ≡ None
    → last_relocation_table bytes section (table + 1) ≡ last_relocation_table bytes section table
unfolding last_relocation_table
latest-none bytes section table none = let e : table + 1 ≡ suc table = omega arith in rw (e, none)

latest-same : (bytes : List ℕ) (section table : ℕ) → applied_to bytes table ≡ Some section
    → last_relocation_table bytes section (table + 1) ≡ Some table
unfolding last_relocation_table
latest-same bytes section table some =
    let e : table + 1 ≡ suc table = omega arith in rw (e, some) (grind (arith, common_steps))

latest-other : (bytes : List ℕ) (section other table : ℕ) → applied_to bytes table ≡ Some other
    → (other ≡ section → ⊥) → last_relocation_table bytes section (table + 1) ≡ last_relocation_table bytes section table
unfolding last_relocation_table
latest-other bytes section other table some differs =
    let e : table + 1 ≡ suc table = omega arith in rw (e, some) (grind (arith, common_steps))

get-set_same : (xs : List (Option ℕ)) (i : ℕ) (y : Option ℕ) → i < length xs → slice_get (set xs i y) i ≡ Some y
get-set_same xs i y h = grind (arith, common_steps, gets)

get-set_other : (xs : List (Option ℕ)) (i j : ℕ) (y : Option ℕ) → (j ≡ i → ⊥) → slice_get (set xs i y) j ≡ slice_get xs j
get-set_other xs i j y h = grind (arith, common_steps, gets)

-- a section to which no table applies before the first section
pub index-none_yet : (bytes : List ℕ) (tables : List (Option ℕ)) → tables ≡ replicate (count bytes) None → IsIndex bytes tables 0
unfolding last_relocation_table
index-none_yet bytes tables are =
    let sized : length tables ≡ count bytes = ap length are ∙ length-replicate (count bytes) None in
    record {
      all = sized;
      each = λ section below.
          slice_get-get_or tables section None (omega arith)
          ∙ ap Some (ap (λ (l : List (Option ℕ)). get_or l section None) are ∙ get_or-replicate (count bytes) section None None below);
    }

pub once-none_yet : (bytes : List ℕ) → ApplyOnce bytes 0
once-none_yet bytes = record { last = λ table section below applied. absurd (omega arith) }

pub index-unchanged : (bytes : List ℕ) (tables : List (Option ℕ)) (table : ℕ) → applied_to bytes table ≡ None
    → IsIndex bytes tables table → IsIndex bytes tables (table + 1)
index-unchanged bytes tables table none index = record {
  all = index.all;
  each = λ section below. index.each section below ∙ ap Some (sym (latest-none bytes section table none));
}

pub once-unchanged : (bytes : List ℕ) (table : ℕ) → applied_to bytes table ≡ None
    → ApplyOnce bytes table → ApplyOnce bytes (table + 1)
once-unchanged bytes table none once = record {
  last = λ earlier section below applied.
      ⊎_elim
      (λ (less : earlier < table). latest-none bytes section table none ∙ once.last earlier section less applied)
      (λ (ge : table ≤ earlier).
      let same : earlier ≡ table = omega arith in
      let both : Some section ≡ None = sym applied ∙ ap (applied_to bytes) same ∙ none in absurd (none-some section (sym both)))
      (cases_lt earlier table);
}

pub index-set : (bytes : List ℕ) (tables : List (Option ℕ)) (table target : ℕ) → applied_to bytes table ≡ Some target
    → target < count bytes → IsIndex bytes tables table → IsIndex bytes (set tables target (Some table)) (table + 1)
index-set bytes tables table target some within index = record {
  all = length-set tables target (Some table) ∙ index.all;
  each = λ section below.
      ⊎_elim
      (λ (same : section ≡ target).
      let applied : applied_to bytes table ≡ Some section = some ∙ ap Some (sym same) in
      ap (slice_get (set tables target (Some table))) same
      ∙ get-set_same tables target (Some table) (let all : length tables ≡ count bytes = index.all in omega arith)
      ∙ ap Some (sym (latest-same bytes section table applied)))
      (λ (differs : section ≡ target → ⊥).
      get-set_other tables target section (Some table) differs
      ∙ index.each section below
      ∙ ap Some (sym (latest-other bytes section target table some (λ same. differs (sym same)))))
      (cases_eq section target);
}

pub once-set : (bytes : List ℕ) (table target : ℕ) → applied_to bytes table ≡ Some target
    → last_relocation_table bytes target table ≡ None → ApplyOnce bytes table → ApplyOnce bytes (table + 1)
once-set bytes table target some free once = record {
  last = λ earlier section below applied.
      ⊎_elim
      (λ (less : earlier < table).
      let was : last_relocation_table bytes section table ≡ Some earlier = once.last earlier section less applied in
      latest-other bytes section target table some
      (λ (same : target ≡ section).
      none-some earlier (sym free ∙ ap (λ s. last_relocation_table bytes s table) same ∙ was)) ∙ was)
      (λ (ge : table ≤ earlier).
      let same : earlier ≡ table = omega arith in
      let both : applied_to bytes table ≡ Some section = ap (applied_to bytes) (sym same) ∙ applied in
      latest-same bytes section table both ∙ ap Some (sym same))
      (cases_lt earlier table);
}

-- the last table that applies to a section is one of those, and applies to it
latest-cases : (other section table last : ℕ) (before : Option ℕ) → latest (Some other) section table before ≡ Some last
    → ((other ≡ section) × (table ≡ last)) ⊎ (before ≡ Some last)
latest-cases other section table last before is =
    ⊎_elim
    (λ (same : other ≡ section).
    let now : latest (Some other) section table before ≡ Some table = grind (arith, common_steps) in
    inl (same, same_Some table last (sym now ∙ is)))
    (λ (differs : other ≡ section → ⊥).
    let now : latest (Some other) section table before ≡ before = grind (arith, common_steps) in inr (sym now ∙ is))
    (cases_eq other section)

latest-applies : (bytes : List ℕ) (section limit table : ℕ) (applied : Option ℕ) → applied_to bytes limit ≡ applied
    → (last_relocation_table bytes section limit ≡ Some table → (table < limit) × (applied_to bytes table ≡ Some section))
    → latest applied section limit (last_relocation_table bytes section limit) ≡ Some table
    → (table < suc limit) × (applied_to bytes table ≡ Some section)
latest-applies bytes section limit table None none before now =
    let is = before now in (omega (arith, is.0), is.1)
latest-applies bytes section limit table (Some other) some before now =
    ⊎_elim
    (λ (here : (other ≡ section) × (limit ≡ table)).
    let at : limit ≡ table = here.1 in (omega arith, ap (applied_to bytes) (sym at) ∙ some ∙ ap Some here.0))
    (λ (there : last_relocation_table bytes section limit ≡ Some table).
    let is = before there in (omega (arith, is.0), is.1))
    (latest-cases other section limit table (last_relocation_table bytes section limit) now)

pub last-applies : (bytes : List ℕ) (section limit table : ℕ) → last_relocation_table bytes section limit ≡ Some table
    → (table < limit) × (applied_to bytes table ≡ Some section)
unfolding last_relocation_table
last-applies bytes section zero table is = absurd (none-some table is)
last-applies bytes section (suc limit) table is =
    latest-applies bytes section limit table (applied_to bytes limit) refl (last-applies bytes section limit table) is

-- a table that applies has no addends
pub applied-kind : (bytes : List ℕ) (section table : ℕ) → applied_to bytes table ≡ Some section
    → RelocatesWell bytes table → (section_at bytes table).kind ≡ 9
unfolding applied_to
applied-kind bytes section table applied sound = grind (arith, common_steps)

applied-names : (bytes : List ℕ) (section table index : ℕ) → applied_to bytes table ≡ Some section
    → RelocatesWell bytes table → index < relocation_count bytes table
    → (relocation_at bytes table index).symbol < symbol_count bytes
unfolding applied_to
applied-names bytes section table index applied sound below = grind (arith, common_steps)

-- what is known of the table of a section
pub table-below : (bytes : List ℕ) (section table : ℕ) → relocation_table bytes section ≡ Some table → table < count bytes
unfolding relocation_table
table-below bytes section table is = (last-applies bytes section (count bytes) table is).0

pub table-kind : (bytes : List ℕ) (section table : ℕ) → relocation_table bytes section ≡ Some table
    → HasRelocationTables bytes → (section_at bytes table).kind ≡ 9
unfolding relocation_table
table-kind bytes section table is sound =
    let applies = last-applies bytes section (count bytes) table is in
    applied-kind bytes section table applies.1 (sound.each table applies.0)

pub table-names : (bytes : List ℕ) (section table index : ℕ) → relocation_table bytes section ≡ Some table
    → HasRelocationTables bytes → index < relocation_count bytes table
    → (relocation_at bytes table index).symbol < symbol_count bytes
unfolding relocation_table
table-names bytes section table index is sound below =
    let applies = last-applies bytes section (count bytes) table is in
    applied-names bytes section table index applies.1 (sound.each table applies.0) below

pub ruleset known_table = (table-below, table-kind, table-names)

none_found : (found : Option ℕ) → is_some found ≡ false → found ≡ None
none_found None is = refl
none_found (Some table) is = search rules

-- no table applies before to a section without one
pub last-free : (bytes : List ℕ) (tables : List (Option ℕ)) (table section : ℕ) (found : Option ℕ) → IsIndex bytes tables table
    → section < count bytes → found ≡ get_or tables section found → is_some found ≡ false
    → last_relocation_table bytes section table ≡ None
last-free bytes tables table section found index below read free =
    let here : slice_get tables section ≡ Some found = slice_get_read tables (count bytes) section found (sym index.all) below read in
    same_Some (last_relocation_table bytes section table) found (sym (index.each section below) ∙ here) ∙ none_found found free

pub ruleset unnoted = (index-none_yet, once-none_yet)

pub ruleset noted = (index-unchanged, once-unchanged, index-set, once-set)
