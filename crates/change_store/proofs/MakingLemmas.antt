-- What the statements that make a store come to.
use Rattle.std.proofs.Common.{◌≡◌, ℕ, List, [], ◌∷◌, codes, map, IsPermutation, false, None, Ok, refl, sym, ap, subst, ◌∙◌}
use Rattle.std.proofs.lemmas.List.Sorted.{IsPermutation-refl}
use Rattle.sqlite_value.specs.declared.value.Value.TheVariants.{Null}
use Rattle.sqlite_value.specs.Order.{Row}
use Rattle.sqlite_trees.specs.Tree.{Trees}
use Rattle.sqlite_sql.specs.Term.{Term, lit, col}
use Rattle.sqlite_schema.specs.declared.schema.Table.{Table}
use Rattle.sqlite_schema.specs.declared.schema.Schema.{Schema}
use Rattle.sqlite_schema.specs.declared.command.Command.TheVariants.{CreateTable, Insert}
use Rattle.sqlite_schema.specs.declared.command.Source.TheVariants.{Values}
use Rattle.sqlite_rules.specs.declared.error.Rowids.TheVariants.{Chosen}
use Rattle.sqlite_rules.specs.Edit.{edit_of}
use Rattle.sqlite_resolve.specs.Compile.{table_defined_by}
use Rattle.sqlite_catalog.specs.Change.{created, next_tree, KeepsRows}
use Rattle.sqlite_tied.specs.Compute.{everything}
use Rattle.sqlite.specs.Listing.{understood}
use Rattle.sqlite.specs.Effect.{Database}
use Rattle.sqlite.specs.Rows.{Written}
use Rattle.sqlite.specs.Does.{Tally, Does, lacks_sequence}
use Rattle.sqlite.specs.State.{State, mode_of, Writes, Executes}
use Rattle.sqlite.proofs.Callers.{IsPlain, command_of, statement_of, runs_as, one_step}
use Rattle.change_store.specs.Store.{change, hub, schema_of, shown, Keeps, IsStore}
use Rattle.change_store.proofs.StoreLemmas.{went, same_value}

abbrev pub change_text : List ℕ
change_text = codes "CREATE TABLE change (number INTEGER PRIMARY KEY, text TEXT NOT NULL) STRICT"

abbrev pub hub_text : List ℕ
hub_text = codes "CREATE TABLE hub (format INTEGER NOT NULL, size TEXT NOT NULL, id TEXT NOT NULL) STRICT"

abbrev pub description : List ℕ
description = codes "INSERT INTO hub (format, size, id) VALUES (?1, ?2, ?3)"

abbrev unplaced : Table
unplaced = record hub { tree = 0 }

change_is : (command_of (understood (schema_of []) change_text) ≡ CreateTable) × (statement_of change_text (understood (schema_of []) change_text) ≡ change_text) × (table_defined_by change_text ≡ Ok change)
unfolding understood everything
change_is = (refl, refl, refl)

change_plain : IsPlain (understood (schema_of []) change_text)
unfolding understood everything
change_plain = (refl, refl)

hub_is : (command_of (understood (schema_of (change ∷ [])) hub_text) ≡ CreateTable) × (statement_of hub_text (understood (schema_of (change ∷ [])) hub_text) ≡ hub_text) × (table_defined_by hub_text ≡ Ok unplaced)
unfolding understood everything
hub_is = (refl, refl, refl)

hub_plain : IsPlain (understood (schema_of (change ∷ [])) hub_text)
unfolding understood everything
hub_plain = (refl, refl)

abbrev terms : List Term
terms = lit Null ∷ col 0 0 ∷ col 0 1 ∷ col 0 2 ∷ []

description_is : command_of (understood (schema_of (change ∷ hub ∷ [])) description) ≡ Insert 1 (Values terms 4)
unfolding understood everything
description_is = refl

description_plain : IsPlain (understood (schema_of (change ∷ hub ∷ [])) description)
unfolding understood everything
description_plain = (refl, refl)

-- a table is made behind those that are there
module _ (old new : State) (before : List Table) (sql : List ℕ) (table : Table) (count : ℕ) (has : old.now.schema ≡ schema_of before)
    (is : (command_of (understood (schema_of before) sql) ≡ CreateTable) × (statement_of sql (understood (schema_of before) sql) ≡ sql) × (table_defined_by sql ≡ Ok table))
    (plain : IsPlain (understood (schema_of before) sql)) (bare : lacks_sequence (created (schema_of before) table) ≡ false) (h : Executes sql [] old new (Ok count)) where
  made : (new.now.schema ≡ created (schema_of before) table) × (new.now.trees (next_tree (schema_of before)) ≡ []) × KeepsRows before old.now.trees new.now.trees
  made =
      let w = subst (λ t. Writes old new None CreateTable t [] count) is.1 (runs_as sql [] old new (schema_of before) has CreateTable is.0 plain count h) in
      let all = went w.changed in
      let first = went all.1 in
      let it = first.1 in
      let both : Ok it.table ≡ Ok table = sym it.defined ∙ is.2 in
      let same : it.table ≡ table = cc in
      let schema : first.0.schema ≡ created (schema_of before) table = it.is ∙ ap (λ s. created s it.table) has ∙ ap (created (schema_of before)) same in
      let none : lacks_sequence first.0.schema ≡ false = ap lacks_sequence schema ∙ bare in
      let now : new.now ≡ first.0 = ap (λ (p : Tally × Database). p.1) (same_value all.2) ∙ same_value (rw none at first.2) in (
        ap (λ (d : Database). d.schema) now ∙ schema,
        ap (λ (d : Database). d.trees (next_tree (schema_of before))) now ∙ subst (λ s. first.0.trees (next_tree s) ≡ []) has it.empty,
        subst (λ (d : Database). KeepsRows before old.now.trees d.trees) (sym now) (subst (λ (s : Schema). KeepsRows s.tables old.now.trees first.0.trees) has it.others),
      )

-- the table of the changes is made in a file without tables
pub makes_change : (old new : State) (count : ℕ) → old.now.schema ≡ schema_of [] → Executes change_text [] old new (Ok count) → Keeps (change ∷ []) [] new.now
makes_change old new count has h =
    let it = made old new [] change_text change count has change_is change_plain refl h in
    record { schema = it.0; rows = subst (λ rows. IsPermutation [] (map shown rows)) (sym it.1) (IsPermutation-refl []) }

-- and the other table behind it
pub makes_hub : (old new : State) (count : ℕ) → Keeps (change ∷ []) [] old.now → Executes hub_text [] old new (Ok count) → IsStore [] new.now
makes_hub old new count before h =
    let it = made old new (change ∷ []) hub_text unplaced count before.schema hub_is hub_plain refl h in
    record { schema = it.0; rows = subst (λ rows. IsPermutation [] (map shown rows)) (sym it.2.0) before.rows }

-- a row of the other table changes nothing of the first
pub describes : (old new : State) (params : Row) (count : ℕ) → IsStore [] old.now → Executes description params old new (Ok count) → IsStore [] new.now
describes old new params count store h =
    let db = old.now.trees in
    let w = runs_as description params old new (schema_of (change ∷ hub ∷ [])) store.schema (Insert 1 (Values terms 4)) description_is description_plain count h in
    let sql = statement_of description (understood (schema_of (change ∷ hub ∷ [])) description) in
    let done = went (subst (λ s. Does old.step_limit (mode_of old) params (record old.now { schema = s }) sql None (Insert 1 (Values terms 4)) (Ok (w.tally, new.now))) store.schema w.changed) in
    let now = ap (λ (p : Tally × Database). p.1) (same_value (went (went done.2).2).2) in
    let given = went done.1 in
    let written = went (went given.2).2 in
    let counted = went written.2 in
    let trees : done.0.trees ≡ written.0 = ap (λ (it : Written). it.trees) (same_value counted.2) ∙ same_value counted.1 in
    let step = one_step (schema_of (change ∷ hub ∷ [])) _ db written.0 (edit_of db hub [] Chosen 0 given.0) refl written.1 in
    let kept : written.0 0 ≡ db 0 = step.tables.0 (λ same. let e : 0 ≡ 1 = same in cc) in
    record { schema = ap (λ (d : Database). d.schema) now; rows = subst (λ rows. IsPermutation [] (map shown rows)) (sym (ap (λ (d : Database). d.trees 0) now ∙ ap (λ (t : Trees). t 0) trees ∙ kept)) store.rows }
