-- What the statement that reads the changes shows.
use Rattle.std.proofs.Common.{◌≡◌, ◌≤◌, ℕ, suc, ◌+◌, length, Option, Some, IsTrue, arith, pos, negsuc, List, [], ◌∷◌, map, flat_map, codes, None, false, refl, sym, ap, subst, ◌∙◌, IsPermutation}
use Rattle.std.proofs.lemmas.List.Sorted.{length_permutation, IsPermutation-sym, IsPermutation-map}
use Rattle.sqlite_value.specs.declared.keys.Collation.TheVariants.{Binary}
use Rattle.sqlite_value.specs.declared.value.Value.TheVariants.{Null, Int}
use Rattle.sqlite_value.specs.Order.{Row}
use Rattle.sqlite_sql.specs.Term.{lit, col}
use Rattle.sqlite_sql.specs.Query.{Query, inner, end, output, Output, IsAnswer}
use Rattle.sqlite_sql.specs.Program.{overlay}
use Rattle.sqlite_schema.specs.declared.command.Command.TheVariants.{Select}
use Rattle.sqlite_tied.specs.Compute.{everything}
use Rattle.sqlite_trees.specs.View.{doubt}
use Rattle.sqlite_schema.specs.declared.command.Returning.{Returning}
use Rattle.sqlite_resolve.specs.declared.compiled.Compiled.{Compiled}
use Rattle.sqlite.specs.Effect.{Database}
use Rattle.sqlite.specs.Listing.{understood, reads_listing}
use Rattle.sqlite.specs.Clock.{timed}
use Rattle.sqlite.specs.State.{State, HasCleanDisk, Shown, ShowsRows, IsUnchanged}
use Rattle.sqlite.proofs.Callers.{IsPlain, command_of, reads_as}
use Rattle.change_store.specs.Store.{change, hub, schema_of, shown, numbered, IsStore, AreKept}

abbrev pub selection : List ℕ
selection = codes "SELECT number, text FROM change ORDER BY number"

abbrev query : Query
query = record {
  from = inner 0 end;
  filter = [];
  group = None;
  project = col 1 0 ∷ col 1 2 ∷ [];
  distinct = false;
  collations = [];
  order = (col 1 0, record { collation = Binary; descending = false }) ∷ [];
  limit = lit (Int (negsuc 0));
  offset = lit (Int (pos 0));
}

selection_is : (command_of (understood (schema_of (change ∷ hub ∷ [])) selection) ≡ Select (record { lets = []; body = query }) (codes "number" ∷ codes "text" ∷ []))
    × (reads_listing (schema_of (change ∷ hub ∷ [])) selection ≡ false)
unfolding understood everything
selection_is = (refl, refl)

selection_plain : IsPlain (understood (schema_of (change ∷ hub ∷ [])) selection)
unfolding understood everything
selection_plain = (refl, refl)

-- each row is met once, and shows its number and its text
met : (rows : List Row) → map (λ (o : Output). o.1) (map (output query) (flat_map (λ r. ([] ∷ r ∷ []) ∷ []) rows)) ≡ map shown rows
met [] = refl
met (r ∷ rows) = ap (λ more. shown r ∷ more) (met rows)

-- rows that are read and have the numbers 1, 2, 3 .. are those of a store
pub reads_store : (old new : State) (rows : List Row) (texts : List (List ℕ)) → old.now.schema ≡ schema_of (change ∷ hub ∷ []) → Shown selection [] old new rows → rows ≡ numbered 0 texts → IsStore texts old.now
reads_store old new rows texts has h is =
    let got = reads_as selection [] old new (schema_of (change ∷ hub ∷ [])) has _ selection_is.0 selection_plain selection_is.1 rows h in
    let a : IsAnswer query (overlay old.now.trees []) [] rows = got.answer Null in
    let kept : a.kept ≡ map (output query) (flat_map (λ r. ([] ∷ r ∷ []) ∷ []) (old.now.trees 0)) = a.distinct ∙ ap (map (output query)) a.grouped in
    let same = IsPermutation-map (λ (o : Output). o.1) _ _ a.same in
    let front : map (λ (o : Output). o.1) a.kept ≡ map shown (old.now.trees 0) = ap (map (λ (o : Output). o.1)) kept ∙ met (old.now.trees 0) in
    let back : map (λ (o : Output). o.1) a.ordered ≡ numbered 0 texts = sym a.shown ∙ is in
    record { schema = has; rows = IsPermutation-sym _ _ (subst (IsPermutation (map shown (old.now.trees 0))) back (subst (λ l. IsPermutation l (map (λ (o : Output). o.1) a.ordered)) front same)) }

abbrev pub question : List ℕ
question = codes "SELECT format, size, id FROM hub"

question_plain : IsPlain (understood (schema_of (change ∷ hub ∷ [])) question)
unfolding understood everything
question_plain = (refl, refl)

-- what is read is not changed
unchanged : (sql : List ℕ) (old new : State) (rows : List Row) → IsPlain (understood (schema_of (change ∷ hub ∷ [])) sql) → old.now.schema ≡ schema_of (change ∷ hub ∷ []) → Shown sql [] old new rows → IsUnchanged old new
unfolding Shown
unchanged sql old new rows read has h =
    let plain = subst (λ s. IsPlain (understood s sql)) (sym has) read in
    let none = (subst IsPlain h.1.is plain).0 in
    (subst (ShowsRows old new sql h.0 (timed [] h.0.formats h.1.now) rows) none h.2).3

pub reads_only : (old new : State) (rows : List Row) → old.now.schema ≡ schema_of (change ∷ hub ∷ []) → Shown selection [] old new rows → IsUnchanged old new
reads_only old new rows = unchanged selection old new rows selection_plain

pub asks_only : (old new : State) (rows : List Row) → old.now.schema ≡ schema_of (change ∷ hub ∷ []) → Shown question [] old new rows → IsUnchanged old new
asks_only old new rows = unchanged question old new rows question_plain

-- an answer is of a connection that was open
opened_by : (old new : State) (sql : List ℕ) (c : Compiled) (params : Row) (rows : List Row) (r : Option Returning) → ShowsRows old new sql c params rows r → IsTrue old.is_open
opened_by old new sql c params rows None h = h.3.0.was_open
opened_by old new sql c params rows (Some what) h = h.1.shown.was_open

was_open : (old new : State) (rows : List Row) → Shown selection [] old new rows → IsTrue old.is_open
unfolding Shown
was_open old new rows h = opened_by old new selection h.0 _ rows h.0.returning h.2

length_numbered : (number : ℕ) (texts : List (List ℕ)) → length (numbered number texts) ≡ length texts
length_numbered number [] = refl
length_numbered number (text ∷ more) = ap suc (length_numbered (number + 1) more)

-- two lists of texts of one store are as long
same_count : (a b : List (List ℕ)) (db : Database) → IsStore a db → IsStore b db → length a ≡ length b
same_count a b db one two = sym (length_numbered 0 a) ∙ sym (length_permutation _ _ one.rows) ∙ length_permutation _ _ two.rows ∙ length_numbered 0 b

module _ (old new : State) (count : ℕ) (before : List (List ℕ)) (rows : List Row) (up : doubt old.is_clean ≤ doubt new.is_clean) (kept : AreKept old count before) (shows : HasCleanDisk new → Shown selection [] old new rows) where
  -- reading leaves what is kept
  pub kept_still : AreKept new count before
  unfolding AreKept
  kept_still clean is_open =
      let h = shows clean in
      let was = kept (omega (arith, up, clean)) (was_open old new rows h) in
      let same = reads_only old new rows was.1.schema h in
      (was.0, subst (IsStore before) (sym same.0.now_is) was.1, same.0.committed_is ∙ was.2 ∙ sym same.0.now_is)

  -- and gives it
  pub kept_read : (texts : List (List ℕ)) → rows ≡ numbered 0 texts → AreKept new count texts
  unfolding AreKept
  kept_read texts is clean is_open =
      let h = shows clean in
      let was = kept (omega (arith, up, clean)) (was_open old new rows h) in
      let same = reads_only old new rows was.1.schema h in
      let found = reads_store old new rows texts was.1.schema h is in
      (was.0 ∙ same_count before texts old.now was.1 found, subst (IsStore texts) (sym same.0.now_is) found, same.0.committed_is ∙ was.2 ∙ sym same.0.now_is)
