-- What a store keeps: its two tables, and a row for each change.
use Rattle.std.specs.Prelude.{◌≡◌, ℕ, ◌+◌, pos, Bool, true, false, List, [], ◌∷◌, length, map, codes}
use Rattle.std.specs.Prelude.{Option, Some, None, IsPermutation, IsTrue}
use Rattle.sqlite_value.specs.declared.keys.Collation.TheVariants.{Binary}
use Rattle.sqlite_value.specs.declared.value.Value.TheVariants as value
use Rattle.sqlite_value.specs.Order.{Row, column}
use Rattle.sqlite_trees.specs.Tree.{rowid}
use Rattle.sqlite_schema.specs.declared.schema.Kind.{Kind}
use Rattle.sqlite_schema.specs.declared.schema.Kind.TheVariants.{Integer, Text}
use Rattle.sqlite_schema.specs.declared.schema.Column.{Column}
use Rattle.sqlite_schema.specs.declared.schema.Table.{Table}
use Rattle.sqlite_schema.specs.declared.schema.Schema.{Schema}
use Rattle.sqlite.specs.Effect.{Database}
use Rattle.sqlite.specs.State.{State, HasCleanDisk}

abbrev pub column_of : List ℕ → Kind → Bool → Column
column_of name kind not_null =
    record { name = name; kind = kind; is_strict = true; not_null = not_null; default = value.Null; collation = Binary }

-- a table without rules of its own; its key, if one of its columns is the rowid
abbrev pub table_of : List ℕ → ℕ → List Column → Option ℕ → List ℕ → Table
table_of name tree columns key primary = record {
  name = name;
  tree = tree;
  columns = columns;
  key = key;
  primary = primary;
  uniques = [];
  orders = [];
  checks = [];
  references = [];
  computed = [];
  stamps = record { places = []; terms = []; formats = [] };
  is_counted = false;
}

-- CREATE TABLE change (number INTEGER PRIMARY KEY, text TEXT NOT NULL) STRICT
abbrev pub change : Table
change =
    table_of (codes "change") 0 (column_of (codes "number") Integer false ∷ column_of (codes "text") Text true ∷ []) (Some 0) (0 ∷ [])

-- CREATE TABLE hub (format INTEGER NOT NULL, size TEXT NOT NULL, id TEXT NOT NULL) STRICT
abbrev pub hub : Table
hub =
    table_of (codes "hub") 1
    (column_of (codes "format") Integer true ∷ column_of (codes "size") Text true ∷ column_of (codes "id") Text true ∷ [])
    None []

abbrev pub schema_of : List Table → Schema
schema_of tables = record { tables = tables; indexes = []; views = [] }

-- a change as a row of the parameters that keep it, and of the answer that reads it
abbrev pub row_of : ℕ → List ℕ → Row
row_of number text = value.Int (pos number) ∷ value.Text text ∷ []

-- the number and the text of a row: the number is the rowid
abbrev pub shown : Row → Row
shown row = rowid row ∷ column row 2 ∷ []

-- texts that have the numbers behind this one
abbrev pub numbered : ℕ → List (List ℕ) → List Row
numbered number [] = []
numbered number (text ∷ more) = row_of (number + 1) text ∷ numbered (number + 1) more

-- the database has these tables and nothing else, and the first has these texts under the numbers 1, 2, 3 ..
pub record Keeps (tables : List Table) (texts : List (List ℕ)) (db : Database) : Type 0 where
  pub schema : db.schema ≡ schema_of tables
  pub rows : IsPermutation (numbered 0 texts) (map shown (db.trees 0))

-- the database of a store that keeps these texts
abbrev pub IsStore : List (List ℕ) → Database → Type 0
IsStore = Keeps (change ∷ hub ∷ [])

-- So many texts, these, are kept for good. It is known as far as the disk has given back what was written, and no
-- failure of it has shut the connection.
unfoldable pub AreKept : State → ℕ → List (List ℕ) → Type 0
AreKept s count texts =
    HasCleanDisk s → IsTrue s.is_open → (count ≡ length texts) × IsStore texts s.now × (s.committed ≡ s.now)
