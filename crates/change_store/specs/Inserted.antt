-- What keeping changes does to a store, as statements of SQLite.
use Rattle.std.specs.Prelude.{◌≡◌, ℕ, ◌+◌, true, List, [], ◌∷◌, codes, Ok}
use Rattle.sqlite_trees.specs.declared.store.Store.{Ghosts}
use Rattle.sqlite.specs.Effect.{Database}
use Rattle.sqlite.specs.State.{Executes}
use Rattle.sqlite.specs.Held.{Held, state}
use Rattle.change_store.specs.Store.{row_of}

-- the statement that keeps a change
abbrev pub insertion : List ℕ
insertion = codes "INSERT INTO change (number, text) VALUES (?1, ?2)"

module _ {S : Type 0} (g : Ghosts S) where
  -- a text is inserted under this number
  abbrev pub Inserts : ℕ → List ℕ → Held S → Held S → Type 0
  Inserts number text old new =
      (rows : ℕ) × Executes insertion (row_of number text) (state g old) (state g new) (Ok rows)

  -- texts are inserted, one after another, under the numbers behind this one
  abbrev pub InsertsAll : ℕ → List (List ℕ) → Held S → Held S → Type 0
  InsertsAll number [] old new = new ≡ old
  InsertsAll number (text ∷ more) old new =
      (mid : Held S) × Inserts (number + 1) text old mid × InsertsAll (number + 1) more mid new

  -- a database after that, in one transaction
  abbrev pub Leaves : ℕ → List (List ℕ) → Held S → Database → Type 0
  Leaves number texts old db =
      (last : Held S) × InsertsAll number texts (record old { in_transaction = true }) last × (db ≡ (state g last).now)
