-- What is inserted one text after another, in one transaction.
use Rattle.std.proofs.Common.{◌≡◌, ℕ, ◌+◌, true, IsTrue, List, [], ◌∷◌, ◌++◌, length, Result, Ok, Err, OnErr, inl, inr, true≢false, sym, ◌∙◌, refl, subst, arith}
use Rattle.sqlite_trees.specs.Tree.{Trees}
use Rattle.sqlite_trees.specs.declared.store.Store.{Ghosts}
use Rattle.sqlite.specs.Effect.{Database}
use Rattle.sqlite.specs.State.{State, HasCleanDisk, IsRolledBack, Survives}
use Rattle.sqlite.specs.Steps.{FailsToCommit}
use Rattle.sqlite.specs.declared.error.Error.{Error}
use Rattle.sqlite.specs.Held.{Held, state}
use Rattle.sqlite.proofs.StateLemmas.{survives_then}
use Rattle.sqlite.proofs.Callers.{survives_begin}
use Rattle.change_store.specs.Inserted.{Inserts, InsertsAll, Leaves}

-- one text more
pub inserts_more : {S : Type 0} (g : Ghosts S) (number next : ℕ) (texts : List (List ℕ)) (text : List ℕ) (old mid new : Held S) → next ≡ number + length texts + 1
    → InsertsAll g number texts old mid → Inserts g next text mid new → InsertsAll g number (texts ++ text ∷ []) old new
inserts_more g number next [] text old mid new is none one =
    let at : next ≡ number + 1 = omega (arith, is) in
    (new, subst (λ h. Inserts g (number + 1) text h new) none (subst (λ n. Inserts g n text mid new) at one), refl)
inserts_more g number next (first ∷ more) text old mid new is done one =
    let at : next ≡ number + 1 + length more + 1 = omega (arith, is) in
    (done.0, done.1, inserts_more g (number + 1) next more text done.0 mid new at done.2 one)

module _ {S : Type 0} (g : Ghosts S) (number : ℕ) (texts : List (List ℕ)) (old begun last : Held S) (is : begun ≡ record old { in_transaction = true }) where
  -- what the transaction comes to before it is committed
  pub left_by : (IsTrue begun.in_transaction → InsertsAll g number texts begun last) → Leaves g number texts old (state g last).now
  left_by done = (last, subst (λ h. InsertsAll g number texts h last) is (done (rw is)), refl)

  -- a crash leaves what was there, or that
  pub survives_all : (end : Held S) → (HasCleanDisk (state g last) → IsTrue begun.in_transaction → InsertsAll g number texts begun last)
      → Survives (state g begun) (state g last) (λ _. ⊥) → Survives (state g last) (state g end) (λ db. db ≡ (state g last).now.trees)
      → Survives (state g old) (state g end) (λ trees. (db : Database) × Leaves g number texts old db × (trees ≡ db.trees))
  survives_all end done inserted committed =
      let P = λ (trees : Trees). (db : Database) × Leaves g number texts old db × (trees ≡ db.trees) in
      survives_then (state g old) (state g last) (state g end) _ _ P (λ _ db none. absurd none)
      (λ clean db at. (_, left_by (done (omega (arith, committed.clean))), at)) (survives_begin g old (state g last) _ (subst (λ h. Survives (state g h) (state g last) (λ _. ⊥)) is inserted)) committed

-- a fact, where the result is an error
pub on_err : {T E : Type 0} {P : Type 0} (r : Result T E) → P → OnErr r P
on_err (Ok x) p = tt
on_err (Err e) p = p

-- a commit that fails in a transaction undoes it
pub undone_by : (old new : State) (e : Error) → IsTrue old.in_transaction → FailsToCommit old new e → IsRolledBack old new
undone_by old new e inside (inl failed) = failed.3
undone_by old new e inside (inr refused) = absurd (true≢false (sym inside ∙ refused.1))
