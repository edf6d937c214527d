-- What the statement that keeps a change makes of a store.
use Rattle.std.proofs.Common.{◌≡◌, ◌⊎◌, inl, inr, ℕ, ◌+◌, ℤ, pos, List, [], ◌∷◌, ◌++◌, length, length-append, append_assoc, map, not, ◌&&◌, true≢false, Ordering, Equal, Greater, IsPermutation, IsTrue, Bool, true, false, cond, None, Ok, Err, Result, Less, refl, sym, ap, subst, ◌∙◌, arith}
use Rattle.std.proofs.lemmas.List.{append-nil, map-append}
use Rattle.std.proofs.lemmas.List.Sorted.{IsPermutation-refl, IsPermutation-cons, IsPermutation-trans, IsPermutation-to_front, IsPermutation-append_left, IsPermutation-map}
use Rattle.sqlite_value.specs.declared.value.Value.{Value}
use Rattle.sqlite_value.specs.declared.value.Value.TheVariants.{Null, Int, Text}
use Rattle.sqlite_value.specs.Order.{Row, value_cmp}
use Rattle.sqlite_trees.specs.Tree.{Trees, rowid, put_row}
use Rattle.sqlite_sql.specs.Term.{Term, lit, col}
use Rattle.sqlite_sql.specs.Ops.{unary}
use Rattle.sqlite_schema.specs.declared.schema.Table.{Table}
use Rattle.sqlite_schema.specs.declared.schema.Kind.TheVariants.{Integer}
use Rattle.sqlite_schema.specs.declared.command.Command.TheVariants.{Insert}
use Rattle.sqlite_schema.specs.declared.command.Source.TheVariants.{Values}
use Rattle.sqlite_rules.specs.declared.error.Rowids.TheVariants.{Chosen}
use Rattle.sqlite_rules.specs.Edit.{edit_of, edited, left_by, are_fresh, is_taken}
use Rattle.sqlite_rules.specs.Cast.{cast}
use Rattle.sqlite_tied.specs.Compute.{everything}
use Rattle.sqlite.specs.Listing.{understood}
use Rattle.sqlite.specs.Effect.{Database}
use Rattle.sqlite.specs.Rows.{Written}
use Rattle.sqlite.specs.Does.{Tally, Does}
use Rattle.sqlite.specs.State.{State, HasCleanDisk, KeepsCommit, IsRolledBack, Shows, Survives, mode_of, Executes}
use Rattle.sqlite.specs.Held.{Held, state}
use Rattle.sqlite_trees.specs.declared.store.Store.{Ghosts}
use Rattle.sqlite.proofs.Callers.{IsPlain, command_of, statement_of, runs_as, one_step}
use Rattle.change_store.specs.Inserted.{insertion, InsertsAll}
use Rattle.change_store.specs.Store.{change, hub, schema_of, row_of, shown, numbered, IsStore, AreKept}

abbrev tables : List Table
tables = change ∷ hub ∷ []

abbrev terms : List Term
terms = col 0 0 ∷ lit Null ∷ col 0 1 ∷ []

insert_is : command_of (understood (schema_of tables) insertion) ≡ Insert 0 (Values terms 3)
unfolding understood everything
insert_is = refl

insert_plain : IsPlain (understood (schema_of tables) insertion)
unfolding understood everything
insert_plain = (refl, refl)

either : (b : Bool) (x : Value) → cond b x x ≡ x
either true x = refl
either false x = refl

cast_int : (n : ℤ) → cast Integer (Int n) ≡ Int n
unfolding unary
cast_int n = either _ (Int n)

cast_null : cast Integer Null ≡ Null
unfolding unary
cast_null = either _ Null

-- a part that gave a value did not stop on the way
pub went : {B E R : Type 0} {b : B} {Stops : E → Type 0} → ((stop : E) × Stops stop × (Ok b ≡ Err stop)) ⊎ R → R
went (inl stopped) = absurd (let e = stopped.2 in cc)
went (inr on) = on

pub same_value : {B E : Type 0} {a b : B} → ◌≡◌ {A = Result B E} (Ok a) (Ok b) → a ≡ b
same_value e = cc

abbrev stored : ℕ → List ℕ → Row
stored number text = Int (pos number) ∷ Null ∷ Text text ∷ []

-- a row whose rowid no other has is put among the others
put_permutes : (new : Row) (rows : List Row) → is_taken rows new ≡ false → IsPermutation (rows ++ new ∷ []) (put_row new rows)
put_permutes new [] free = IsPermutation-refl (new ∷ [])
put_permutes new (r ∷ rows) free = go (value_cmp (rowid r) (rowid new)) refl (put_permutes new rows)
  where
    go : (o : Ordering) → value_cmp (rowid r) (rowid new) ≡ o → (is_taken rows new ≡ false → IsPermutation (rows ++ new ∷ []) (put_row new rows)) → IsPermutation (r ∷ (rows ++ new ∷ [])) (put_row new (r ∷ rows))
    go Less is more = rw is (IsPermutation-cons r _ _ (more (rw is at free)))
    go Equal is more = absurd (true≢false (rw is at free))
    go Greater is more = rw is (IsPermutation-to_front (r ∷ rows) new)

numbered_more : (number : ℕ) (texts : List (List ℕ)) (text : List ℕ) → numbered number (texts ++ text ∷ []) ≡ numbered number texts ++ row_of (number + length texts + 1) text ∷ []
numbered_more number [] text = ap (λ n. row_of n text ∷ []) (omega arith)
numbered_more number (first ∷ more) text =
    ap (λ rows. row_of (number + 1) first ∷ rows) (numbered_more (number + 1) more text ∙ ap (λ n. numbered (number + 1) more ++ row_of n text ∷ []) (omega arith))

-- one row more is read
pub read_more : (rows : List Row) (texts : List (List ℕ)) (text : List ℕ) (number : ℕ) → rows ≡ numbered 0 texts → number ≡ length texts + 1 → rows ++ row_of number text ∷ [] ≡ numbered 0 (texts ++ text ∷ [])
read_more rows texts text number is next =
    ap (λ front. front ++ row_of number text ∷ []) is ∙ ap (λ n. numbered 0 texts ++ row_of n text ∷ []) (omega (arith, next)) ∙ sym (numbered_more 0 texts text)

-- a text more, in a row more
keeps_more : (kept : List (List ℕ)) (text : List ℕ) (rows : List Row) → IsPermutation (numbered 0 kept) (map shown rows) → is_taken rows (stored (length kept + 1) text) ≡ false
    → IsPermutation (numbered 0 (kept ++ text ∷ [])) (map shown (put_row (stored (length kept + 1) text) rows))
keeps_more kept text rows same free =
    let new = stored (length kept + 1) text in
    let front : numbered 0 (kept ++ text ∷ []) ≡ numbered 0 kept ++ row_of (length kept + 1) text ∷ [] = numbered_more 0 kept text ∙ ap (λ n. numbered 0 kept ++ row_of n text ∷ []) (omega arith) in
    let more = IsPermutation-append_left (row_of (length kept + 1) text ∷ []) _ _ same in
    let joined : map shown rows ++ row_of (length kept + 1) text ∷ [] ≡ map shown (rows ++ new ∷ []) = sym (map-append shown rows (new ∷ [])) in
    subst (λ l. IsPermutation l (map shown (put_row new rows))) (sym front)
    (IsPermutation-trans _ _ _ (subst (IsPermutation (numbered 0 kept ++ row_of (length kept + 1) text ∷ [])) joined more) (IsPermutation-map shown _ _ (put_permutes new rows free)))

free_of : (taken : Bool) → (not taken && true) ≡ true → taken ≡ false
free_of true h = absurd (true≢false (sym h))
free_of false h = refl

-- the next text is kept behind the others
pub adds : (old new : State) (kept : List (List ℕ)) (text : List ℕ) (count : ℕ) → IsStore kept old.now → Executes insertion (row_of (length kept + 1) text) old new (Ok count) → IsStore (kept ++ text ∷ []) new.now
adds old new kept text count store h =
    let params = row_of (length kept + 1) text in
    let db = old.now.trees in
    let command = Insert 0 (Values terms 3) in
    let w = runs_as insertion params old new (schema_of tables) store.schema command insert_is insert_plain count h in
    let sql = statement_of insertion (understood (schema_of tables) insertion) in
    let done = went (subst (λ s. Does old.step_limit (mode_of old) params (record old.now { schema = s }) sql None command (Ok (w.tally, new.now))) store.schema w.changed) in
    let now = ap (λ (p : Tally × Database). p.1) (same_value (went (went done.2).2).2) in
    let given = went done.1 in
    let written = went (went given.2).2 in
    let counted = went written.2 in
    let trees : done.0.trees ≡ written.0 = ap (λ (it : Written). it.trees) (same_value counted.2) ∙ same_value counted.1 in
    let step = one_step (schema_of tables) _ db written.0 (edit_of db change [] Chosen 0 given.0) refl written.1 in
    let edit : edited db (edit_of db change [] Chosen 0 given.0) ≡ put_row (stored (length kept + 1) text) (db 0) =
    ap (λ all. edited db (edit_of db change [] Chosen 0 all)) given.1.1 ∙ rw (cast_int (pos (length kept + 1)), cast_null) in
    let free : is_taken (db 0) (stored (length kept + 1) text) ≡ false =
    free_of _ (rw (cast_int (pos (length kept + 1))) at (subst (λ all. are_fresh (left_by db (edit_of db change [] Chosen 0 all)) (edit_of db change [] Chosen 0 all).news ≡ true) given.1.1 step.fresh)) in
    let put : new.now.trees 0 ≡ put_row (stored (length kept + 1) text) (db 0) = ap (λ (d : Database). d.trees 0) now ∙ ap (λ (t : Trees). t 0) trees ∙ step.rows ∙ edit in
    record { schema = ap (λ (d : Database). d.schema) now; rows = subst (λ rows. IsPermutation (numbered 0 (kept ++ text ∷ [])) (map shown rows)) (sym put) (keeps_more kept text (db 0) store.rows free) }

module _ {S : Type 0} (g : Ghosts S) where
  adds_all : (kept more : List (List ℕ)) (old new : Held S) → IsStore kept (state g old).now → InsertsAll g (length kept) more old new → IsStore (kept ++ more) (state g new).now
  adds_all kept [] old new store none =
      subst (λ texts. IsStore texts (state g new).now) (sym (append-nil kept)) (subst (λ h. IsStore kept (state g h).now) (sym none) store)
  adds_all kept (text ∷ more) old new store h =
      let one = adds (state g old) (state g h.0) kept text h.1.0 store h.1.1 in
      let count : length (kept ++ text ∷ []) ≡ length kept + 1 = length-append kept (text ∷ []) in
      subst (λ texts. IsStore texts (state g new).now) (append_assoc kept (text ∷ []) more)
      (adds_all (kept ++ text ∷ []) more h.0 new one (subst (λ n. InsertsAll g n more h.0 new) (sym count) h.2))

  module _ (count : ℕ) (before more : List (List ℕ)) (old begun last : Held S) (end : State) (is : begun ≡ record old { in_transaction = true }) (kept : AreKept (state g old) count before)
      (keeps : HasCleanDisk (state g last) → IsTrue begun.in_transaction → KeepsCommit (state g begun) (state g last)) (inside : Survives (state g begun) (state g last) (λ _. ⊥))
      (still : HasCleanDisk end → HasCleanDisk (state g last)) where
    -- what was kept, where the disk is clean to the end
    was_kept : HasCleanDisk end → IsTrue (state g last).is_open → (count ≡ length before) × IsStore before (state g old).now × ((state g old).committed ≡ (state g old).now) × ((state g last).committed ≡ (state g old).committed)
    unfolding AreKept
    was_kept clean is_open =
        let early = still clean in
        let commit : KeepsCommit (state g (record old { in_transaction = true })) (state g last) =
        subst (λ (h : Held S). IsTrue h.in_transaction → KeepsCommit (state g h) (state g last)) is (keeps early) refl in
        let up : Survives (state g (record old { in_transaction = true })) (state g last) (λ _. ⊥) = subst (λ h. Survives (state g h) (state g last) (λ _. ⊥)) is inside in
        let h = kept (omega (arith, up.clean, early)) (commit.was_open is_open) in
        (h.0, h.1, h.2, commit.committed is_open)

    -- the texts are kept behind the others
    pub kept_more : (total : ℕ) → total ≡ count + length more → (HasCleanDisk (state g last) → IsTrue begun.in_transaction → InsertsAll g count more begun last)
        → (HasCleanDisk end → Shows (state g last) end (state g last).now (state g last).now false) → AreKept end total (before ++ more)
    unfolding AreKept
    kept_more total sum inserted shows clean is_open =
        let it = shows clean in
        let was = was_kept clean it.was_open in
        let all : InsertsAll g count more (record old { in_transaction = true }) last =
        subst (λ (h : Held S). IsTrue h.in_transaction → InsertsAll g count more h last) is (inserted (still clean)) refl in
        let db = adds_all before more (record old { in_transaction = true }) last was.1 (subst (λ n. InsertsAll g n more (record old { in_transaction = true }) last) was.0 all) in
        (omega (arith, sum, was.0, length-append before more), subst (IsStore (before ++ more)) (sym it.now_is) db, it.committed_is ∙ sym it.now_is)

    -- or those before are, as they were
    pub kept_undone : (HasCleanDisk end → IsRolledBack (state g last) end) → AreKept end count before
    unfolding AreKept
    kept_undone undone clean is_open =
        let back = undone clean in
        let h = was_kept clean (back.was_open is_open) in
        let both = back.undone is_open in
        let now : end.now ≡ (state g old).now = both.0 ∙ h.3 ∙ h.2 in
        (h.0, subst (IsStore before) (sym now) h.1, both.1 ∙ sym both.0)
