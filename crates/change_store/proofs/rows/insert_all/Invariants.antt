use Rattle.std.proofs.Common.{◌≡◌, ◌+◌, IsTrue, take}
use Rattle.sqlite.specs.State.{HasCleanDisk, KeepsCommit, Survives}
use Rattle.sqlite.specs.Held.{state}
use Rattle.change_store.specs.Inserted.{InsertsAll}
use Rattle.change_store.proofs.rows.insert_all.Given as goal

abbrev pub invariant-loop-text : goal.invariant-loop-text
invariant-loop-text g l =
    let old = l.fn.group.conn.now in
    let now = l.group.conn.now in
    record {
      same : l.group.conn.ghost_name ≡ l.fn.group.conn.ghost_name;
      number : l.number ≡ l.count + l.text-index;
      survives : Survives (state g.S.Store old) (state g.S.Store now) (λ _. ⊥);
      inserted : HasCleanDisk (state g.S.Store now) → IsTrue old.in_transaction
          → IsTrue now.in_transaction × KeepsCommit (state g.S.Store old) (state g.S.Store now) × InsertsAll g.S.Store l.count (take l.text-index l.texts) old now;
    }
