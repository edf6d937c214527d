use Rattle.std.proofs.Common.{◌≡◌, ◌+◌, ◌++◌, ◌∷◌, [], length, take, IsTrue, arith, rules, sym, ap, ◌∙◌, subst}
use Rattle.std.proofs.lemmas.List.{take_more}
use Rattle.sqlite.specs.State.{HasCleanDisk, KeepsCommit, Survives}
use Rattle.sqlite.specs.Held.{state}
use Rattle.sqlite.proofs.StateLemmas.{survives_then}
use Rattle.sqlite.proofs.InsideLemmas.{keeps_then}
use Rattle.change_store.specs.Inserted.{InsertsAll}
use Rattle.change_store.proofs.InsertedLemmas.{inserts_more}
use Rattle.change_store.proofs.rows.insert_all.Goals as goal

pub loop-text-preserved : goal.loop-text-preserved
loop-text-preserved g c =
    let old = c.args.group.now.conn.now in
    let mid = c.loop-text.group.conn.now in
    let new = c.insert.new.group.conn.now in
    let text = c.as_str.result.now in
    let done = take c.loop-text.text-index c.args.texts.now in
    let number : c.in_ok-number.number ≡ c.args.count + (c.loop-text.text-index + 1) = search rules in
    let short : length done ≡ c.loop-text.text-index = search rules in
    let next : c.in_ok-number.number ≡ c.args.count + length done + 1 = omega (arith, number, short) in
    let more : take (c.loop-text.text-index + 1) c.args.texts.now ≡ done ++ text ∷ [] =
    take_more c.args.texts.now c.loop-text.text-index c.text-item.result c.loop-text-test.true
    ∙ ap (λ t. done ++ t ∷ []) (sym c.text-item.is ∙ sym c.as_str.ensures) in
    let survives : Survives (state g.S.Store old) (state g.S.Store new) (λ _. ⊥) =
    survives_then (state g.S.Store old) (state g.S.Store mid) (state g.S.Store new) _ _ (λ _. ⊥) (λ _ db none. none) (λ _ db none. none)
    c.loop-text.invariant.survives c.insert.ensures.survives in
    let inserted : HasCleanDisk (state g.S.Store new) → IsTrue old.in_transaction → IsTrue new.in_transaction × KeepsCommit (state g.S.Store old) (state g.S.Store new) × InsertsAll g.S.Store c.args.count (take (c.loop-text.text-index + 1) c.args.texts.now) old new = λ clean inside.
    let before = c.loop-text.invariant.inserted (omega (arith, c.insert.ensures.survives.clean)) inside in
    (c.in_ok-insert.ensures.inside clean before.0, keeps_then _ _ _ before.1 (c.insert.ensures.kept clean before.0), subst (λ texts. InsertsAll g.S.Store c.args.count texts old new) (sym more) (inserts_more g.S.Store c.args.count c.in_ok-number.number done text old mid new next before.2 (c.in_ok-insert.ensures.inserted clean before.0))) in
    record { same = search rules; number = number; survives = survives; inserted = inserted }
