use Rattle.std.proofs.Common.{◌≡◌, ◌+◌, ◌++◌, ◌∷◌, [], length, take, arith, rules, sym, ap, ◌∙◌}
use Rattle.std.proofs.lemmas.List.{take_more}
use Rattle.change_store.specs.Store.{numbered}
use Rattle.change_store.proofs.StoreLemmas.{read_more}
use Rattle.change_store.proofs.rows.texts_of.Goals as goal

pub loop-row-preserved : goal.loop-row-preserved
loop-row-preserved c =
    let rows = c.args.rows.now in
    let texts = c.loop-row.texts.items in
    let number : c.in_ok-number.number ≡ c.loop-row.row-index + 1 = search rules in
    let count : length texts ≡ c.loop-row.row-index = search rules in
    let next : c.in_ok-number.number ≡ length texts + 1 = omega (arith, number, count) in
    let more = take_more rows c.loop-row.row-index c.row-item.result c.loop-row-test.true
    ∙ ap (λ r. take c.loop-row.row-index rows ++ r ∷ []) (sym c.row-item.is ∙ c.in_ok-text_of.ensures) in
    let read = more ∙ read_more _ texts _ _ c.loop-row.invariant.read next ∙ ap (numbered 0) (sym c.push_reserved.ensures.items) in
    record { read = read; number = number; count = search rules; room = search rules }
