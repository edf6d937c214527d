use Rattle.std.proofs.Common.{◌≡◌, ◌-◌, length, slice_range, ap, sym, refl, ◌∙◌, arith}
use Rattle.char_sequence.specs.Visible.{visible_text}
use Rattle.char_sequence.proofs.VisibleText.{visible_most}
use Rattle.char_sequence.proofs.Ranges.{range_whole}
use Rattle.char_sequence.proofs.visible.visible_len_within.Goals as goal

pub returns-then-is_whole-clause-value : goal.returns-then-is_whole-clause-value
returns-then-is_whole-clause-value c =
    let chunk = c.args.chunk.now in
    let a = c.args.from - c.args.start in
    let b = c.args.to - c.args.start in
    let items = c.as_slice-items.ensures.value in
    let piece : c.part-piece.result.now ≡ slice_range chunk a b = c.part-piece.ensures.value ∙ ap (λ z. slice_range z a b) items in
    let whole : slice_range chunk a b ≡ chunk = range_whole chunk a b (sym (ap length piece) ∙ c.if-is_whole.ensures refl ∙ ap length items) in
    ap length (c.text.ensures.value ∙ ap visible_text (sym whole))

pub returns-then-is_whole-clause-limit : goal.returns-then-is_whole-clause-limit
returns-then-is_whole-clause-limit c =
    let text = ap length c.text.ensures.value in
    let most = visible_most c.args.chunk.now in
    omega (arith, text, most)

pub returns-else-is_whole-clause-value : goal.returns-else-is_whole-clause-value
returns-else-is_whole-clause-value c =
    let a = c.args.from - c.args.start in
    let b = c.args.to - c.args.start in
    c.visible_len.ensures.value
    ∙ ap (λ z. length (visible_text z)) (c.part-piece.ensures.value ∙ ap (λ z. slice_range z a b) c.as_slice-items.ensures.value)

pub returns-else-is_whole-clause-limit : goal.returns-else-is_whole-clause-limit
returns-else-is_whole-clause-limit c =
    let few = c.part-piece.ensures.few in
    let items = ap length c.as_slice-items.ensures.value in
    let limit = c.visible_len.ensures.limit in
    omega (arith, few, items, limit)
