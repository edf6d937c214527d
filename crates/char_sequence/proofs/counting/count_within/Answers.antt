use Rattle.std.proofs.Common.{◌≡◌, ◌-◌, length, slice_range, ap, sym, refl, ◌∙◌, arith}
use Rattle.std.proofs.lemmas.List.Sums.{count_by-le-length}
use Rattle.char_sequence.specs.declared.sequence.Element.{Element}
use Rattle.char_sequence.specs.Visible.{visible_count}
use Rattle.char_sequence.proofs.Ranges.{range_whole}
use Rattle.char_sequence.proofs.counting.count_within.Goals as goal

pub returns-then-is_whole-clause-value : goal.returns-then-is_whole-clause-value
returns-then-is_whole-clause-value c =
    let chunk = c.args.chunk.now in
    let a = c.args.from - c.args.start in
    let b = c.args.to - c.args.start in
    let items = c.as_slice-items.ensures.value in
    let piece : c.part-piece.result.now ≡ slice_range chunk a b = c.part-piece.ensures.value ∙ ap (λ z. slice_range z a b) items in
    let whole : slice_range chunk a b ≡ chunk = range_whole chunk a b (sym (ap length piece) ∙ c.if-is_whole.ensures refl ∙ ap length items) in
    c.shown.ensures.value ∙ ap visible_count (sym whole)

pub returns-then-is_whole-clause-limit : goal.returns-then-is_whole-clause-limit
returns-then-is_whole-clause-limit c =
    let shown = c.shown.ensures.value in
    let most = count_by-le-length (λ (e : Element). e.visible) c.args.chunk.now in
    omega (arith, shown, most)

pub returns-else-is_whole-clause-value : goal.returns-else-is_whole-clause-value
returns-else-is_whole-clause-value c =
    let a = c.args.from - c.args.start in
    let b = c.args.to - c.args.start in
    c.count_visible.ensures ∙ ap visible_count (c.part-piece.ensures.value ∙ ap (λ z. slice_range z a b) c.as_slice-items.ensures.value)

pub returns-else-is_whole-clause-limit : goal.returns-else-is_whole-clause-limit
returns-else-is_whole-clause-limit c =
    let few = c.part-piece.ensures.few in
    let items = ap length c.as_slice-items.ensures.value in
    let count = c.count_visible.ensures in
    let most = count_by-le-length (λ (e : Element). e.visible) c.part-piece.result.now in
    omega (arith, few, items, count, most)
