use Rattle.std.proofs.Common.{◌++◌, ◌∷◌, [], ap, ◌∙◌, arith}
use Rattle.char_sequence.specs.Visible.{visible_text, visible_count}
use Rattle.char_sequence.proofs.Floors.{chunk_one}
use Rattle.char_sequence.proofs.chunk.Chunk.one.Goals as goal

pub invariant_of-result : goal.invariant_of-result
invariant_of-result c =
    let capacity = c.push_reserved.ensures.capacity in
    let ready = c.args.blank.ready.1 in
    let wider = c.write_text.ensures.capacity in
    let wide = c.args.blank.ready.3 in
    let kept =
    chunk_one c.push_reserved.new.self.items _ _ _ c.args.element
    (c.push_reserved.ensures.items ∙ ap (λ z. z ++ c.args.element ∷ []) c.args.blank.ready.0)
    (omega (arith, capacity, ready))
    (omega (arith, wider, wide))
    (c.write_text.ensures.bytes ∙ ap visible_text c.deref.ensures.value) in
    (kept.0, kept.1, kept.2, c.count_visible-shown.ensures ∙ ap visible_count c.deref-2.ensures.value)
