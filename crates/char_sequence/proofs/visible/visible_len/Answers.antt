use Rattle.std.proofs.Common.{length, take, ap, sym, ◌∙◌, arith, length-append}
use Rattle.std.specs.Char.{encode_utf8}
use Rattle.char_sequence.specs.Visible.{visible_text}
use Rattle.char_sequence.proofs.VisibleText.{visible_none, visible_more, hidden_more}
use Rattle.char_sequence.proofs.visible.visible_len.Goals.{then-element, else-element}
use Rattle.char_sequence.proofs.visible.visible_len.Goals as goal

pub loop-element-init : goal.loop-element-init
loop-element-init c = (sym (ap length visible_none), omega arith)

pub loop-element-preserved : goal.loop-element-preserved
loop-element-preserved c =
    let es = c.args.elements.now in
    let i = c.loop-element.element-index in
    elim c.if-element.branch [
      | then-element w ↦ (
        let more = ap length (visible_more es i c.element-item.result c.loop-element-test.true c.element-item.is w.if-element.true)
            ∙ length-append (visible_text (take i es)) (encode_utf8 c.element-item.result.character) in
            let bytes = w.len_utf8-count.ensures.len ∙ ap (λ ch. length (encode_utf8 ch)) w.value.ensures.value in
            let was = c.loop-element.invariant.0 in
            let sum = w.count-is in
            omega (arith, more, bytes, was, sum),
        let at_most = w.len_utf8-count.ensures.upper_bound in
            let was = c.loop-element.invariant.1 in
            let sum = w.count-is in
            omega (arith, at_most, was, sum),
      )
      | else-element w ↦ (
        w.count-is ∙ c.loop-element.invariant.0 ∙ sym (ap length (hidden_more es i c.element-item.result c.loop-element-test.true c.element-item.is w.if-element.false)),
        let was = c.loop-element.invariant.1 in
            let same = w.count-is in
            omega (arith, was, same),
      )
    ]
