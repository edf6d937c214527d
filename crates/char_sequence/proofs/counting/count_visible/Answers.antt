use Rattle.std.proofs.Common.{ap, sym, ◌∙◌, arith}
use Rattle.std.proofs.lemmas.List.Sums.{count_by_more_yes, count_by_more_no}
use Rattle.char_sequence.specs.declared.sequence.Element.{Element}
use Rattle.char_sequence.proofs.counting.count_visible.Goals.{then-element, else-element}
use Rattle.char_sequence.proofs.counting.count_visible.Goals as goal

pub loop-element-preserved : goal.loop-element-preserved
loop-element-preserved c =
    let es = c.args.elements.now in
    let i = c.loop-element.element-index in
    let was = c.loop-element.invariant.0 in
    let few = c.loop-element.invariant.1 in
    let seen = ap (λ (e : Element). e.visible) (sym c.element-item.is) in
    elim c.if-element.branch [
      | then-element w ↦
          let more = count_by_more_yes (λ (e : Element). e.visible) es i c.element-item.result c.loop-element-test.true (seen ∙ w.if-element.true) in
          let sum = w.count-is in
          (omega (arith, more, was, sum), omega (arith, few, sum))
      | else-element w ↦
          let more = count_by_more_no (λ (e : Element). e.visible) es i c.element-item.result c.loop-element-test.true (seen ∙ w.if-element.false) in
          let same = w.count-is in
          (omega (arith, more, was, same), omega (arith, few, same))
    ]
