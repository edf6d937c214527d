use Rattle.std.proofs.Common.{List, length, drop, ap, ◌∙◌, arith}
use Rattle.std.proofs.lemmas.Iterator.Consumers.{YieldsList-end, YieldsList-from_first, YieldsList-turn}
use Rattle.std.proofs.lemmas.List.{length_push}
use Rattle.std.specs.Char.{encode_utf8}
use Rattle.char_sequence.specs.declared.sequence.Element.{Element}
use Rattle.char_sequence.specs.Visible.{all_bytes}
use Rattle.char_sequence.proofs.AllBytes.{all_left, all_most, all_passed}
use Rattle.change_history.proofs.trial.bytes_of_all.Goals as goal

pub overflow_add-count : goal.overflow_add-count
overflow_add-count c =
    let es : List Element = c.args.sequence.now.elements in
    let made = c.into_iter-element-iterator.ensures.into_iter_gives in
    let chain = YieldsList-from_first (λ (x : Element). x) (λ (rest : List Element). rest) es (made ∙ c.elements-element-items.ensures.value) in
    let turn = YieldsList-turn chain c.loop-element.yielded _ c.loop-element.yielded_by _ _ c.in-Some.element c.in-Some.is c.next.ensures.steps in
    let left = all_left es (length c.loop-element.yielded) c.in-Some.element c.len_utf8-count.result turn.0 turn.1 (c.len_utf8-count.ensures.len ∙ ap (λ ch. length (encode_utf8 ch)) c.value.ensures.value) in
    let so_far = c.loop-element.invariant in
    let most = all_most es in
    let few = c.elements-element-items.ensures.limit in
    omega (arith, left, so_far, most, few)

pub loop-element-preserved : goal.loop-element-preserved
loop-element-preserved c =
    let es : List Element = c.args.sequence.now.elements in
    let made = c.into_iter-element-iterator.ensures.into_iter_gives in
    let chain = YieldsList-from_first (λ (x : Element). x) (λ (rest : List Element). rest) es (made ∙ c.elements-element-items.ensures.value) in
    let turn = YieldsList-turn chain c.loop-element.yielded _ c.loop-element.yielded_by _ _ c.in-Some.element c.in-Some.is c.next.ensures.steps in
    let left = all_left es (length c.loop-element.yielded) c.in-Some.element c.len_utf8-count.result turn.0 turn.1 (c.len_utf8-count.ensures.len ∙ ap (λ ch. length (encode_utf8 ch)) c.value.ensures.value) in
    let so_far = c.loop-element.invariant in
    let more = ap (λ n. all_bytes (drop n es)) (length_push c.loop-element.yielded c.in-Some.element) in
    omega (arith, left, so_far, more)

pub returns : goal.returns
returns c =
    let es : List Element = c.args.sequence.now.elements in
    let made = c.into_iter-element-iterator.ensures.into_iter_gives in
    let chain = YieldsList-from_first (λ (x : Element). x) (λ (rest : List Element). rest) es (made ∙ c.elements-element-items.ensures.value) in
    let end = YieldsList-end chain c.loop-element.yielded _ c.loop-element.yielded_by _ _ c.in-None.is c.next.ensures.steps in
    let all = end.1 in
    let none = all_passed es (length c.loop-element.yielded) (omega (arith, all)) in
    let so_far = c.loop-element.invariant in
    omega (arith, none, so_far)
