use Rattle.std.proofs.Common.{◌≡◌, ◌+◌, ◌++◌, length, take, string_bytes, ap, sym, ◌∙◌, arith, rules, append-nil, append_assoc, length-append}
use Rattle.std.specs.Char.{encode_utf8}
use Rattle.std.specs.String.{string_len, string_capacity}
use Rattle.std.proofs.lemmas.Slice.{pushed}
use Rattle.std.proofs.lemmas.List.{take_all}
use Rattle.char_sequence.specs.Visible.{visible_text}
use Rattle.char_sequence.proofs.VisibleText.{visible_none, visible_more, hidden_more, visible_front}
use Rattle.char_sequence.proofs.visible.push_with_room.Goals.{then-element, else-element}
use Rattle.char_sequence.proofs.visible.push_with_room.Goals as goal

pub loop-element-init : goal.loop-element-init
loop-element-init c = (sym (ap (λ bs. string_bytes c.args.text.now ++ bs) visible_none ∙ append-nil (string_bytes c.args.text.now)), omega arith)

pub unwrap-requires : goal.unwrap-requires
unwrap-requires c =
    let es = c.args.elements.now in
    let i = c.loop-element.element-index in
    let was : string_len c.args.text.now ≡ length (string_bytes c.args.text.now) = search rules in
    let now : string_len c.loop-element.text ≡ length (string_bytes c.loop-element.text) = search rules in
    let so_far = ap length c.loop-element.invariant.0 ∙ length-append (string_bytes c.args.text.now) (visible_text (take i es)) in
    let more = ap length (visible_more es i c.element-item.result c.loop-element-test.true c.element-item.is c.if-element.true)
    ∙ length-append (visible_text (take i es)) (encode_utf8 c.element-item.result.character) in
    let same = ap (λ ch. length (encode_utf8 ch)) c.value.ensures.value in
    let front = visible_front es (i + 1) in
    let room = c.requires in
    let kept = c.loop-element.invariant.1 in
    c.push.ensures.succeeds (omega (arith, was, now, so_far, more, same, front, room, kept))

pub loop-element-preserved : goal.loop-element-preserved
loop-element-preserved c =
    let es = c.args.elements.now in
    let i = c.loop-element.element-index in
    let front = string_bytes c.args.text.now in
    elim c.if-element.branch [
      | then-element w ↦ (
        ap string_bytes w.text-is
            ∙ pushed _ c.loop-element.invariant.0 w.unwrap.ensures w.push.ensures.bytes
            ∙ append_assoc front (visible_text (take i es)) _
            ∙ ap (λ ch. front ++ (visible_text (take i es) ++ encode_utf8 ch)) w.value.ensures.value
            ∙ ap (λ bs. front ++ bs) (sym (visible_more es i c.element-item.result c.loop-element-test.true c.element-item.is w.if-element.true)),
        let grown = w.push.ensures.capacity in
            let same = ap string_capacity w.text-is in
            let kept = c.loop-element.invariant.1 in
            omega (arith, grown, same, kept),
      )
      | else-element w ↦ (
        ap string_bytes w.text-is
            ∙ c.loop-element.invariant.0
            ∙ ap (λ bs. front ++ bs) (sym (hidden_more es i c.element-item.result c.loop-element-test.true c.element-item.is w.if-element.false)),
        let same = ap string_capacity w.text-is in
            let kept = c.loop-element.invariant.1 in
            omega (arith, same, kept),
      )
    ]

pub returns-clause-bytes : goal.returns-clause-bytes
returns-clause-bytes c =
    c.loop-element.invariant.0
    ∙ ap (λ es. string_bytes c.args.text.now ++ visible_text es) (take_all _ c.args.elements.now c.loop-element-test.false)
