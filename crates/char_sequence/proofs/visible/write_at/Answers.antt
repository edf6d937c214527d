use Rattle.std.proofs.Common.{◌++◌, take, drop, string_bytes, sym, ap, ◌∙◌, arith, append-nil}
use Rattle.std.specs.Char.{encode_utf8}
use Rattle.std.proofs.lemmas.List.{take-append-drop}
use Rattle.char_sequence.proofs.VisibleText.{visible_one, hidden_one}
use Rattle.char_sequence.proofs.Renaming.{is_ok_by}
use Rattle.char_sequence.proofs.Boundaries.{on_ok_at}
use Rattle.char_sequence.proofs.visible.write_at.Goals as goal

pub unwrap-requires : goal.unwrap-requires
unwrap-requires c =
    is_ok_by _ c.insert.result c.insert.ensures.full
    (λ full. let room = c.requires.room in let most = c.insert.ensures.char_len in omega (arith, full, room, most))

pub returns-then-element-clause-bytes : goal.returns-then-element-clause-bytes
returns-then-element-clause-bytes c =
    let bs = string_bytes c.args.text.now in
    let at = c.args.at in
    let e = c.args.element.now in
    on_ok_at _ c.insert.result _ c.unwrap.ensures c.insert.ensures.bytes
    ∙ ap (λ ch. (take at bs ++ encode_utf8 ch) ++ drop at bs) c.value.ensures.value
    ∙ ap (λ z. (take at bs ++ z) ++ drop at bs) (sym (visible_one e c.if-element.true))

pub returns-else-element-clause-bytes : goal.returns-else-element-clause-bytes
returns-else-element-clause-bytes c =
    let bs = string_bytes c.args.text.now in
    let at = c.args.at in
    sym (ap (λ z. (take at bs ++ z) ++ drop at bs) (hidden_one c.args.element.now c.if-element.false) ∙ ap (λ z. z ++ drop at bs) (append-nil (take at bs)) ∙ take-append-drop at bs)
