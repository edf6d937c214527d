use Rattle.std.proofs.Common.{◌++◌, ap, ◌∙◌, arith}
use Rattle.char_sequence.specs.Visible.{visible_text}
use Rattle.char_sequence.proofs.VisibleText.{visible_most}
use Rattle.char_sequence.proofs.visible.write_text.Goals as goal

pub push_with_room-requires : goal.push_with_room-requires
push_with_room-requires c =
    let most = visible_most c.args.elements.now in
    let empty = c.clear.ensures.len in
    let kept = c.clear.ensures.capacity in
    let room = c.requires in
    omega (arith, most, empty, kept, room)

pub returns-clause-bytes : goal.returns-clause-bytes
returns-clause-bytes c = c.push_with_room.ensures.bytes ∙ ap (λ bs. bs ++ visible_text c.args.elements.now) c.clear.ensures.bytes
