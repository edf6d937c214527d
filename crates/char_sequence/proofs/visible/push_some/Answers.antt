use Rattle.std.proofs.Common.{arith}
use Rattle.char_sequence.proofs.VisibleText.{visible_most}
use Rattle.char_sequence.proofs.visible.push_some.Goals as goal

pub push_with_room-requires : goal.push_with_room-requires
push_with_room-requires c =
    let most = visible_most c.args.elements.now in
    let len = c.in_ok-reserve.ensures.len in
    let full = c.in_ok-reserve.ensures.ok in
    omega (arith, most, len, full)
