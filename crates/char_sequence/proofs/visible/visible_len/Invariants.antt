use Rattle.std.proofs.Common.{◌≡◌, ◌≤◌, ◌*◌, length, take}
use Rattle.char_sequence.specs.Visible.{visible_text}
use Rattle.char_sequence.proofs.visible.visible_len.Given as goal

abbrev pub invariant-loop-element : goal.invariant-loop-element
invariant-loop-element l =
    (l.count ≡ length (visible_text (take l.element-index l.elements))) × (l.count ≤ 4 * l.element-index)
