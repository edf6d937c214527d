use Rattle.std.proofs.Common.{◌≡◌, ◌≤◌, ◌++◌, take, string_bytes}
use Rattle.std.specs.String.{string_capacity}
use Rattle.char_sequence.specs.Visible.{visible_text}
use Rattle.char_sequence.proofs.visible.push_with_room.Given as goal

abbrev pub invariant-loop-element : goal.invariant-loop-element
invariant-loop-element l =
    (string_bytes l.text ≡ string_bytes l.initial.text ++ visible_text (take l.element-index l.elements)) × (string_capacity l.initial.text ≤ string_capacity l.text)
