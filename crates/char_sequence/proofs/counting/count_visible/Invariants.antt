use Rattle.std.proofs.Common.{◌≡◌, ◌≤◌, take}
use Rattle.char_sequence.specs.Visible.{visible_count}
use Rattle.char_sequence.proofs.counting.count_visible.Given as goal

abbrev pub invariant-loop-element : goal.invariant-loop-element
invariant-loop-element l = (l.count ≡ visible_count (take l.element-index l.elements)) × (l.count ≤ l.element-index)
