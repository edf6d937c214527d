use Rattle.std.proofs.Common.{◌≡◌, ◌++◌, map, string_bytes}
use Rattle.std.specs.List.{range_with_len}
use Rattle.abstract_state.specs.Stacks.{slots_of}
use Rattle.known_lines.specs.KnownLines.{slot_line}
use Rattle.known_lines.proofs.lines.add_slots.Given as goal

abbrev pub invariant-loop-index : goal.invariant-loop-index
invariant-loop-index l = map string_bytes l.lines.items ≡ map string_bytes l.fn.lines.items ++ map (λ i. slot_line i (slots_of l.slots i)) (range_with_len 0 l.index)
