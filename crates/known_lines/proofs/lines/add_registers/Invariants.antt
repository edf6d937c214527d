use Rattle.std.proofs.Common.{◌≡◌, ◌++◌, map, string_bytes}
use Rattle.std.specs.List.{range_with_len}
use Rattle.abstract_state.specs.Situation.{registers_of}
use Rattle.known_lines.specs.KnownLines.{register_line}
use Rattle.known_lines.proofs.lines.add_registers.Given as goal

abbrev pub invariant-loop-number : goal.invariant-loop-number
invariant-loop-number l = map string_bytes l.lines.items ≡ map string_bytes l.fn.lines.items ++ map (λ i. register_line i (registers_of l.registers i)) (range_with_len 0 l.number)
