use Rattle.std.proofs.Common.{◌≡◌, ◌++◌, drop, string_bytes}
use Rattle.std.specs.List.{flat_map}
use Rattle.hub_commands.specs.Hexadecimal.{slot_line}
use Rattle.hub_commands.proofs.hexadecimal.slot_lines.Given as goal

abbrev pub invariant-loop-slot : goal.invariant-loop-slot
invariant-loop-slot l = string_bytes l.lines ++ flat_map slot_line (drop l.slot-index l.slots) ≡ flat_map slot_line l.slots
