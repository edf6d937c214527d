use Rattle.std.proofs.Common.{◌≡◌, take}
use Rattle.std.specs.List.{list_all}
use Rattle.hub_commands.specs.Hints.{is_printable}
use Rattle.hub_commands.proofs.hex_input.are_printable.Given as goal

abbrev pub invariant-loop-byte : goal.invariant-loop-byte
invariant-loop-byte l = l.all ≡ list_all is_printable (take l.byte-index l.bytes)
