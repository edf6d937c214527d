use Rattle.std.proofs.Common.{◌≡◌, take}
use Rattle.hub_commands.specs.Hexadecimal.{without_blanks}
use Rattle.hub_commands.proofs.digits.run_length.Given as goal

abbrev pub invariant-loop-index : goal.invariant-loop-index
invariant-loop-index l = without_blanks (take l.index l.text) ≡ take l.index l.text
