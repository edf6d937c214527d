use Rattle.std.proofs.Common.{◌≡◌, ◌++◌, map, drop, string_bytes}
use Rattle.known_lines.specs.KnownLines.{listed}
use Rattle.known_lines.proofs.lines.push_lines.Given as goal

abbrev pub invariant-loop-index : goal.invariant-loop-index
invariant-loop-index l = string_bytes l.text ++ listed (drop l.index (map string_bytes l.lines)) ≡ string_bytes l.fn.text ++ listed (map string_bytes l.lines)
