use Rattle.std.proofs.Common.{◌≡◌, ◌++◌, map, drop, string_bytes}
use Rattle.known_lines.specs.KnownLines.{listed, lines_beside}
use Rattle.known_lines.proofs.lines.push_lines_beside.Given as goal

abbrev pub invariant-loop-index : goal.invariant-loop-index
invariant-loop-index l =
    string_bytes l.text ++ listed (lines_beside (drop l.index (map string_bytes l.lines)) (drop l.index (map string_bytes l.others)))
    ≡ string_bytes l.fn.text ++ listed (lines_beside (map string_bytes l.lines) (map string_bytes l.others))
