use Rattle.std.proofs.Common.{◌≡◌, ◌++◌, map, drop, string_bytes}
use Rattle.known_lines.specs.KnownLines.{in_line, lines_beside}
use Rattle.known_lines.proofs.Lists.{lines_left}
use Rattle.known_lines.proofs.lines.push_all_in_line.Given as goal

abbrev pub invariant-loop-index : goal.invariant-loop-index
invariant-loop-index l = record {
  written :
      string_bytes l.text ++ lines_left l.some (lines_beside (drop l.index (map string_bytes l.lines)) (drop l.index (map string_bytes l.others)))
      ≡ string_bytes l.fn.text ++ in_line (lines_beside (map string_bytes l.lines) (map string_bytes l.others));
}
