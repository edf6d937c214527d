use Rattle.std.proofs.Common.{◌≡◌, ◌++◌, drop}
use Rattle.std.specs.String.{string_bytes}
use Rattle.change_ops.specs.Spelling.{lines_text}
use Rattle.change_ops.proofs.writing.write_lines.Given as goal

abbrev pub invariant-loop-line : goal.invariant-loop-line
invariant-loop-line l = string_bytes l.out ++ lines_text (drop l.line-index l.lines) ≡ string_bytes l.fn.out ++ lines_text l.fn.lines
