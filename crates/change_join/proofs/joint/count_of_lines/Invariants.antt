use Rattle.std.proofs.Common.{◌≡◌, ◌+◌, drop}
use Rattle.change_ops.specs.Lines.{count_of_lines}
use Rattle.change_join.proofs.joint.count_of_lines.Given as goal

abbrev pub invariant-loop-line : goal.invariant-loop-line
invariant-loop-line l = l.count + count_of_lines (drop l.line-index l.lines) ≡ count_of_lines l.lines
