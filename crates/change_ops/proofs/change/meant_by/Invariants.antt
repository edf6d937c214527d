use Rattle.std.proofs.Common.{◌≡◌, ◌+◌, length, drop}
use Rattle.change_ops.specs.Lines.{ops_of_lines}
use Rattle.change_ops.proofs.change.meant_by.Given as goal

abbrev pub invariant-loop-line : goal.invariant-loop-line
invariant-loop-line l = l.meant + length (ops_of_lines (drop l.line-index l.lines)) ≡ length (ops_of_lines l.fn.lines)
