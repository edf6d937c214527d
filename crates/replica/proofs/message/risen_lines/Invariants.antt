use Rattle.std.proofs.Common.{take, Some}
use Rattle.change_ops.specs.Lines.{ops_of_lines}
use Rattle.replica.specs.Messages.{Rises}
use Rattle.replica.proofs.message.risen_lines.Given as goal

abbrev pub invariant-loop-index : goal.invariant-loop-index
invariant-loop-index l = Rises l.last (ops_of_lines (take l.index l.lines)) (Some l.end)
