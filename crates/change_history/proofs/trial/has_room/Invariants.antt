use Rattle.std.proofs.Common.{◌≡◌, ◌+◌, drop}
use Rattle.std.specs.List.{sum_by}
use Rattle.change_ops.specs.Lines.{ops_of_lines}
use Rattle.change_history.specs.Trial.{growth}
use Rattle.change_history.proofs.trial.has_room.Given as goal

abbrev pub invariant-loop-line : goal.invariant-loop-line
invariant-loop-line l = l.left + sum_by (growth l.revived) (ops_of_lines l.lines) ≡ l.room + sum_by (growth l.revived) (ops_of_lines (drop l.line-index l.lines))
