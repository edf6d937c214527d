use Rattle.std.proofs.Common.{◌≡◌, max, drop}
use Rattle.change_ops.specs.Lines.{ops_of_lines}
use Rattle.change_counters.specs.Counters.{greatest_counter}
use Rattle.change_counters.proofs.greatest_with_lines.Given as goal

abbrev pub invariant-loop-line : goal.invariant-loop-line
invariant-loop-line l = max l.greatest (greatest_counter (ops_of_lines (drop l.line-index l.lines))) ≡ max l.fn.counter (greatest_counter (ops_of_lines l.fn.lines))
