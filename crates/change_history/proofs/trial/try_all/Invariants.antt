use Rattle.std.proofs.Common.{List}
use Rattle.change_ops.specs.declared.operation.Op.{Op}
use Rattle.change_ops.specs.Lines.{ops_of_lines}
use Rattle.change_history.specs.Kept.{Keeps}
use Rattle.change_history.specs.Trial.{IsTried}
use Rattle.change_history.proofs.Chronicle.{begin_of}
use Rattle.change_history.proofs.trial.try_all.Given as goal

abbrev pub invariant-loop-index : goal.invariant-loop-index
invariant-loop-index l = (ops : List Op) → Keeps ops l.parts → IsTried l.size ops (ops_of_lines l.lines) (begin_of l.lines l.index) l.node l.parts l.trial
