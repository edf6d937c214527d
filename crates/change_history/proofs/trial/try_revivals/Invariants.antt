use Rattle.std.proofs.Common.{List, ℕ, ◌+◌}
use Rattle.change_ops.specs.declared.operation.Op.{Op}
use Rattle.change_ops.specs.IdRuns.{revivals_of}
use Rattle.change_history.specs.Kept.{StandAt}
use Rattle.change_history.specs.Trial.{IsTried}
use Rattle.change_history.proofs.trial.try_revivals.Given as goal

abbrev pub invariant-loop-index : goal.invariant-loop-index
invariant-loop-index l = (ops added : List Op) (from node : ℕ) → IsTried l.size ops added from node l.parts l.fn.trial → StandAt added from (revivals_of l.run) → IsTried l.size ops added (from + l.index) node l.parts l.trial
