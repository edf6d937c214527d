use Rattle.std.proofs.Common.{List, ℕ, ◌+◌}
use Rattle.change_ops.specs.declared.operation.Op.{Op}
use Rattle.change_ops.specs.IdRuns.{removals_of}
use Rattle.change_history.specs.Kept.{StandAt}
use Rattle.change_history.specs.Tally.{IsAdmitted}
use Rattle.change_history.proofs.admission.admit_removals.Given as goal

abbrev pub invariant-loop-index : goal.invariant-loop-index
invariant-loop-index l = (ops added : List Op) (from node : ℕ) → IsAdmitted l.size ops added from node l.parts l.fn.tally → StandAt added from (removals_of l.run) → IsAdmitted l.size ops added (from + l.index) node l.parts l.tally
