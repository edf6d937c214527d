use Rattle.std.proofs.Common.{List, ℕ, ◌+◌}
use Rattle.change_ops.specs.declared.operation.Op.{Op}
use Rattle.change_ops.specs.IdRuns.{revivals_of}
use Rattle.change_history.specs.Kept.{StandAt, IsApplied}
use Rattle.change_history.proofs.history.apply_revivals.Given as goal

abbrev pub invariant-loop-index : goal.invariant-loop-index
invariant-loop-index l = (ops added : List Op) (from : ℕ) → IsApplied ops added from l.fn.parts → StandAt added from (revivals_of l.run) → IsApplied ops added (from + l.index) l.parts
