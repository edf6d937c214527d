use Rattle.std.proofs.Common.{List, ℕ, ◌+◌, ◌-◌, ◌≤◌, length}
use Rattle.change_ops.specs.declared.operation.Op.{Op}
use Rattle.change_ops.specs.Runs.{inserts_of}
use Rattle.change_history.specs.Kept.{StandAt, IsApplied}
use Rattle.change_history.proofs.history.apply_run.Given as goal

abbrev pub invariant-loop-applied : goal.invariant-loop-applied
invariant-loop-applied l =
    ((ops added : List Op) (from : ℕ) → IsApplied ops added from l.fn.parts → StandAt added from (inserts_of l.run) → IsApplied ops added (from + l.applied) l.parts) × (l.applied ≤ length l.run.characters)

abbrev pub decreases-loop-applied : goal.decreases-loop-applied
decreases-loop-applied l = l.end - l.applied
