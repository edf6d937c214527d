use Rattle.std.proofs.Common.{◌-◌, vec_len, vec_capacity}
use Rattle.std.specs.Prelude.{⊤}
use Rattle.change_keeping.proofs.serving.gather.Given as goal

abbrev pub invariant-loop-request : goal.invariant-loop-request
invariant-loop-request g l = ⊤

abbrev pub decreases-loop-request : goal.decreases-loop-request
decreases-loop-request g l = vec_capacity l.group - vec_len l.group
