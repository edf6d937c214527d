use Rattle.std.proofs.Common.{take, Some}
use Rattle.change_ops.specs.IdRuns.{removals_of}
use Rattle.replica.specs.Messages.{Rises}
use Rattle.replica.proofs.message.risen_removals.Given as goal

abbrev pub invariant-loop-index : goal.invariant-loop-index
invariant-loop-index l = Rises l.last (take l.index (removals_of l.run)) (Some l.end)
