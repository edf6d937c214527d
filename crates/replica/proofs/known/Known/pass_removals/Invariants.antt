use Rattle.std.proofs.Common.{take, Ok}
use Rattle.change_ops.specs.IdRuns.{removals_of}
use Rattle.replica.specs.Knowing.{Passes}
use Rattle.replica.proofs.known.Known.pass_removals.Given as goal

abbrev pub invariant-loop-index : goal.invariant-loop-index
invariant-loop-index l = Passes (take l.index (removals_of l.run)) l.fn.self l.self (Ok tt)
