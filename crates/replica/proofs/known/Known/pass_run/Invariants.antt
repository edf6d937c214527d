use Rattle.std.proofs.Common.{take, Ok}
use Rattle.change_ops.specs.Runs.{inserts_of}
use Rattle.replica.specs.Knowing.{Passes}
use Rattle.replica.proofs.known.Known.pass_run.Given as goal

abbrev pub invariant-loop-index : goal.invariant-loop-index
invariant-loop-index l = Passes (take l.index (inserts_of l.run)) l.fn.self l.self (Ok tt)
