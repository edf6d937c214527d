use Rattle.std.proofs.Common.{take, Ok}
use Rattle.change_ops.specs.Lines.{ops_of_lines}
use Rattle.replica.specs.Knowing.{Passes}
use Rattle.replica.proofs.known.Known.pass_all.Given as goal

abbrev pub invariant-loop-index : goal.invariant-loop-index
invariant-loop-index l = Passes (ops_of_lines (take l.index l.lines)) l.fn.self l.self (Ok tt)
