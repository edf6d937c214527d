use Rattle.std.proofs.Common.{length}
use Rattle.replica.proofs.Buffering.{Settling}
use Rattle.replica.proofs.buffer.Buffer.settle.Given as goal

abbrev pub invariant-loop-stopped : goal.invariant-loop-stopped
invariant-loop-stopped l = Settling l.fn.self l.self

abbrev pub decreases-loop-stopped : goal.decreases-loop-stopped
decreases-loop-stopped l = length l.self.held
