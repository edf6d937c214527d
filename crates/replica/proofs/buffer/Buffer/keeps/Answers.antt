use Rattle.std.proofs.Common.{subst}
use Rattle.replica.specs.Buffers.{Buffered, IsBuffered}
use Rattle.replica.proofs.buffer.Buffer.keeps.Goals as goal

pub returns : goal.returns
returns c = subst (λ (b : Buffered). IsBuffered b) c.self.view_is c.self.invariant.0
