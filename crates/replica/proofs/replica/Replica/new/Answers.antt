use Rattle.std.proofs.Common.{None, ap}
use Rattle.replica.specs.Buffers.{Buffered}
use Rattle.replica.specs.Replicas.{state_of}
use Rattle.replica.proofs.Delivering.{new_state}
use Rattle.replica.proofs.replica.Replica.new.Goals as goal

pub invariant_of-result : goal.invariant_of-result
invariant_of-result c = new_state c.new-buffer.result c.args.size c.new-buffer.ensures.value c.new-buffer.ensures.kept

pub returns : goal.returns
returns c = ap (λ (b : Buffered). state_of b None) c.new-buffer.ensures.value
