use Rattle.std.proofs.Common.{◌≡◌}
use Rattle.replica.proofs.Waiting.{AreLookedAt}
use Rattle.replica.proofs.buffer.Buffer.accept_one.Given as goal

abbrev pub invariant-loop-index : goal.invariant-loop-index
invariant-loop-index l = (l.self ≡ l.fn.self) × AreLookedAt l.fn.self l.index l.stopped
