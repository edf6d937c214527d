use Rattle.std.proofs.Common.{◌≡◌, replicate, None}
use Rattle.verifier.proofs.waiting.Waiting.new.Given as goal

abbrev pub invariant-loop-slot : goal.invariant-loop-slot
invariant-loop-slot l = l.states.items ≡ replicate l._slot None
