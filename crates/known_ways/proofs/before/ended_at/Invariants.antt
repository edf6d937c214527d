use Rattle.known_ways.specs.Told.{BeginsWith}
use Rattle.known_ways.proofs.before.ended_at.Given as goal

abbrev pub invariant-loop-slot : goal.invariant-loop-slot
invariant-loop-slot l = BeginsWith l.last l.words l.bytes.items
