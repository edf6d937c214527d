use Rattle.insert_place.proofs.Places.{Seen}
use Rattle.insert_place.proofs.place_from.Given as goal

abbrev pub invariant-loop-seen : goal.invariant-loop-seen
invariant-loop-seen l = Seen l.sequence.elements l.marks l.caret l.place l.seen
