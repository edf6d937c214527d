use Rattle.mark_places.specs.Floors.{AreFirstFloors}
use Rattle.mark_places.proofs.floors.Floors.of.Given as goal

abbrev pub invariant-loop-mark : goal.invariant-loop-mark
invariant-loop-mark l = AreFirstFloors l.marks l.low l.high l.mark-index l.floors
