use Rattle.mark_places.specs.Floors.{AreKept}
use Rattle.mark_places.proofs.places.MarkPlaces.choose.Given as goal

abbrev pub invariant-loop-mark : goal.invariant-loop-mark
invariant-loop-mark l = AreKept l.mark-items l.operations l.floors l.mark-index l.chosen.operations l.chosen.marks
