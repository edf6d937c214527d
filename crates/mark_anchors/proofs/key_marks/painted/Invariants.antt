use Rattle.mark_anchors.specs.KeyMarks.{ArePaintedFrom, AreJumpsOver}
use Rattle.mark_anchors.proofs.key_marks.painted.Given as goal

abbrev pub invariant-loop-number : goal.invariant-loop-number
invariant-loop-number l = record {
  over : AreJumpsOver l.jumps.items l.numbers.items;
  painted : ArePaintedFrom l.places l.marks l.number l.numbers.items;
}
