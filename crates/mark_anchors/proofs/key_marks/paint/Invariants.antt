use Rattle.std.proofs.Common.{◌-◌, ◌≤◌}
use Rattle.mark_anchors.specs.KeyMarks.{IsFree, AreJumpsOver}
use Rattle.mark_anchors.proofs.Painting.{IsFilled}
use Rattle.mark_anchors.proofs.key_marks.paint.Given as goal

abbrev pub invariant-loop-index : goal.invariant-loop-index
invariant-loop-index l = record {
  low : l.from ≤ l.index;
  over : AreJumpsOver l.jumps.items l.numbers.items;
  free : IsFree l.jumps.items l.index;
  filled : IsFilled l.fn.numbers.items l.numbers.items l.from l.index l.to l.number;
}

abbrev pub decreases-loop-index : goal.decreases-loop-index
decreases-loop-index l = l.to - l.index
