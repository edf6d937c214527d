use Rattle.std.proofs.Common.{◌≡◌, ℕ, ◌-◌, ◌<◌, ◌≤◌, ◌↔◌, length}
use Rattle.mark_anchors.specs.KeyMarks.{IsFree, NoneFree, AreJumps}
use Rattle.mark_anchors.proofs.key_marks.next_free.Given as goal

abbrev pub invariant-loop-index : goal.invariant-loop-index
invariant-loop-index l = record {
  jumps : AreJumps l.jumps.items;
  sized : length l.jumps.items ≡ length l.fn.jumps.items;
  low : l.from ≤ l.index;
  within : l.index < length l.jumps.items;
  same : (j : ℕ) → IsFree l.fn.jumps.items j ↔ IsFree l.jumps.items j;
  passed : NoneFree l.fn.jumps.items l.from l.index;
}

abbrev pub decreases-loop-index : goal.decreases-loop-index
decreases-loop-index l = length l.jumps.items - l.index
