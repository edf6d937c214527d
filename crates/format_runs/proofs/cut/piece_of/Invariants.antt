use Rattle.std.proofs.Common.{◌≡◌, ◌≤◌, ◌-◌, length, take, drop}
use Rattle.std.specs.Vec.Iter.{into_iter_items}
use Rattle.format_runs.proofs.cut.piece_of.Given as goal

abbrev pub invariant-loop-left : goal.invariant-loop-left
invariant-loop-left l = record {
  few : length l.part.items ≤ l.size;
  taken : l.part.items ≡ take (length l.part.items) (into_iter_items l.initial.left);
  rest : into_iter_items l.left ≡ drop (length l.part.items) (into_iter_items l.initial.left);
}

abbrev pub decreases-loop-left : goal.decreases-loop-left
decreases-loop-left l = l.size - length l.part.items
