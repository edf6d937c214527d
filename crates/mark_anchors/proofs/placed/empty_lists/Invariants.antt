use Rattle.std.proofs.Common.{◌≡◌, length}
use Rattle.mark_anchors.proofs.Rows.{AreBare}
use Rattle.mark_anchors.proofs.placed.empty_lists.Given as goal

abbrev pub invariant-loop-row : goal.invariant-loop-row
invariant-loop-row l = record { sized : length l.lists.items ≡ l._row; bare : AreBare l.lists.items }
