use Rattle.std.proofs.Common.{length, ◌-◌}
use Rattle.piece_tree.proofs.Cutting.{AreCut, ArePaid}
use Rattle.piece_tree.proofs.window.cut.Given as goal

abbrev pub invariant-loop-at : goal.invariant-loop-at
invariant-loop-at g l = record {
  cut : AreCut l.pieces l.nodes.items l.at;
  paid : ArePaid l.nodes.items l.at l.initial.budget l.budget;
}

abbrev pub decreases-loop-at : goal.decreases-loop-at
decreases-loop-at g l = length l.pieces - l.at
