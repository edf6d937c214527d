use Rattle.std.proofs.Common.{◌≡◌, take, sum_by}
use Rattle.piece_tree.proofs.node.size_of.Given as goal

abbrev pub invariant-loop-piece : goal.invariant-loop-piece
invariant-loop-piece g l = l.size ≡ sum_by (g.T.Piece.size l.measure) (take l.piece-index l.pieces)
