use Rattle.std.proofs.Common.{◌≡◌, take, sum_by}
use Rattle.piece_tree.specs.Nodes.{pieces_of}
use Rattle.piece_tree.proofs.tree.size_of_nodes.Given as goal

abbrev pub invariant-loop-node : goal.invariant-loop-node
invariant-loop-node g l = l.size ≡ sum_by (g.T.Piece.size l.measure) (pieces_of (take l.node-index l.nodes))
