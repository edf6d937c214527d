use Rattle.std.proofs.Common.{◌≡◌, ◌<◌, length, take, sum_by}
use Rattle.piece_tree.specs.Nodes.{pieces_of}
use Rattle.piece_tree.specs.declared.piece.Measure.TheVariants.{Parts, Characters}
use Rattle.piece_tree.proofs.spot.spot_in.Given as goal

abbrev pub invariant-loop-node : goal.invariant-loop-node
invariant-loop-node g l = record {
  counted : l.index ≡ length (pieces_of (take l.node-index l.nodes));
  parts : l.parts ≡ sum_by (g.T.Piece.size Parts) (pieces_of (take l.node-index l.nodes));
  characters : l.characters ≡ sum_by (g.T.Piece.size Characters) (pieces_of (take l.node-index l.nodes));
  before : 0 < l.index → sum_by (g.T.Piece.size l.measure) (pieces_of (take l.node-index l.nodes)) < l.place;
}
