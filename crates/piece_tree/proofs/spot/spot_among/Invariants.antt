use Rattle.std.proofs.Common.{◌≡◌, ◌<◌, take, sum_by}
use Rattle.piece_tree.specs.declared.piece.Measure.TheVariants.{Parts, Characters}
use Rattle.piece_tree.proofs.spot.spot_among.Given as goal

abbrev pub invariant-loop-index : goal.invariant-loop-index
invariant-loop-index g l = record {
  parts : l.parts ≡ sum_by (g.T.Piece.size Parts) (take l.index l.pieces);
  characters : l.characters ≡ sum_by (g.T.Piece.size Characters) (take l.index l.pieces);
  before : 0 < l.index → sum_by (g.T.Piece.size l.measure) (take l.index l.pieces) < l.place;
}
