use Rattle.std.proofs.Common.{◌≡◌, ◌≤◌, IfSome, Some, drop, length}
use Rattle.std.specs.List.{slice_get}
use Rattle.piece_tree.specs.Nodes.{pieces_of}
use Rattle.text_pieces.proofs.place.place_behind.Given as goal

abbrev pub invariant-loop-before : goal.invariant-loop-before
invariant-loop-before l = record {
  same : drop l.before (pieces_of (drop l.index l.pieces)) ≡ drop l.characters (pieces_of (drop l.fn.index l.pieces));
  within : l.before ≤ length (pieces_of (drop l.index l.pieces));
  known : IfSome l.known (λ piece. slice_get l.pieces l.index ≡ Some piece.now);
}

abbrev pub decreases-loop-before : goal.decreases-loop-before
decreases-loop-before l = l.before
