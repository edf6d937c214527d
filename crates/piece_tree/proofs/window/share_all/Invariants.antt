use Rattle.std.proofs.Common.{◌≡◌, ◌++◌, take}
use Rattle.piece_tree.proofs.window.share_all.Given as goal

abbrev pub invariant-loop-piece : goal.invariant-loop-piece
invariant-loop-piece g l = l.to.items ≡ l.initial.to.items ++ take l.piece-index l.pieces
