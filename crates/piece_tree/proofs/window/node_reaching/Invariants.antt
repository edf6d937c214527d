use Rattle.std.proofs.Common.{◌≡◌, ◌<◌, ◌≤◌, length, take}
use Rattle.piece_tree.specs.Nodes.{pieces_of}
use Rattle.piece_tree.proofs.window.node_reaching.Given as goal

abbrev pub invariant-loop-node : goal.invariant-loop-node
invariant-loop-node g l = record {
  start : l.start ≡ length (pieces_of (take l.node l.nodes));
  up_to : l.start ≤ l.place;
  before : 0 < l.node → l.start < l.place;
}
