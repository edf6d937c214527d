use Rattle.std.proofs.Common.{◌≡◌, ◌++◌, take}
use Rattle.piece_tree.proofs.window.share_nodes.Given as goal

abbrev pub invariant-loop-node : goal.invariant-loop-node
invariant-loop-node g l = l.to.items ≡ l.initial.to.items ++ take l.node-index l.nodes
