use Rattle.piece_tree.proofs.Walking.{rest_some}
use Rattle.piece_tree.proofs.iter.PiecesFromIterator.next.Goals as goal

pub invariant_of-self-2 : goal.invariant_of-self-2
invariant_of-self-2 g c =
    rest_some c.self.inside.nodes.now c.in_ok-node.nodes.now c.in_ok-node.node.now c.in_ok-node.ensures.cases.0 c.self.invariant
