use Rattle.std.proofs.Common.{◌≡◌, ℕ, ◌-◌, ◌≤◌, List, [], Some, get_or, subst, ◌∙◌, arith}
use Rattle.std.specs.List.{slice_get}
use Rattle.piece_tree.specs.Nodes.{pieces_of}
use Rattle.piece_tree.proofs.Lists.{before_place, piece_at}
use Rattle.piece_tree.proofs.tree.PieceTree.piece.Goals as goal

pub returns : goal.returns
returns g c =
    let ns : List (List g.row.T.Denot) = c.nodes-nodes.result.now in
    let k : ℕ = c.node_reaching-spot.result.node in
    let o : ℕ = c.args.index - c.node_reaching-spot.result.start in
    let node : List g.row.T.Denot = c.pieces_at.result.now in
    let is : c.index-pieces_at-index.result ≡ get_or (get_or ns k []) o c.index-pieces_at-index.result =
    subst (λ (l : List g.row.T.Denot). c.index-pieces_at-index.result ≡ get_or l o c.index-pieces_at-index.result) c.pieces_at.ensures c.index-pieces_at-index.is in
    let whole : pieces_of ns ≡ c.args.self.now = c.nodes-nodes.ensures.pieces ∙ c.deref-2.ensures ∙ c.self.view_is in
    let low : c.node_reaching-spot.result.start ≤ c.args.index = before_place ns k c.node_reaching-spot.result.start c.args.index c.node_reaching-spot.ensures.start c.node_reaching-spot.ensures.before in
    let here : slice_get (pieces_of ns) c.args.index ≡ Some c.index-pieces_at-index.result =
    piece_at ns k o c.args.index c.index-pieces_at-index.result c.node_reaching-spot.ensures.within
    (omega (arith, c.node_reaching-spot.ensures.reached))
    (omega (arith, c.node_reaching-spot.ensures.start)) is in
    subst (λ (l : List g.row.T.Denot). slice_get l c.args.index ≡ Some c.index-pieces_at-index.result) whole here
