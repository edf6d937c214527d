use Rattle.std.proofs.Common.{ℕ, ◌+◌, ◌<◌, ◌≤◌, List, length, sym, subst, ◌∙◌, arith}
use Rattle.std.specs.List.{All}
use Rattle.piece_tree.proofs.Lists.{before_place}
use Rattle.piece_tree.proofs.Walking.{left_from, some_from}
use Rattle.piece_tree.proofs.Windows.{to_end}
use Rattle.piece_tree.proofs.tree.PieceTree.pieces_from.Goals as goal

pub invariant_of-result-2 : goal.invariant_of-result-2
invariant_of-result-2 g c =
    let ns : List (List g.row.T.Denot) = c.nodes-nodes.result.now in
    let k : ℕ = c.node_reaching-spot.result.node in
    subst (λ (l : List (List g.row.T.Denot)). All (λ (node : List g.row.T.Denot). 0 < length node) l) (sym (to_end ns (k + 1)))
    (some_from ns (k + 1) c.nodes-nodes.ensures.filled)

pub returns : goal.returns
returns g c =
    let ns : List (List g.row.T.Denot) = c.nodes-nodes.result.now in
    let k : ℕ = c.node_reaching-spot.result.node in
    let start : ℕ = c.node_reaching-spot.result.start in
    let low : start ≤ c.args.index = before_place ns k start c.args.index c.node_reaching-spot.ensures.start c.node_reaching-spot.ensures.before in
    left_from ns c.pieces_at.result.now c.args.self.now k start c.args.index c.node_reaching-spot.ensures.within c.node_reaching-spot.ensures.start low
    (omega (arith, c.node_reaching-spot.ensures.reached)) c.pieces_at.ensures (c.nodes-nodes.ensures.pieces ∙ c.deref-2.ensures ∙ c.self.view_is)
