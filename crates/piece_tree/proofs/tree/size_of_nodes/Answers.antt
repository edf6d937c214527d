use Rattle.std.proofs.Common.{◌≡◌, ℕ, ◌+◌, ◌<◌, List, [], length, get_or, ap, arith, sum_by}
use Rattle.std.proofs.lemmas.List.{get_or_default}
use Rattle.piece_tree.proofs.Shorts.{sums_more, sums_within}
use Rattle.piece_tree.proofs.tree.size_of_nodes.Goals as goal

pub overflow_add-size : goal.overflow_add-size
overflow_add-size g c =
    let ns : List (List g.row.T.Denot) = c.args.nodes.now in
    let k : ℕ = c.loop-node.node-index in
    let lt : k < length ns = c.loop-node-test.true in
    let same : get_or ns k c.node-item.result ≡ get_or ns k [] = get_or_default ns k c.node-item.result [] lt in
    omega (
      arith,
      c.requires,
      c.loop-node.invariant,
      c.size-size.ensures,
      ap (λ (l : List g.row.T.Denot). sum_by (g.T.Piece.size c.args.measure) l) c.node-item.is,
      ap (λ (l : List g.row.T.Denot). sum_by (g.T.Piece.size c.args.measure) l) same,
      sums_more (g.T.Piece.size c.args.measure) ns k lt,
      sums_within (g.T.Piece.size c.args.measure) ns (k + 1),
    )
