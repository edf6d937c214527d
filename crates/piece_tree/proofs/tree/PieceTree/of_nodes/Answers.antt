use Rattle.std.proofs.Common.{arith}
use Rattle.piece_tree.proofs.Filled.{filled_narrow}
use Rattle.piece_tree.proofs.tree.PieceTree.of_nodes.Goals as goal

pub returns-in_err-root-clause-spent : goal.returns-in_err-root-clause-spent
returns-in_err-root-clause-spent g c = omega (arith, filled_narrow c.args.nodes.items c.requires.filled, c.requires.counted, c.pay.ensures, c.len.ensures)

pub returns-clause-spent : goal.returns-clause-spent
returns-clause-spent g c = omega (arith, filled_narrow c.args.nodes.items c.requires.filled, c.requires.counted, c.pay.ensures, c.len.ensures)
