use Rattle.piece_tree.proofs.Walking.{rest_some}
use Rattle.format_runs.proofs.iter.RunsFrom.next_part.Goals as goal

pub invariant_of-self-2 : goal.invariant_of-self-2
invariant_of-self-2 c = rest_some c.self.inside.pieces c.next.new.self c.in_ok-piece.piece.now c.in_ok-piece.ensures.steps c.self.invariant
