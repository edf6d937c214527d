use Rattle.piece_tree.proofs.Walking.{rest_some}
use Rattle.format_runs.proofs.iter.RunsFromIterator.next.Goals as goal

pub invariant_of-self-2 : goal.invariant_of-self-2
invariant_of-self-2 c = rest_some c.self.inside.pieces c.next.new.self c.in_ok-next.field-0.now c.in_ok-next.ensures.steps c.self.invariant
