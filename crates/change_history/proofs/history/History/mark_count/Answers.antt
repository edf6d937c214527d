use Rattle.std.proofs.Common.{arith, ap}
use Rattle.change_ops.specs.Sizes.{most_marks}
use Rattle.change_history.specs.Accepted.{operations_of}
use Rattle.change_history.specs.Chronicle.{Chronicle}
use Rattle.change_history.proofs.Few.{few_mark_count}
use Rattle.change_history.proofs.history.History.mark_count.Goals as goal

pub returns-clause-few : goal.returns-clause-few
returns-clause-few c =
    let count = c.mark_count.ensures.count (operations_of c.self.inside.changes) c.self.invariant.0.kept in
    let few = few_mark_count c.self.inside.changes c.self.invariant.0.accepted in
    let same = ap (λ (h : Chronicle). most_marks h.size) c.self.view_is in
    omega (arith, count, few, same)
