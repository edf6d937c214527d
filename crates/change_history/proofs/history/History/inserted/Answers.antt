use Rattle.std.proofs.Common.{arith, ap}
use Rattle.change_ops.specs.Sizes.{most_characters}
use Rattle.change_history.specs.Accepted.{operations_of}
use Rattle.change_history.specs.Chronicle.{Chronicle}
use Rattle.change_history.proofs.Few.{few_inserted}
use Rattle.change_history.proofs.history.History.inserted.Goals as goal

pub returns-clause-few : goal.returns-clause-few
returns-clause-few c =
    let count = c.inserted.ensures.count (operations_of c.self.inside.changes) c.self.invariant.0.kept in
    let few = few_inserted c.self.inside.changes c.self.invariant.0.accepted in
    let same = ap (λ (h : Chronicle). most_characters h.size) c.self.view_is in
    omega (arith, count, few, same)
