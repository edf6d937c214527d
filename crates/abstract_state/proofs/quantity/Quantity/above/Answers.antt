use Rattle.std.proofs.Common.{◌≤◌, arith}
use Rattle.abstract_state.specs.Lent.{InRange}
use Rattle.abstract_state.proofs.Options.{at_some}
use Rattle.abstract_state.proofs.quantity.Quantity.above.Goals as goal

pub returns-clause-contains : goal.returns-clause-contains
returns-clause-contains c = λ lengths m n b a h.
    let least : c.args.other.range.low ≤ m = a.range.low in
    let range = at_some (λ r. InRange r n) _ _ c.in_ok-range.was (c.at_least.ensures.contains n b.range (omega arith)) in
    c.normal.ensures.contains lengths n b.bits range b.tails
