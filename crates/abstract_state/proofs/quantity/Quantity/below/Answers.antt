use Rattle.std.proofs.Common.{◌≤◌, arith}
use Rattle.abstract_state.specs.Lent.{InRange}
use Rattle.abstract_state.proofs.Options.{at_some}
use Rattle.abstract_state.proofs.quantity.Quantity.below.Goals as goal

pub returns-clause-contains : goal.returns-clause-contains
returns-clause-contains c = λ lengths m n a b h.
    let most : n ≤ c.args.other.range.high = b.range.high in
    let range = at_some (λ r. InRange r m) _ _ c.in_ok-range.was (c.at_most.ensures.contains m a.range (omega arith)) in
    c.normal.ensures.contains lengths m a.bits range (c.greater.ensures.contains lengths m m m a.tails (c.raised.ensures.contains lengths m n b.tails h) (omega arith) (omega arith))
