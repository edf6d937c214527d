use Rattle.std.proofs.Common.{arith}
use Rattle.abstract_state.specs.Lent.{InRange}
use Rattle.abstract_state.specs.Quantity.{InBits}
use Rattle.abstract_state.proofs.Options.{at_some, at_none}
use Rattle.abstract_state.proofs.quantity.Quantity.same.Goals as goal

pub returns-in_err-bits-clause-contains : goal.returns-in_err-bits-clause-contains
returns-in_err-bits-clause-contains c = λ lengths m a b.
    absurd (at_none (λ q. InBits q m) _ c.in_err-bits.was (c.meet.ensures.contains m a.bits b.bits))

pub returns-clause-contains : goal.returns-clause-contains
returns-clause-contains c = λ lengths m a b.
    let bits = at_some (λ q. InBits q m) _ _ c.in_ok-bits.was (c.meet.ensures.contains m a.bits b.bits) in
    let range = at_some (λ r. InRange r m) _ _ c.in_ok-range.was (c.meet-2.ensures.contains m a.range b.range) in
    c.normal.ensures.contains lengths m bits range (c.greater.ensures.contains lengths m m m a.tails b.tails (omega arith) (omega arith))
