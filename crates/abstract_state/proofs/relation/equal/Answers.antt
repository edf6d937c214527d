use Rattle.std.proofs.Common.{refl}
use Rattle.abstract_state.specs.Quantity.{Contains}
use Rattle.abstract_state.proofs.Options.{at_some, at_none}
use Rattle.abstract_state.proofs.relation.equal.Goals as goal

pub returns-in_err-both-clause-contains : goal.returns-in_err-both-clause-contains
returns-in_err-both-clause-contains c = λ lengths m a b.
    absurd (at_none (λ q. Contains q lengths m) _ c.in_err-both.was (c.same.ensures.contains lengths m a b))

pub returns-clause-contains : goal.returns-clause-contains
returns-clause-contains c = λ lengths m a b.
    let both = at_some (λ q. Contains q lengths m) _ _ c.in_ok-both.was (c.same.ensures.contains lengths m a b) in
    (_, refl, both, both)
