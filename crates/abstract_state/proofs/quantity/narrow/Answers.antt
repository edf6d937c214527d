use Rattle.abstract_state.specs.Lent.{InRange}
use Rattle.abstract_state.proofs.Options.{at_some, at_none}
use Rattle.abstract_state.proofs.quantity.narrow.Goals as goal

pub returns-in_err-above-clause-contains : goal.returns-in_err-above-clause-contains
returns-in_err-above-clause-contains c = λ lengths x b r t.
    absurd (at_none (λ q. InRange q x) _ c.in_err-above.was (c.at_least.ensures.contains x r (c.least.ensures.least x b)))

pub returns-in_err-between-clause-contains : goal.returns-in_err-between-clause-contains
returns-in_err-between-clause-contains c = λ lengths x b r t.
    let above = at_some (λ q. InRange q x) _ _ c.in_ok-above.was (c.at_least.ensures.contains x r (c.least.ensures.least x b)) in
    absurd (at_none (λ q. InRange q x) _ c.in_err-between.was (c.at_most.ensures.contains x above (c.greatest.ensures.greatest x b)))

pub returns-clause-contains : goal.returns-clause-contains
returns-clause-contains c = λ lengths x b r t.
    let above = at_some (λ q. InRange q x) _ _ c.in_ok-above.was (c.at_least.ensures.contains x r (c.least.ensures.least x b)) in
    let between = at_some (λ q. InRange q x) _ _ c.in_ok-between.was (c.at_most.ensures.contains x above (c.greatest.ensures.greatest x b)) in
    c.narrow.ensures.contains lengths x between t
