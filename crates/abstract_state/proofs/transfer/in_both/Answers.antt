use Rattle.abstract_state.specs.Quantity.{Contains}
use Rattle.abstract_state.proofs.Options.{at_some}
use Rattle.abstract_state.proofs.transfer.in_both.Goals as goal

pub returns-clause-contains : goal.returns-clause-contains
returns-clause-contains c = λ lengths x a b.
    c.same.ensures.contains lengths x
    (at_some (λ q. Contains q lengths x) _ _ c.in_ok-first.was a)
    (at_some (λ q. Contains q lengths x) _ _ c.in_ok-second.was b)
