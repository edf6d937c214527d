use Rattle.std.proofs.Common.{◌≡◌, sym, ◌∙◌}
use Rattle.abstract_state.specs.Lent.{InRange}
use Rattle.abstract_state.proofs.Options.{at_some, at_none}
use Rattle.abstract_state.proofs.quantity.Quantity.apart.Goals as goal

pub returns-in_default-clause-contains : goal.returns-in_default-clause-contains
returns-in_default-clause-contains c = λ lengths m n a b h. c.normal.ensures.contains lengths m a.bits a.range a.tails

pub returns-in_err-range-clause-contains : goal.returns-in_err-range-clause-contains
returns-in_err-range-clause-contains c = λ lengths m n a b h.
    let one : n ≡ c.in-Some.n = c.in-Some.ensures.contains lengths n b in
    absurd (at_none (λ r. InRange r m) _ c.in_err-range.was (c.without.ensures.contains m a.range (λ e. h (e ∙ sym one))))

pub returns-clause-contains : goal.returns-clause-contains
returns-clause-contains c = λ lengths m n a b h.
    let one : n ≡ c.in-Some.n = c.in-Some.ensures.contains lengths n b in
    let range = at_some (λ r. InRange r m) _ _ c.in_ok-range.was (c.without.ensures.contains m a.range (λ e. h (e ∙ sym one))) in
    c.normal-2.ensures.contains lengths m a.bits range a.tails
