use Rattle.std.proofs.Common.{◌≡◌, ℕ, subst, arith}
use Rattle.abstract_state.specs.Lent.{HasTails}
use Rattle.abstract_state.proofs.Widths.{tails_lower, quotient_le, quotient_is}
use Rattle.abstract_state.proofs.quantity.Quantity.quotient_tails.Goals as goal

pub returns-in-Some-clause-contains : goal.returns-in-Some-clause-contains
returns-in-Some-clause-contains c = λ lengths x y a b.
    let is : y ≡ c.in-Some.divisor = c.in-Some.ensures.contains lengths y b in
    subst (λ (n : ℕ). HasTails c.tails_over.result lengths n) (quotient_is x y c.in-Some.divisor is (omega arith))
    (c.tails_over.ensures.contains lengths x a)

pub returns-in_default-clause-contains : goal.returns-in_default-clause-contains
returns-in_default-clause-contains c = λ lengths x y a b. tails_lower _ lengths x _ a.tails (quotient_le x y)
