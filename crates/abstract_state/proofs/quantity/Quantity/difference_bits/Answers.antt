use Rattle.std.proofs.Common.{◌≡◌, arith}
use Rattle.abstract_state.proofs.quantity.Quantity.difference_bits.Goals as goal

pub returns-in-Some-Some-clause-contains : goal.returns-in-Some-Some-clause-contains
returns-in-Some-Some-clause-contains c = λ lengths x y a b.
    let ex : x ≡ c.in-Some-Some.a = c.in-Some-Some.ensures.contains lengths x a in
    let ey : y ≡ c.in-Some-Some.b = c.in-Some-Some.ensures'.contains lengths y b in
    (c.constant.ensures.contains _).1 (rw (ex, ey))

pub returns-in_default-clause-contains : goal.returns-in_default-clause-contains
returns-in_default-clause-contains c = λ lengths x y a b. c.unknown.ensures.contains _ (omega arith)
