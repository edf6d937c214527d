use Rattle.std.proofs.Common.{◌-◌, ◌^◌, ℕ, subst}
use Rattle.semantics.specs.Value.{bits_of}
use Rattle.abstract_state.specs.Quantity.{Within}
use Rattle.abstract_state.proofs.Widths.{sum_as_difference, complement_fits}
use Rattle.abstract_state.proofs.quantity.Quantity.add.Goals as goal

pub returns-in-Some-clause-contains : goal.returns-in-Some-clause-contains
returns-in-Some-clause-contains c = λ lengths x y a b fa fb.
    let taken = c.in-Some.ensures.contains lengths y b fb in
    c.in_both.ensures.contains lengths _
    (subst (λ (n : ℕ). Within c.minus.result lengths n) (sum_as_difference c.args.width x y fb)
    (c.minus.ensures.contains lengths x (2 ^ bits_of c.args.width - y) a taken.1 fa (complement_fits c.args.width y taken.0)))
    (c.plus.ensures.contains lengths x y a b fa fb)

pub returns-in-Some-2-clause-contains : goal.returns-in-Some-2-clause-contains
returns-in-Some-2-clause-contains c = λ lengths x y a b fa fb.
    let taken = c.in-Some-2.ensures.contains lengths y b fb in
    subst (λ (n : ℕ). Within c.minus-in-Some-2.result lengths n) (sum_as_difference c.args.width x y fb)
    (c.minus-in-Some-2.ensures.contains lengths x (2 ^ bits_of c.args.width - y) a taken.1 fa (complement_fits c.args.width y taken.0))
