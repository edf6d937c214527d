use Rattle.std.proofs.Common.{◌-◌, ◌^◌}
use Rattle.semantics.specs.Value.{bits_of}
use Rattle.abstract_state.proofs.Widths.{complement_fits}
use Rattle.abstract_state.proofs.quantity.Quantity.sub.Goals as goal

pub returns-in-Some-clause-contains : goal.returns-in-Some-clause-contains
returns-in-Some-clause-contains c = λ lengths x y a b fa fb.
    let added = c.in-Some.ensures.contains lengths y b fb in
    c.in_both.ensures.contains lengths _
    (c.plus.ensures.contains lengths x (2 ^ bits_of c.args.width - y) a added.1 fa (complement_fits c.args.width y added.0))
    (c.minus.ensures.contains lengths x y a b fa fb)

pub returns-in-Some-2-clause-contains : goal.returns-in-Some-2-clause-contains
returns-in-Some-2-clause-contains c = λ lengths x y a b fa fb.
    let added = c.in-Some-2.ensures.contains lengths y b fb in
    c.plus-in-Some-2.ensures.contains lengths x (2 ^ bits_of c.args.width - y) a added.1 fa (complement_fits c.args.width y added.0)
