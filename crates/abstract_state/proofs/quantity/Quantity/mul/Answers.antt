use Rattle.std.proofs.Common.{ℕ, ◌*◌, ◌%◌, ◌^◌, subst, arith}
use Rattle.abstract_state.specs.Quantity.{Within}
use Rattle.abstract_state.proofs.Widths.{product_cut}
use Rattle.abstract_state.proofs.quantity.Quantity.mul.Goals as goal

pub returns-clause-contains : goal.returns-clause-contains
returns-clause-contains c = λ lengths x y a b fa fb.
    subst (λ (n : ℕ). Within c.finish.result lengths n) (product_cut c.args.width (x * y))
    (c.finish.ensures.contains lengths (x * y % 2 ^ 64) (c.unknown.ensures.contains _ (omega arith)) (c.mul.ensures.contains x y a.range b.range) (c.none.ensures.contains lengths _))
