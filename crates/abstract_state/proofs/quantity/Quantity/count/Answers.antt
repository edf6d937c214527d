use Rattle.std.proofs.Common.{ℕ, subst}
use Rattle.abstract_state.specs.Quantity.{Within}
use Rattle.abstract_state.proofs.Widths.{mask_is, mask_fits}
use Rattle.abstract_state.proofs.quantity.Quantity.count.Goals as goal

pub returns-clause-contains : goal.returns-clause-contains
returns-clause-contains c = λ lengths y b f.
    subst (λ (n : ℕ). Within c.and.result lengths n) (mask_is c.args.width c.mask.result y c.mask.ensures)
    (c.and.ensures.contains lengths y c.mask.result b (c.constant.ensures.contains lengths) f (mask_fits c.args.width c.mask.result c.mask.ensures))
