use Rattle.std.proofs.Common.{subst, ℕ, ◌%◌, ◌^◌, arith}
use Rattle.abstract_state.specs.Quantity.{Within}
use Rattle.abstract_state.proofs.Widths.{tails_lower, full_is, narrow_is}
use Rattle.abstract_state.proofs.quantity.Quantity.finish.Goals as goal

pub returns-in-Full-clause-contains : goal.returns-in-Full-clause-contains
returns-in-Full-clause-contains c = λ lengths x b r t.
    subst (λ (n : ℕ). Within c.normal.result lengths n) (full_is c.args.width x c.in-Full.is b.fits) (c.normal.ensures.contains lengths x b r t)

pub returns-in-Narrow-clause-contains : goal.returns-in-Narrow-clause-contains
returns-in-Narrow-clause-contains c = λ lengths x b r t.
    subst (λ (n : ℕ). Within c.normal-in-Narrow.result lengths n) (narrow_is c.args.width x c.in-Narrow.is)
    (c.normal-in-Narrow.ensures.contains lengths (x % 2 ^ 32) (c.low32.ensures.contains x b) (c.low32-in-Narrow.ensures.contains x r) (tails_lower _ lengths x _ t (omega arith)))
