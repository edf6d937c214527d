use Rattle.std.proofs.Common.{◌+◌, ◌-◌, ◌%◌, ◌^◌, ℕ, subst}
use Rattle.abstract_state.specs.Quantity.{Within}
use Rattle.abstract_state.proofs.Widths.{difference_cut}
use Rattle.abstract_state.proofs.quantity.Quantity.minus.Goals as goal

pub returns-clause-contains : goal.returns-clause-contains
returns-clause-contains c = λ lengths x y a b fa fb.
    subst (λ (n : ℕ). Within c.finish.result lengths n) (difference_cut c.args.width x y fb)
    (c.finish.ensures.contains lengths ((x + (2 ^ 64 - y)) % 2 ^ 64) (c.difference_bits.ensures.contains lengths x y a b) (c.sub.ensures.contains x y a.range b.range) (c.difference_tails.ensures.contains lengths x y a b))
