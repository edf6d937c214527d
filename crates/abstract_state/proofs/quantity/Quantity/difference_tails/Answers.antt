use Rattle.std.proofs.Common.{◌≡◌, ◌≤◌, ◌<◌, ◌+◌, ◌-◌, ◌%◌, ◌^◌, ℕ, subst, arith}
use Rattle.abstract_state.specs.Lent.{HasTails}
use Rattle.abstract_state.proofs.quantity.Quantity.difference_tails.Goals as goal

pub returns-then-self-other-clause-contains : goal.returns-then-self-other-clause-contains
returns-then-self-other-clause-contains c = λ lengths x y a b. c.none.ensures.contains lengths _

pub returns-clause-contains : goal.returns-clause-contains
returns-clause-contains c = λ lengths x y a b.
    let low : c.args.self.range.low ≤ x = a.range.low in
    let high : y ≤ c.args.other.range.high = b.range.high in
    let small : x < 2 ^ 64 = a.bits.fits in
    let is : x - y ≡ (x + (2 ^ 64 - y)) % 2 ^ 64 = omega arith in
    let whole : x ≡ x - y + y = omega arith in
    subst (λ (n : ℕ). HasTails c.difference.result lengths n) is
    (c.difference.ensures.contains lengths (x - y) y (subst (λ (n : ℕ). HasTails c.args.self.tails lengths n) whole a.tails) b.range.low)
