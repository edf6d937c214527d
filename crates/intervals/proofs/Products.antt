-- Products of numbers of two intervals.
use Rattle.std.proofs.Common.{◌≡◌, ℕ, ◌*◌, ◌%◌, ◌^◌, ◌<◌, ◌≤◌, arith}
use Rattle.intervals.specs.declared.Range.{Range}
use Rattle.intervals.specs.Range.{MapsBoth}

product_above : (a b x y : ℕ) → a ≤ x → b ≤ y → a * b ≤ x * y
product_above a b x y h g = grind arith

-- where the ends are the products of the ends, and no product wraps
pub products : (a b r : Range) → r.low ≡ a.low * b.low → r.high ≡ a.high * b.high → r.high < 2 ^ 64 → MapsBoth a b r (λ x y. x * y % 2 ^ 64)
products a b r el eh fits x y left right =
    let least : a.low * b.low ≤ x * y = product_above _ _ _ _ left.low right.low in
    let most : x * y ≤ a.high * b.high = product_above _ _ _ _ left.high right.high in
    record { low = omega arith; high = omega arith }
