-- The order of words is that of numbers.
use Rattle.std.proofs.Common.{◌≡◌, ℕ, ◌+◌, ◌*◌, nat_eq, nat_lt, Bool, true, false, refl, arith}
use Rattle.std.specs.Prelude.{not, nat_le, ◌&&◌, ◌||◌}
use Rattle.std.proofs.lemmas.Bool.Decides.{nat_tests}
use Rattle.bit_machine.specs.Bits.{Bits, digit, value, differ, are_same, is_less}
use Rattle.bit_machine.proofs.Words.{Alike, none, more}

same_step : (a b : Bool) (p q : ℕ) → (not (differ a b) && nat_eq p q) ≡ nat_eq (digit a + 2 * p) (digit b + 2 * q)
same_step false false p q = grind (arith, nat_tests)
same_step false true p q = grind (arith, nat_tests)
same_step true false p q = grind (arith, nat_tests)
same_step true true p q = grind (arith, nat_tests)

less_step : (a b : Bool) (p q : ℕ) → (nat_lt p q || (nat_eq p q && (not a && b))) ≡ nat_lt (digit a + 2 * p) (digit b + 2 * q)
less_step false false p q = grind (arith, nat_tests)
less_step false true p q = grind (arith, nat_tests)
less_step true false p q = grind (arith, nat_tests)
less_step true true p q = grind (arith, nat_tests)

pub same_is : (n : ℕ) (left right : Bits) → Alike n left right → are_same left right ≡ nat_eq (value left) (value right)
unfolding value are_same
same_is n left right none = refl
same_is n left right (more {n = m} {left = p} {right = q} a b alike) = rw (same_is m p q alike) (same_step a b (value p) (value q))

pub less_is : (n : ℕ) (left right : Bits) → Alike n left right → is_less left right ≡ nat_lt (value left) (value right)
unfolding value is_less
less_is n left right none = refl
less_is n left right (more {n = m} {left = p} {right = q} a b alike) = rw (less_is m p q alike, same_is m p q alike) (less_step a b (value p) (value q))

pub not_less : (x y : ℕ) → not (nat_lt x y) ≡ nat_le y x
not_less x y = grind (arith, nat_tests)
