-- `and`, `or` and `xor` bit by bit are those of numbers.
use Rattle.std.proofs.Common.{◌≡◌, ℕ, zero, suc, ◌+◌, ◌*◌, ◌/◌, ◌%◌, min, max, bit_and, bit_or, bit_xor, Bool, true, false, refl, sym, ◌∙◌, ap, arith}
use Rattle.std.specs.Prelude.{◌&&◌, ◌||◌}
use Rattle.std.specs.Int.{bit_at}
use Rattle.std.proofs.lemmas.Nat.Bits.{bit_at_lowest, bit_at-suc, bit_at_and, bit_at_or, bit_at_xor, same_from_bits}
use Rattle.bit_machine.specs.Bits.{Bits, digit, value, differ, each}
use Rattle.bit_machine.proofs.Words.{Alike, none, more, digit_few}

lowest : (b : Bool) (n : ℕ) → bit_at (digit b + 2 * n) 0 ≡ digit b
lowest b n = let few = digit_few b in bit_at_lowest (digit b + 2 * n) ∙ omega (arith, few)

above : (b : Bool) (n k : ℕ) → bit_at (digit b + 2 * n) (suc k) ≡ bit_at n k
above b n k = let few = digit_few b in let half : (digit b + 2 * n) / 2 ≡ n = omega (arith, few) in bit_at-suc (digit b + 2 * n) k ∙ ap (λ m. bit_at m k) half

and_digit : (a b : Bool) → min (digit a) (digit b) ≡ digit (a && b)
and_digit false false = refl
and_digit false true = refl
and_digit true false = refl
and_digit true true = refl

and_bit : (a b : Bool) (m n k : ℕ) → bit_at (bit_and (digit a + 2 * m) (digit b + 2 * n)) k ≡ bit_at (digit (a && b) + 2 * bit_and m n) k
and_bit a b m n zero = bit_at_and (digit a + 2 * m) (digit b + 2 * n) 0 ∙ rw (lowest a m, lowest b n) (and_digit a b ∙ sym (lowest (a && b) (bit_and m n)))
and_bit a b m n (suc k) = bit_at_and (digit a + 2 * m) (digit b + 2 * n) (suc k) ∙ rw (above a m k, above b n k) (sym (bit_at_and m n k) ∙ sym (above (a && b) (bit_and m n) k))

and_step : (a b : Bool) (m n : ℕ) → bit_and (digit a + 2 * m) (digit b + 2 * n) ≡ digit (a && b) + 2 * bit_and m n
and_step a b m n = same_from_bits (bit_and (digit a + 2 * m) (digit b + 2 * n)) (digit (a && b) + 2 * bit_and m n) (and_bit a b m n)

pub and_is : (n : ℕ) (left right : Bits) → Alike n left right → value (each (λ a b. a && b) left right) ≡ bit_and (value left) (value right)
unfolding value each
and_is n left right none = refl
and_is n left right (more {n = m} {left = p} {right = q} a b alike) = rw (and_is m p q alike) (sym (and_step a b (value p) (value q)))

or_digit : (a b : Bool) → max (digit a) (digit b) ≡ digit (a || b)
or_digit false false = refl
or_digit false true = refl
or_digit true false = refl
or_digit true true = refl

or_bit : (a b : Bool) (m n k : ℕ) → bit_at (bit_or (digit a + 2 * m) (digit b + 2 * n)) k ≡ bit_at (digit (a || b) + 2 * bit_or m n) k
or_bit a b m n zero = bit_at_or (digit a + 2 * m) (digit b + 2 * n) 0 ∙ rw (lowest a m, lowest b n) (or_digit a b ∙ sym (lowest (a || b) (bit_or m n)))
or_bit a b m n (suc k) = bit_at_or (digit a + 2 * m) (digit b + 2 * n) (suc k) ∙ rw (above a m k, above b n k) (sym (bit_at_or m n k) ∙ sym (above (a || b) (bit_or m n) k))

or_step : (a b : Bool) (m n : ℕ) → bit_or (digit a + 2 * m) (digit b + 2 * n) ≡ digit (a || b) + 2 * bit_or m n
or_step a b m n = same_from_bits (bit_or (digit a + 2 * m) (digit b + 2 * n)) (digit (a || b) + 2 * bit_or m n) (or_bit a b m n)

pub or_is : (n : ℕ) (left right : Bits) → Alike n left right → value (each (λ a b. a || b) left right) ≡ bit_or (value left) (value right)
unfolding value each
or_is n left right none = refl
or_is n left right (more {n = m} {left = p} {right = q} a b alike) = rw (or_is m p q alike) (sym (or_step a b (value p) (value q)))

xor_digit : (a b : Bool) → (digit a + digit b) % 2 ≡ digit (differ a b)
xor_digit false false = refl
xor_digit false true = refl
xor_digit true false = refl
xor_digit true true = refl

xor_bit : (a b : Bool) (m n k : ℕ) → bit_at (bit_xor (digit a + 2 * m) (digit b + 2 * n)) k ≡ bit_at (digit (differ a b) + 2 * bit_xor m n) k
xor_bit a b m n zero = bit_at_xor (digit a + 2 * m) (digit b + 2 * n) 0 ∙ rw (lowest a m, lowest b n) (xor_digit a b ∙ sym (lowest (differ a b) (bit_xor m n)))
xor_bit a b m n (suc k) = bit_at_xor (digit a + 2 * m) (digit b + 2 * n) (suc k) ∙ rw (above a m k, above b n k) (sym (bit_at_xor m n k) ∙ sym (above (differ a b) (bit_xor m n) k))

xor_step : (a b : Bool) (m n : ℕ) → bit_xor (digit a + 2 * m) (digit b + 2 * n) ≡ digit (differ a b) + 2 * bit_xor m n
xor_step a b m n = same_from_bits (bit_xor (digit a + 2 * m) (digit b + 2 * n)) (digit (differ a b) + 2 * bit_xor m n) (xor_bit a b m n)

pub xor_is : (n : ℕ) (left right : Bits) → Alike n left right → value (each differ left right) ≡ bit_xor (value left) (value right)
unfolding value each
xor_is n left right none = refl
xor_is n left right (more {n = m} {left = p} {right = q} a b alike) = rw (xor_is m p q alike) (sym (xor_step a b (value p) (value q)))
