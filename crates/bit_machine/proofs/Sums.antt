-- Sums and differences of words are those of numbers.
use Rattle.std.proofs.Common.{◌≡◌, ℕ, ◌+◌, ◌-◌, ◌*◌, ◌%◌, ◌^◌, Bool, true, false, [], ◌∷◌, refl, sym, ◌∙◌, ap, arith}
use Rattle.std.specs.Prelude.{not, map}
use Rattle.std.proofs.Math.Nat.{pow-succ'}
use Rattle.std.proofs.lemmas.Nat.{mod-mul-add}
use Rattle.bit_machine.specs.Bits.{Bits, digit, value, column, carried, ripple, sum, difference, negation, zeros}
use Rattle.bit_machine.proofs.Words.{Long, empty, longer, Alike, none, more, alike_long, value_below, zeros_long, zeros_value}

-- what the last carry counts for, so that no bit is lost
over : Bool → Bits → Bits → ℕ
over carry [] right = digit carry
over carry (a ∷ left) [] = digit carry
over carry (a ∷ left) (b ∷ right) = over (carried a b carry) left right

column_is : (a b carry : Bool) → digit (column a b carry) + 2 * digit (carried a b carry) ≡ digit a + digit b + digit carry
column_is false false false = refl
column_is false false true = refl
column_is false true false = refl
column_is false true true = refl
column_is true false false = refl
column_is true false true = refl
column_is true true false = refl
column_is true true true = refl

ripple_is : (n : ℕ) (carry : Bool) (left right : Bits) → Alike n left right → over carry left right * 2 ^ n + value (ripple carry left right) ≡ value left + value right + digit carry
unfolding over value ripple
ripple_is n carry left right none = omega arith
ripple_is n carry left right (more {n = m} {left = p} {right = q} a b alike) =
    let rest : over (carried a b carry) p q * 2 ^ m + value (ripple (carried a b carry) p q) ≡ value p + value q + digit (carried a b carry) = ripple_is m (carried a b carry) p q alike in
    let here = column_is a b carry in
    rw (pow-succ' 2 m) (omega (arith, rest, here))

pub ripple_long : (n : ℕ) (carry : Bool) (left right : Bits) → Alike n left right → Long n (ripple carry left right)
unfolding ripple
ripple_long n carry left right none = empty
ripple_long n carry left right (more {n = m} {left = p} {right = q} a b alike) = longer (column a b carry) (ripple_long m (carried a b carry) p q alike)

-- a sum is taken modulo 2^n
pub ripple_value : (n : ℕ) (carry : Bool) (left right : Bits) → Alike n left right → value (ripple carry left right) ≡ (value left + value right + digit carry) % 2 ^ n
ripple_value n carry left right alike =
    let fits = value_below n (ripple carry left right) (ripple_long n carry left right alike) in
    sym (mod-mul-add (over carry left right) (2 ^ n) (value (ripple carry left right)) fits) ∙ ap (λ k. k % 2 ^ n) (ripple_is n carry left right alike)

-- ---- the complement
pub complement_is : (n : ℕ) (a : Bits) → Long n a → value (map not a) + value a + 1 ≡ 2 ^ n
unfolding value
complement_is n a empty = omega arith
complement_is n a (longer {n = m} {rest = rest} false long) = let below = complement_is m rest long in rw (pow-succ' 2 m) (omega (arith, below))
complement_is n a (longer {n = m} {rest = rest} true long) = let below = complement_is m rest long in rw (pow-succ' 2 m) (omega (arith, below))

alike_not : (n : ℕ) (left right : Bits) → Alike n left right → Alike n left (map not right)
alike_not n left right none = none
alike_not n left right (more {n = m} {left = p} {right = q} a b alike) = more a (not b) (alike_not m p q alike)

right_long : (n : ℕ) (left right : Bits) → Alike n left right → Long n right
right_long n left right none = empty
right_long n left right (more {n = m} {left = p} {right = q} a b alike) = longer b (right_long m p q alike)

pub difference_value : (n : ℕ) (left right : Bits) → Alike n left right → value (difference left right) ≡ (value left + (2 ^ n - value right)) % 2 ^ n
difference_value n left right alike =
    let whole = complement_is n right (right_long n left right alike) in
    let same : value left + value (map not right) + 1 ≡ value left + (2 ^ n - value right) = omega (arith, whole) in
    ripple_value n true left (map not right) (alike_not n left right alike) ∙ ap (λ k. k % 2 ^ n) same

pub difference_long : (n : ℕ) (left right : Bits) → Alike n left right → Long n (difference left right)
difference_long n left right alike = ripple_long n true left (map not right) (alike_not n left right alike)

-- ---- of words of n bits
pub sum_is : (n : ℕ) (a b : Bits) → Long n a → Long n b → value (sum a b) ≡ (value a + value b) % 2 ^ n
sum_is n a b la lb =
    let same : value a + value b + 0 ≡ value a + value b = omega arith in
    ripple_value n false a b (alike_long n a b la lb) ∙ ap (λ k. k % 2 ^ n) same

pub difference_is : (n : ℕ) (a b : Bits) → Long n a → Long n b → value (difference a b) ≡ (value a + (2 ^ n - value b)) % 2 ^ n
difference_is n a b la lb = difference_value n a b (alike_long n a b la lb)

pub negation_is : (n : ℕ) (a : Bits) → Long n a → value (negation a) ≡ (2 ^ n - value a) % 2 ^ n
negation_is n a long =
    let empty_word : value (zeros a) ≡ 0 = zeros_value a in
    let same : value (zeros a) + (2 ^ n - value a) ≡ 2 ^ n - value a = omega (arith, empty_word) in
    difference_is n (zeros a) a (zeros_long n a long) long ∙ ap (λ k. k % 2 ^ n) same

pub negation_long : (n : ℕ) (a : Bits) → Long n a → Long n (negation a)
negation_long n a long = difference_long n (zeros a) a (alike_long n (zeros a) a (zeros_long n a long) long)
