-- The high bits that the numbers of an interval have in common.
use Rattle.std.proofs.Common.{◌≡◌, ℕ, suc, ◌+◌, ◌-◌, ◌/◌, ◌%◌, ◌^◌, ◌<◌, ◌≤◌, ⊎_elim, min, bit_and, bit_xor, sym, ap, ◌∙◌, arith}
use lib.Count.{count_leading_zeros}
use Rattle.std.specs.Int.Bits.{xor_self}
use Rattle.std.proofs.Math.Nat.{div-eq_of_lt, pow-le-pow_right}
use Rattle.std.proofs.lemmas.Nat.{leading_top, xor_shr, xor_lt, pow_pos, shr_le, and_mask}
use Rattle.std.proofs.lemmas.Nat.Bits.{ones_shr, bit_at_ones, bit_at_ones_above}
use Rattle.std.proofs.lemmas.Bool.{cases_lt}
use Rattle.std.proofs.lemmas.Grind.{common_steps}
use Rattle.known_bits.specs.declared.Bits.{Bits}
use Rattle.known_bits.specs.Bits.{bit, Contains, IsConstant}
use Rattle.known_bits.specs.KnownBits.{KnownBits, known_of, all_known, common_bits}
use Rattle.known_bits.proofs.BitLaws.{bit-lt, bit-zero, bit-xor, same, bit-and_not, bit-shr}

equal_bit : (a b : ℕ) → a < 2 → b < 2 → (a + b) % 2 ≡ 0 → a ≡ b
equal_bit a b p q h = grind arith

xor_zero : (a b : ℕ) → bit_xor a b ≡ 0 → a ≡ b
xor_zero a b h = same a b (λ k. equal_bit _ _ (bit-lt a k) (bit-lt b k) (sym (bit-xor a b k) ∙ ap (λ n. bit n k) h ∙ bit-zero k))

-- numbers that differ have a leading bit in which they differ
pub differ_lt : (low high : ℕ) → low < 2 ^ 64 → high < 2 ^ 64 → bit_xor low high < 2 ^ 64
differ_lt = xor_lt 64

pub leading_below : (low high : ℕ) → (low ≡ high → ⊥) → low < 2 ^ 64 → high < 2 ^ 64 → count_leading_zeros 64 (bit_xor low high) < 64
leading_below low high differ lf hf =
    let none : bit_xor low high ≡ 0 → ⊥ = λ e. differ (xor_zero low high e) in
    let t = leading_top 64 (bit_xor low high) (omega arith) (xor_lt 64 low high lf hf) in
    omega (arith, t.1)

-- the mask m has the bits up to the leading one, bit t, in which the numbers differ
pub record Leading (low high m : ℕ) : Type 0 where
  pub top : ℕ
  pub mask : m ≡ 2 ^ suc top - 1
  pub least : 2 ^ top ≤ bit_xor low high
  pub most : bit_xor low high < 2 ^ suc top

pub leading : (low high : ℕ) → (low ≡ high → ⊥) → low < 2 ^ 64 → high < 2 ^ 64 → Leading low high (18446744073709551615 / 2 ^ count_leading_zeros 64 (bit_xor low high))
leading low high differ lf hf =
    let none : bit_xor low high ≡ 0 → ⊥ = λ e. differ (xor_zero low high e) in
    let t = leading_top 64 (bit_xor low high) (omega arith) (xor_lt 64 low high lf hf) in
    let within : count_leading_zeros 64 (bit_xor low high) ≤ 64 = omega (arith, t.1) in
    let left : 64 - count_leading_zeros 64 (bit_xor low high) ≡ suc t.0 = omega (arith, t.1) in
    record {
      top = t.0;
      mask = ones_shr 64 (count_leading_zeros 64 (bit_xor low high)) within ∙ ap (λ j. 2 ^ j - 1) left;
      least = t.2;
      most = t.3;
    }

pub mask_lt : (n : ℕ) → 18446744073709551615 / 2 ^ n < 2 ^ 64
mask_lt n = omega (arith, shr_le 18446744073709551615 n)

div_le : (a b n : ℕ) → a ≤ b → 0 < n → a / n ≤ b / n
div_le a b n h p = grind (arith, common_steps)

-- from bit n on, a number between two that agree from there has their bits
same_high : (low high x n : ℕ) → bit_xor low high < 2 ^ n → low ≤ x → x ≤ high → x / 2 ^ n ≡ low / 2 ^ n
same_high low high x n h p q =
    let none : bit_xor (low / 2 ^ n) (high / 2 ^ n) ≡ 0 = sym (xor_shr low high n) ∙ div-eq_of_lt h in
    let one : low / 2 ^ n ≡ high / 2 ^ n = xor_zero _ _ none in
    omega (arith, div_le low x (2 ^ n) p (pow_pos n), div_le x high (2 ^ n) q (pow_pos n))

bit_from : (x y n k : ℕ) → x / 2 ^ n ≡ y / 2 ^ n → n ≤ k → bit x k ≡ bit y k
bit_from x y n k e h =
    let at : k ≡ n + (k - n) = omega arith in
    ap (bit x) at ∙ sym (bit-shr x n (k - n)) ∙ ap (λ m. bit m (k - n)) e ∙ bit-shr y n (k - n) ∙ ap (bit y) (sym at)

low_ones : (n k : ℕ) → k < n → bit (2 ^ n - 1) k ≡ 1
unfolding bit
low_ones n k h = bit_at_ones n k h

low_ones_above : (n k : ℕ) → n ≤ k → bit (2 ^ n - 1) k ≡ 0
unfolding bit
low_ones_above n k h = bit_at_ones_above n k h

known_above : (n k : ℕ) → bit (2 ^ n - 1) k ≡ 0 → n ≤ k
known_above n k z =
    ⊎_elim
    (λ (below : k < n). let one : bit (2 ^ n - 1) k ≡ 1 = low_ones n k below in absurd (omega arith))
    (λ (above : n ≤ k). above)
    (cases_lt k n)

pub between_contains : (r : Bits) (low high m : ℕ) → Leading low high m → low < 2 ^ 64 → high < 2 ^ 64 → m < 2 ^ 64 → r.unknown ≡ m → r.value ≡ bit_and low (18446744073709551615 - m) → (x : ℕ) → low ≤ x → x ≤ high → Contains r x
between_contains r low high m l lf hf mf em ev x p q = record {
  fits = omega arith;
  agrees = λ k e.
      let zero_here : bit m k ≡ 0 = sym (ap (λ n. bit n k) em) ∙ e in
      let from : suc l.top ≤ k = known_above (suc l.top) k (sym (ap (λ n. bit n k) l.mask) ∙ zero_here) in
      let high_same : bit x k ≡ bit low k = bit_from x low (suc l.top) k (same_high low high x (suc l.top) l.most p q) from in
      let value : bit r.value k ≡ min (bit low k) (1 - bit m k) = ap (λ n. bit n k) ev ∙ bit-and_not low m k lf mf in
      omega (arith, bit-lt low k);
}

-- where the numbers agree from bit k on, the leading bit in which they differ is below
agree_below : (d t k : ℕ) → 2 ^ t ≤ d → d < 2 ^ k → suc t ≤ k
agree_below d t k h g =
    ⊎_elim
    (λ (below : t < k). below)
    (λ (above : k ≤ t). let p : 2 ^ k ≤ 2 ^ t = pow-le-pow_right (omega arith) above in absurd (omega arith))
    (cases_lt t k)

quotient_zero : (d n : ℕ) → 0 < n → d / n ≡ 0 → d < n
quotient_zero d n p h = grind (arith, common_steps)

pub between_knows : (low high m : ℕ) → Leading low high m → (k : ℕ) → low / 2 ^ k ≡ high / 2 ^ k → bit m k ≡ 0
between_knows low high m l k e =
    let none : bit_xor low high / 2 ^ k ≡ 0 = xor_shr low high k ∙ ap (λ n. bit_xor n (high / 2 ^ k)) e ∙ xor_self (high / 2 ^ k) in
    let below : suc l.top ≤ k = agree_below _ _ _ l.least (quotient_zero _ _ (pow_pos k) none) in
    ap (λ n. bit n k) l.mask ∙ low_ones_above (suc l.top) k below

-- one number has all its bits in common with itself
pub common_one : (n m : ℕ) → n < 2 ^ 64 → n ≡ m → common_bits n m ≡ all_known n
unfolding common_bits count_leading_zeros
common_one n m fits e =
    let same_word : bit_xor n m ≡ 0 = ap (bit_xor n) (sym e) ∙ xor_self n in
    let none : 18446744073709551615 / 2 ^ count_leading_zeros 64 (bit_xor n m) ≡ 0 = ap (λ d. 18446744073709551615 / 2 ^ count_leading_zeros 64 d) same_word in
    let all : bit_and n (18446744073709551615 - 0) ≡ n = and_mask n 64 ∙ omega arith in
    ap (λ (u : ℕ). known (bit_and n (18446744073709551615 - u)) u) none ∙ ap (λ (o : ℕ). known o 0) all
  where
    known : ℕ → ℕ → KnownBits
    known o u = record { ones = o; unknown = u }

pub known_is : (b : Bits) (n : ℕ) → IsConstant b n → known_of b ≡ all_known n
known_is b n is = cc
