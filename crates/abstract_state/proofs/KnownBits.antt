-- The known bits of one number, and of the numbers of an interval.
use Rattle.std.proofs.Common.{◌≡◌, ℕ, suc, ◌/◌, ◌%◌, ◌^◌, ◌<◌, ◌≤◌, ⊎_elim, min, max, refl, sym, ap, ◌∙◌, arith}
use Rattle.std.proofs.Math.Nat.{div-eq_of_lt, pow-le-pow_right}
use Rattle.std.proofs.Math.Pow.{pow-lt}
use Rattle.std.proofs.lemmas.Nat.{pow_pos}
use Rattle.std.proofs.lemmas.Bool.{cases_lt}
use Rattle.std.proofs.lemmas.Grind.{common_steps}
use Rattle.known_bits.specs.declared.Bits.{Bits}
use Rattle.known_bits.specs.Bits.{bit, most, IsConstant, MapsBoth, KnowsBoth}
use Rattle.known_bits.proofs.BitLaws.{bit-lt, bit-zero, bit-or, same}
use Rattle.known_bits.proofs.Members.{Fit, has_value, has_most, apart, constant_is, all_known}
use Rattle.abstract_state.specs.Quantity.{InBits, KnowsHigh}
use Rattle.abstract_state.specs.Exact.{HasBits}

-- one number has all its bits known
pub one_bits : (b : Bits) (n : ℕ) → b.unknown ≡ 0 → InBits b n → HasBits b n n
one_bits b n none inside = (inside, λ k. (λ e. refl, λ e. ap (λ (m : ℕ). bit m k) none ∙ bit-zero k))

pub bits_one : (b : Bits) (n : ℕ) → HasBits b n n → b.unknown ≡ 0
bits_one b n h = all_known b (λ k. (h.1 k).1 refl)

pub bits_value : (b : Bits) (n : ℕ) → HasBits b n n → b.value ≡ n
bits_value b n h = sym (constant_is b n (bits_one b n h) h.0)

pub one_constant : (b : Bits) (n : ℕ) → n < 2 ^ 64 → IsConstant b n → HasBits b n n
one_constant b n fits is = one_bits b n is.1 (record { fits = fits; agrees = λ k e. ap (λ (m : ℕ). bit m k) (sym is.0) })

-- where each known bit stays, one number stays
pub one_kept : (a b : Bits) (n : ℕ) → HasBits a n n → ((k : ℕ) → bit a.unknown k ≡ 0 → (bit b.unknown k ≡ 0) × (bit b.value k ≡ bit a.value k)) → HasBits b n n
one_kept a b n one keeps =
    let all = λ (k : ℕ). keeps k ((one.1 k).1 refl) in
    let value : b.value ≡ n = same b.value a.value (λ k. (all k).1) ∙ bits_value a n one in
    one_constant b n one.0.fits (value, all_known b (λ k. (all k).0))

one_known : (v m a : ℕ) → min v m ≡ 0 → v < 2 → m < 2 → v ≡ a → max v m ≡ a → m ≡ 0
one_known v m a d p q e f = grind arith

-- what is known of all is known of some
pub known_within : (a r : Bits) → Fit r → ((x : ℕ) → InBits r x → InBits a x) → (k : ℕ) → bit a.unknown k ≡ 0 → (bit r.unknown k ≡ 0) × (bit r.value k ≡ bit a.value k)
known_within a r f inside k e =
    let least = (inside r.value (has_value r f)).agrees k e in
    let greatest = (inside (most r) (has_most r f)).agrees k e in (
      one_known (bit r.value k) (bit r.unknown k) (bit a.value k) (apart r.value r.unknown r.disjoint k) (bit-lt r.value k) (bit-lt r.unknown k) least (sym (bit-or r.value r.unknown k) ∙ greatest),
      least,
    )

div_le : (a b n : ℕ) → a ≤ b → 0 < n → a / n ≤ b / n
div_le a b n h p = grind (arith, common_steps)

pub between_ends : (low a b high k : ℕ) → low ≤ a → a ≤ b → b ≤ high → low / 2 ^ k ≡ high / 2 ^ k → a / 2 ^ k ≡ b / 2 ^ k
between_ends low a b high k p q r e =
    omega (arith, div_le low a (2 ^ k) p (pow_pos k), div_le a b (2 ^ k) q (pow_pos k), div_le b high (2 ^ k) r (pow_pos k))

div_self : (n : ℕ) → 0 < n → n / n ≡ 1
div_self n p = grind (arith, common_steps)

own_bit : (k : ℕ) → bit (2 ^ k) k ≡ 1
unfolding bit
own_bit k = ap (λ (n : ℕ). n % 2) (div_self (2 ^ k) (pow_pos k))

-- bits of all numbers up to a power of two
pub end_bits : (b : Bits) (limit : ℕ) → (j : ℕ) × (limit ≡ 2 ^ j) → ((x : ℕ) → x ≤ limit → InBits b x) → KnowsHigh b 0 limit → HasBits b 0 limit
end_bits b limit power inside knows = (
  inside 0 (omega arith),
  λ k. (
    λ e.
        ⊎_elim
        (λ (below : k < suc power.0).
        let low : k ≤ power.0 = omega arith in
        let most : 2 ^ k ≤ 2 ^ power.0 = pow-le-pow_right (omega arith) low in
        let within : 2 ^ k ≤ limit = omega (arith, most, power.1) in
        let zero = (inside 0 (omega arith)).agrees k e in
        let one = (inside (2 ^ k) within).agrees k e in
        let bad : 0 ≡ 1 = sym (bit-zero k) ∙ zero ∙ sym one ∙ own_bit k in absurd (omega arith))
        (λ (above : suc power.0 ≤ k).
        let least : 2 ^ power.0 < 2 ^ k = pow-lt above in
        div-eq_of_lt (pow_pos k) ∙ sym (div-eq_of_lt (omega (arith, least, power.1))))
        (cases_lt k (suc power.0)),
    knows k,
  ),
)

-- the operation of two numbers is one number, where each bit that is the same in all results is known
pub made : (a b r : Bits) (m n : ℕ) (f : ℕ → ℕ → ℕ) → HasBits a m m → HasBits b n n → MapsBoth a b r f → KnowsBoth a b r f → HasBits r (f m n) (f m n)
made a b r m n f one two maps knows =
    let left = λ (x : ℕ) (h : InBits a x). constant_is a x (bits_one a m one) h in
    let right = λ (y : ℕ) (h : InBits b y). constant_is b y (bits_one b n two) h in
    one_bits r (f m n)
    (all_known r (λ k. knows k (λ x y x' y' ix iy ix' iy'.
    ap (λ (v : ℕ). bit (f v y) k) (left x ix ∙ sym (left x' ix')) ∙ ap (λ (v : ℕ). bit (f x' v) k) (right y iy ∙ sym (right y' iy')))))
    (maps m n one.0 two.0)

pub most_one : (b : Bits) (n : ℕ) → HasBits b n n → most b ≡ n
most_one b n h =
    let none = bits_one b n h in
    same (most b) b.value (λ k. let zero : bit b.unknown k ≡ 0 = ap (λ (m : ℕ). bit m k) none ∙ bit-zero k in bit-or b.value b.unknown k ∙ omega (arith, zero)) ∙ bits_value b n h
