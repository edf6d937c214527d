-- Groups of eight bits in the other order are a number's bytes in the other order.
use Rattle.std.proofs.Common.{◌≡◌, ℕ, zero, suc, ◌+◌, ◌*◌, ◌/◌, ◌%◌, ◌^◌, [], ◌++◌, take, drop, refl, ◌∙◌, subst, arith}
use Rattle.std.proofs.Math.Nat.{pow-succ'}
use Rattle.bit_machine.specs.Bits.{Bits, value, regrouped, swapped}
use Rattle.bit_machine.proofs.Words.{Long, empty, longer, value_below}

-- a number's lowest count bytes in the other order: the lowest becomes the highest
unfoldable pub reversed : ℕ → ℕ → ℕ
reversed zero n = 0
reversed (suc count) n = n % 256 * 256 ^ count + reversed count (n / 256)

pub record IsCut (k n : ℕ) (a : Bits) : Type 0 where
  pub value : value a ≡ value (take k a) + 2 ^ k * value (drop k a)
  pub low : Long k (take k a)
  pub high : Long n (drop k a)

pub cut_at : (k n m : ℕ) (a : Bits) → m ≡ k + n → Long m a → IsCut k n a
unfolding value
cut_at zero n m a e long = record { value = omega arith; low = empty; high = let same : m ≡ n = omega (arith, e) in subst (λ i. Long i a) same long }
cut_at (suc k) n m a e empty = absurd (omega (arith, e))
cut_at (suc k) n m a e (longer {n = j} {rest = rest} b long) =
    let below = cut_at k n j rest (omega (arith, e)) long in
    let v = below.value in
    record { value = rw (pow-succ' 2 k) (omega (arith, v)); low = longer b below.low; high = below.high }

pub joined_value : (k : ℕ) (a done : Bits) → Long k a → value (a ++ done) ≡ value a + 2 ^ k * value done
unfolding value
joined_value k a done empty = omega arith
joined_value k a done (longer {n = j} {rest = rest} b long) = let below = joined_value j rest done long in rw (pow-succ' 2 j) (omega (arith, below))

spread : (p v d : ℕ) → p * (v + 256 * d) ≡ v * p + 256 * p * d
spread p v d = omega arith

regrouped_value : (count : ℕ) (m : ℕ) (a done : Bits) → m ≡ 8 * count → Long m a → value (regrouped count a done) ≡ reversed count (value a) + 256 ^ count * value done
unfolding regrouped reversed
regrouped_value zero m a done e long = omega arith
regrouped_value (suc count) m a done e long =
    let cut = cut_at 8 (8 * count) m a (omega (arith, e)) long in
    let few = value_below 8 (take 8 a) cut.low in
    let whole = cut.value in
    let low : value (take 8 a) ≡ value a % 256 = omega (arith, few, whole) in
    let high : value (drop 8 a) ≡ value a / 256 = omega (arith, few, whole) in
    let first = joined_value 8 (take 8 a) done cut.low in
    let next = regrouped_value count (8 * count) (drop 8 a) (take 8 a ++ done) refl cut.high in
    next ∙ rw (first, high, low, pow-succ' 256 count) (let more = spread (256 ^ count) (value a % 256) (value done) in omega (arith, more))

pub swapped_value : (count : ℕ) (a : Bits) → Long (8 * count) a → value (swapped count a) ≡ reversed count (value a)
unfolding value
swapped_value count a long = regrouped_value count (8 * count) a [] refl long ∙ omega arith
