-- Which numbers some known bits contain: the least, the greatest, and what lies between.
use Rattle.std.proofs.Common.{◌≡◌, ℕ, ◌-◌, ◌^◌, ◌<◌, ◌≤◌, ⊎_elim, min, max, bit_and, refl, sym, ap, ◌∙◌, arith}
use Rattle.std.proofs.lemmas.Nat.{or_lt, and_le_r}
use Rattle.std.proofs.lemmas.Bool.{cases_lt}
use Rattle.known_bits.specs.declared.Bits.{Bits}
use Rattle.known_bits.specs.Bits.{bit, Contains, most}
use Rattle.known_bits.proofs.BitLaws.{bit-lt, bit-zero, bit-and, bit-or, bit-above, same, bit-max}

-- both words have 64 bits
pub record Fit (b : Bits) : Type 0 where
  pub value : b.value < 2 ^ 64
  pub unknown : b.unknown < 2 ^ 64

pub fit : (b : Bits) → b.value < 2 ^ 64 → b.unknown < 2 ^ 64 → Fit b
fit b h g = record { value = h; unknown = g }

-- two words that share no bit
pub apart : (v m : ℕ) → bit_and v m ≡ 0 → (k : ℕ) → min (bit v k) (bit m k) ≡ 0
apart v m h k = sym (bit-and v m k) ∙ ap (λ n. bit n k) h ∙ bit-zero k

pub apart_from : (v m : ℕ) → ((k : ℕ) → min (bit v k) (bit m k) ≡ 0) → bit_and v m ≡ 0
apart_from v m h = same _ _ (λ k. bit-and v m k ∙ h k ∙ sym (bit-zero k))

pub has_value : (b : Bits) → Fit b → Contains b b.value
has_value b f = record { fits = f.value; agrees = λ k e. refl }

pub has_most : (b : Bits) → Fit b → Contains b (most b)
has_most b f = record { fits = or_lt 64 _ _ f.value f.unknown; agrees = λ k e. rw bit-or (omega (arith, bit-lt b.value k)) }

within_most_bit : (v m x : ℕ) → v < 2 → m < 2 → x < 2 → (m ≡ 0 → x ≡ v) → x ≤ max v m
within_most_bit v m x a b c e = grind arith

pub within_most : (b : Bits) (x : ℕ) → Contains b x → (k : ℕ) → bit x k ≤ bit (most b) k
within_most b x c k = rw bit-or (within_most_bit _ _ _ (bit-lt _ k) (bit-lt _ k) (bit-lt x k) (c.agrees k))

value_bit : (v m x : ℕ) → min v m ≡ 0 → v < 2 → m < 2 → x < 2 → (m ≡ 0 → x ≡ v) → min v x ≡ v
value_bit v m x d a b c e = grind arith

pub value_least : (b : Bits) (x : ℕ) → Contains b x → b.value ≤ x
value_least b x c =
    let inside : bit_and b.value x ≡ b.value = same _ _ (λ k. bit-and b.value x k ∙ value_bit _ _ _ (apart _ _ b.disjoint k) (bit-lt b.value k) (bit-lt b.unknown k) (bit-lt x k) (c.agrees k)) in
    omega (arith, and_le_r b.value x)

pub most_greatest : (b : Bits) (x : ℕ) → Contains b x → x ≤ most b
most_greatest b x c =
    let inside : bit_and x (most b) ≡ x = same _ _ (λ k. bit-and x (most b) k ∙ omega (arith, within_most b x c k)) in
    omega (arith, and_le_r x (most b))

pub constant_is : (b : Bits) (x : ℕ) → b.unknown ≡ 0 → Contains b x → x ≡ b.value
constant_is b x e c = same _ _ (λ k. c.agrees k (ap (λ n. bit n k) e ∙ bit-zero k))

pub all_known : (b : Bits) → ((k : ℕ) → bit b.unknown k ≡ 0) → b.unknown ≡ 0
all_known b h = same _ _ (λ k. h k ∙ sym (bit-zero k))

pub any_contains : (r : Bits) → r.unknown ≡ 18446744073709551615 → r.value ≡ 0 → (x : ℕ) → x < 2 ^ 64 → Contains r x
any_contains r em ev x h = record {
  fits = h;
  agrees = λ k e.
      ⊎_elim
      (λ (below : k < 64). let one : bit r.unknown k ≡ 1 = ap (λ n. bit n k) em ∙ bit-max k below in absurd (omega arith))
      (λ (above : 64 ≤ k). rw (ev, bit-zero) (bit-above x k h above))
      (cases_lt k 64);
}

-- the test of `has`, bit by bit
pub has_contains : (b : Bits) (x : ℕ) → Fit b → x < 2 ^ 64 → ((k : ℕ) → k < 64 → min (bit x k) (1 - bit b.unknown k) ≡ bit b.value k) → Contains b x
has_contains b x f h e = record {
  fits = h;
  agrees = λ k z.
      ⊎_elim
      (λ (below : k < 64). let here = e k below in omega (arith, bit-lt x k))
      (λ (above : 64 ≤ k). bit-above x k h above ∙ sym (bit-above b.value k f.value above))
      (cases_lt k 64);
}

has_bit : (v m x : ℕ) → min v m ≡ 0 → v < 2 → m < 2 → x < 2 → (m ≡ 0 → x ≡ v) → min x (1 - m) ≡ v
has_bit v m x d a b c e = grind arith

pub contains_has : (b : Bits) (x : ℕ) → Contains b x → (k : ℕ) → min (bit x k) (1 - bit b.unknown k) ≡ bit b.value k
contains_has b x c k = has_bit _ _ _ (apart _ _ b.disjoint k) (bit-lt b.value k) (bit-lt b.unknown k) (bit-lt x k) (c.agrees k)
