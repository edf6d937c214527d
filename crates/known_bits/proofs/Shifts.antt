-- What the shifts and the low half say, by what they say at one bit.
use Rattle.std.proofs.Common.{◌≡◌, ℕ, ◌+◌, ◌-◌, ◌*◌, ◌/◌, ◌%◌, ◌^◌, ◌<◌, ⊎_elim, min, max, bit_and, sym, ap, ◌∙◌, arith}
use Rattle.std.proofs.lemmas.Nat.{and_comm, and_mask, shr_le}
use Rattle.known_bits.specs.declared.Bits.{Bits}
use Rattle.known_bits.specs.Bits.{bit, Maps, Fixes, most}
use Rattle.known_bits.proofs.BitLaws.{bit-lt, bit-or, bit-mod, bit-shr, shl_cases}
use Rattle.known_bits.proofs.Members.{Fit, apart, apart_from, has_value, has_most}

-- a bit that is the same in the least and the greatest number is known
known_bit : (v m : ℕ) → v < 2 → m < 2 → min v m ≡ 0 → v ≡ max v m → m ≡ 0
known_bit v m a b d h = grind arith

-- ---- to the right
pub shr_apart : (a : Bits) (v m c : ℕ) → v ≡ a.value / 2 ^ c → m ≡ a.unknown / 2 ^ c → bit_and v m ≡ 0
shr_apart a v m c ev em = apart_from _ _ (λ k. rw (ev, em) (simp bit-shr (apart a.value a.unknown a.disjoint (c + k))))

pub shr_contains : (a r : Bits) (c : ℕ) → r.value ≡ a.value / 2 ^ c → r.unknown ≡ a.unknown / 2 ^ c → Maps a r (λ x. x / 2 ^ c)
shr_contains a r c ev em x ca = record {
  fits = omega (arith, shr_le x c, ca.fits);
  agrees = λ k e. bit-shr x c k ∙ ca.agrees (c + k) (sym (bit-shr a.unknown c k) ∙ sym (ap (λ n. bit n k) em) ∙ e) ∙ sym (bit-shr a.value c k) ∙ sym (ap (λ n. bit n k) ev);
}

pub shr_knows : (a : Bits) (m c : ℕ) → Fit a → m ≡ a.unknown / 2 ^ c → (k : ℕ) → Fixes a k (λ x. x / 2 ^ c) → bit m k ≡ 0
shr_knows a m c f em k same_bit =
    let e : bit a.value (c + k) ≡ max (bit a.value (c + k)) (bit a.unknown (c + k)) =
    sym (bit-shr a.value c k) ∙ same_bit a.value (most a) (has_value a f) (has_most a f) ∙ bit-shr (most a) c k ∙ bit-or a.value a.unknown (c + k) in
    ap (λ n. bit n k) em ∙ bit-shr a.unknown c k ∙ known_bit _ _ (bit-lt _ _) (bit-lt _ _) (apart _ _ a.disjoint (c + k)) e

-- ---- to the left
pub shl_apart : (a : Bits) (v m c : ℕ) → v ≡ a.value * 2 ^ c % 2 ^ 64 → m ≡ a.unknown * 2 ^ c % 2 ^ 64 → bit_and v m ≡ 0
shl_apart a v m c ev em =
    apart_from _ _
    (λ k.
    rw (ev, em)
    (⊎_elim
    (λ (none : (n : ℕ) → bit (n * 2 ^ c % 2 ^ 64) k ≡ 0). omega (arith, none a.value))
    (λ (some : (n : ℕ) → bit (n * 2 ^ c % 2 ^ 64) k ≡ bit n (k - c)). simp some (apart a.value a.unknown a.disjoint (k - c)))
    (shl_cases c k)))

pub shl_contains : (a r : Bits) (c : ℕ) → r.value ≡ a.value * 2 ^ c % 2 ^ 64 → r.unknown ≡ a.unknown * 2 ^ c % 2 ^ 64 → Maps a r (λ x. x * 2 ^ c % 2 ^ 64)
shl_contains a r c ev em x ca = record {
  fits = omega arith;
  agrees = λ k e.
      rw ev
      (⊎_elim
      (λ (none : (n : ℕ) → bit (n * 2 ^ c % 2 ^ 64) k ≡ 0). none x ∙ sym (none a.value))
      (λ (some : (n : ℕ) → bit (n * 2 ^ c % 2 ^ 64) k ≡ bit n (k - c)).
      some x ∙ ca.agrees (k - c) (sym (some a.unknown) ∙ sym (ap (λ n. bit n k) em) ∙ e) ∙ sym (some a.value))
      (shl_cases c k));
}

pub shl_knows : (a : Bits) (m c : ℕ) → Fit a → m ≡ a.unknown * 2 ^ c % 2 ^ 64 → (k : ℕ) → Fixes a k (λ x. x * 2 ^ c % 2 ^ 64) → bit m k ≡ 0
shl_knows a m c f em k same_bit =
    ⊎_elim
    (λ (none : (n : ℕ) → bit (n * 2 ^ c % 2 ^ 64) k ≡ 0). ap (λ n. bit n k) em ∙ none a.unknown)
    (λ (some : (n : ℕ) → bit (n * 2 ^ c % 2 ^ 64) k ≡ bit n (k - c)).
    let e : bit a.value (k - c) ≡ max (bit a.value (k - c)) (bit a.unknown (k - c)) =
    sym (some a.value) ∙ same_bit a.value (most a) (has_value a f) (has_most a f) ∙ some (most a) ∙ bit-or a.value a.unknown (k - c) in
    ap (λ n. bit n k) em ∙ some a.unknown ∙ known_bit _ _ (bit-lt _ _) (bit-lt _ _) (apart _ _ a.disjoint (k - c)) e)
    (shl_cases c k)

-- ---- the low half
low_apart_bit : (v m t : ℕ) → min v m ≡ 0 → v < 2 → m < 2 → t < 2 → min (min v t) (min m t) ≡ 0
low_apart_bit v m t d a b c = grind arith

low_agrees_bit : (v m t x : ℕ) → v < 2 → m < 2 → t < 2 → x < 2 → (m ≡ 0 → x ≡ v) → min m t ≡ 0 → min x t ≡ min v t
low_agrees_bit v m t x a b c d e h = grind arith

low_knows_bit : (v m t : ℕ) → v < 2 → m < 2 → t < 2 → min v m ≡ 0 → min v t ≡ min (max v m) t → min m t ≡ 0
low_knows_bit v m t a b c d h = grind arith

-- the words of `low32`
pub low_word : (n : ℕ) → bit_and n 4294967295 ≡ n % 2 ^ 32
low_word n = and_mask n 32

pub low_word_of : (n : ℕ) → bit_and 4294967295 n ≡ n % 2 ^ 32
low_word_of n = and_comm 4294967295 n ∙ and_mask n 32

pub ruleset low_words = (low_word, low_word_of)

pub low_apart : (a : Bits) (v m : ℕ) → v ≡ a.value % 2 ^ 32 → m ≡ a.unknown % 2 ^ 32 → bit_and v m ≡ 0
low_apart a v m ev em =
    apart_from _ _ (λ k. rw (ev, em, bit-mod, bit-mod) (low_apart_bit _ _ _ (apart _ _ a.disjoint k) (bit-lt _ k) (bit-lt _ k) (bit-lt _ k)))

pub low_contains : (a r : Bits) → r.value ≡ a.value % 2 ^ 32 → r.unknown ≡ a.unknown % 2 ^ 32 → Maps a r (λ x. x % 2 ^ 32)
low_contains a r ev em x ca = record {
  fits = omega arith;
  agrees = λ k e.
      let known : min (bit a.unknown k) (bit 4294967295 k) ≡ 0 = sym (bit-mod a.unknown 32 k) ∙ sym (ap (λ n. bit n k) em) ∙ e in
      bit-mod x 32 k ∙ low_agrees_bit _ _ _ _ (bit-lt _ k) (bit-lt _ k) (bit-lt 4294967295 k) (bit-lt x k) (ca.agrees k) known ∙ sym (bit-mod a.value 32 k) ∙ sym (ap (λ n. bit n k) ev);
}

pub low_knows : (a : Bits) (m : ℕ) → Fit a → m ≡ a.unknown % 2 ^ 32 → (k : ℕ) → Fixes a k (λ x. x % 2 ^ 32) → bit m k ≡ 0
low_knows a m f em k same_bit =
    let e : min (bit a.value k) (bit 4294967295 k) ≡ min (max (bit a.value k) (bit a.unknown k)) (bit 4294967295 k) =
    sym (bit-mod a.value 32 k) ∙ same_bit a.value (most a) (has_value a f) (has_most a f) ∙ bit-mod (most a) 32 k ∙ ap (λ n. min n (bit 4294967295 k)) (bit-or a.value a.unknown k) in
    ap (λ n. bit n k) em ∙ bit-mod a.unknown 32 k ∙ low_knows_bit _ _ _ (bit-lt _ k) (bit-lt _ k) (bit-lt 4294967295 k) (apart _ _ a.disjoint k) e
