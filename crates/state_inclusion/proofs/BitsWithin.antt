-- Bits of which the least and the greatest number are within others.
use Rattle.std.proofs.Common.{◌≡◌, ℕ, ◌<◌, min, max, sym, ap, ◌∙◌, arith}
use Rattle.known_bits.specs.declared.Bits.{Bits}
use Rattle.known_bits.specs.Bits.{bit, Contains, most}
use Rattle.known_bits.specs.KnownBits.{known_of}
use Rattle.known_bits.proofs.BitLaws.{bit-lt, bit-or}
use Rattle.known_bits.proofs.Members.{apart}
use Rattle.state_inclusion.specs.Numbers.{AreBitsWithin}

-- one bit
known_bit : (v m w : ℕ) → min v m ≡ 0 → v < 2 → m < 2 → v ≡ w → max v m ≡ w → m ≡ 0
known_bit v m w d a b e f = grind arith

pub within_from : (a b : Bits) (x y : ℕ) → x ≡ a.value → y ≡ most a → Contains b x → Contains b y → AreBitsWithin (known_of a) (known_of b)
within_from a b x y is_least is_greatest least greatest k known =
    let low : bit a.value k ≡ bit b.value k = ap (λ (n : ℕ). bit n k) (sym is_least) ∙ least.agrees k known in
    let high = sym (bit-or a.value a.unknown k) ∙ ap (λ (n : ℕ). bit n k) (sym is_greatest) ∙ greatest.agrees k known in
    (known_bit _ _ _ (apart a.value a.unknown a.disjoint k) (bit-lt a.value k) (bit-lt a.unknown k) low high, low)

pub contains_on : (a b : Bits) (x : ℕ) → AreBitsWithin (known_of a) (known_of b) → Contains a x → Contains b x
contains_on a b x within c = record {
  fits = c.fits;
  agrees = λ k known. let w = within k known in c.agrees k w.0 ∙ w.1;
}
