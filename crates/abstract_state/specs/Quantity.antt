-- Which numbers a quantity contains.
use Rattle.std.specs.Prelude.{◌≡◌, ℕ, ◌<◌, ◌/◌, ◌^◌, ◌≤◌, min, max, Option, Some, IfSome}
use Rattle.known_bits.specs.declared.Bits.{Bits}
use Rattle.intervals.specs.declared.Range.{Range}
use Rattle.abstract_state.specs.declared.region.Region.{Region}
use Rattle.abstract_state.specs.declared.region.Tails.{Tails}
use Rattle.known_bits.specs.Bits as known
use Rattle.bpf_words.specs.declared.instruction.Width.{Width}
use Rattle.semantics.specs.Value.{bits_of}
use Rattle.abstract_state.specs.declared.quantity.Quantity.{Quantity}
use Rattle.abstract_state.specs.Lent.{Lengths, tail_of, HasTails, InRange}

abbrev pub InBits : Bits → ℕ → Type 0
InBits b x = known.Contains b x

-- x agrees with the known bits, lies in the interval, and has the tails
pub record Contains (q : Quantity) (lengths : Lengths) (x : ℕ) : Type 0 where
  pub bits : InBits q.bits x
  pub range : InRange q.range x
  pub tails : HasTails q.tails lengths x

-- x is in the quantity, which is there
abbrev pub Within : Option Quantity → Lengths → ℕ → Type 0
Within o lengths x = (q : Quantity) × (o ≡ Some q) × Contains q lengths x

-- x has as many bits as the width
abbrev pub Fits : Width → ℕ → Type 0
Fits width x = x < 2 ^ bits_of width

-- the result contains f x for each x of a that has the width
abbrev pub Maps : Width → Quantity → Option Quantity → (ℕ → ℕ) → Type 0
Maps width a o f = (lengths : Lengths) (x : ℕ) → Contains a lengths x → Fits width x → Within o lengths (f x)

-- the result contains f x y for each x of a and y of b that have the width
abbrev pub MapsBoth : Width → Quantity → Quantity → Option Quantity → (ℕ → ℕ → ℕ) → Type 0
MapsBoth width a b o f =
    (lengths : Lengths) (x y : ℕ) → Contains a lengths x → Contains b lengths y → Fits width x → Fits width y
    → Within o lengths (f x y)

-- the answer lies within the interval, and keeps the tails
abbrev pub Narrows : Option Quantity → Range → Tails → Type 0
Narrows o range tails = IfSome o (λ q. (range.low ≤ q.range.low) × (q.range.high ≤ range.high) × (q.tails ≡ tails))

-- the high bits that low and high have in common are known
abbrev pub KnowsHigh : Bits → ℕ → ℕ → Type 0
KnowsHigh b low high = (k : ℕ) → low / 2 ^ k ≡ high / 2 ^ k → known.bit b.unknown k ≡ 0

-- each known bit stays known, as the same
abbrev pub KeepsBits : Option Quantity → Bits → Type 0
KeepsBits o bits =
    IfSome o (λ q. (k : ℕ) → known.bit bits.unknown k ≡ 0
    → (known.bit q.bits.unknown k ≡ 0) × (known.bit q.bits.value k ≡ known.bit bits.value k))

-- the interval lies between the least and the greatest number of the bits
abbrev pub LiesInBits : Quantity → Type 0
LiesInBits q = (q.bits.value ≤ q.range.low) × (q.range.high ≤ known.most q.bits)

-- nothing that both know is lost: the interval reaches no further than both, a bit that both know as the same is known,
-- and for each region the lesser of two tails stays
pub record JoinsNumber (a b c : Quantity) : Type 0 where
  pub low : min a.range.low b.range.low ≤ c.range.low
  pub high : c.range.high ≤ max a.range.high b.range.high
  pub bits : (k : ℕ) → known.bit a.bits.unknown k ≡ 0 → known.bit b.bits.unknown k ≡ 0
      → known.bit a.bits.value k ≡ known.bit b.bits.value k → known.bit c.bits.unknown k ≡ 0
  pub tails : (region : Region) (t u : ℕ) → tail_of a.tails region ≡ Some t → tail_of b.tails region ≡ Some u
      → (v : ℕ) × (tail_of c.tails region ≡ Some v) × (min t u ≤ v)
