-- Of a number no less is known than of another.
use Rattle.std.specs.Prelude.{◌≡◌, ℕ, ◌^◌, ◌<◌, ◌≤◌, min, Option, Some, None}
use Rattle.bpf_words.specs.declared.instruction.Width.{Width}
use Rattle.semantics.specs.Value.{bits_of}
use Rattle.known_bits.specs.Bits.{bit}
use Rattle.known_bits.specs.KnownBits.{KnownBits, most_bits}
use Rattle.intervals.specs.Interval.{Interval, from_to}
use Rattle.abstract_state.specs.declared.region.Tails.{Tails}
use Rattle.abstract_state.specs.Estimate.{Estimate, normal, no_tails}
use Rattle.abstract_state.specs.Comparing.{Told}

-- each bit that the second knows, the first knows, and as the same
abbrev pub AreBitsWithin : KnownBits → KnownBits → Type 0
AreBitsWithin a b = (k : ℕ) → bit b.unknown k ≡ 0 → (bit a.unknown k ≡ 0) × (bit a.ones k ≡ bit b.ones k)

-- the first interval begins no earlier, and ends no later
abbrev pub IsIntervalWithin : Interval → Interval → Type 0
IsIntervalWithin a b = (b.low ≤ a.low) × (a.high ≤ b.high)

-- where the second has a tail the first has one, which is no less
abbrev pub IsTailWithin : Option ℕ → Option ℕ → Type 0
IsTailWithin t None = Unit {0}
IsTailWithin None (Some u) = ⊥
IsTailWithin (Some t) (Some u) = u ≤ t

abbrev pub AreTailsWithin : Tails → Tails → Type 0
AreTailsWithin a b = IsTailWithin a.text b.text × IsTailWithin a.link b.link

pub record IsWithin (a b : Estimate) : Type 0 where
  pub bits : AreBitsWithin a.bits b.bits
  pub range : IsIntervalWithin a.range b.range
  pub tails : AreTailsWithin a.tails b.tails

-- of both sides of a comparison
abbrev pub IsToldWithin : Told → Told → Type 0
IsToldWithin s t = IsWithin s.left t.left × IsWithin s.right t.right

-- where the second is nothing, since no run comes there, the first is nothing too
abbrev pub IsBelow : {A : Type 0} → (A → A → Type 0) → Option A → Option A → Type 0
IsBelow within None o = Unit {0}
IsBelow within (Some a) None = ⊥
IsBelow within (Some a) (Some b) = within a b

-- ---- what the numbers of a program are
-- two words of 64 bits that share none
pub record AreWords (b : KnownBits) : Type 0 where
  pub ones : b.ones < 2 ^ 64
  pub unknown : b.unknown < 2 ^ 64
  pub apart : (k : ℕ) → min (bit b.ones k) (bit b.unknown k) ≡ 0

pub record IsRange (r : Interval) : Type 0 where
  pub order : r.low ≤ r.high
  pub fits : r.high < 2 ^ 64

-- a tail has 32 bits
abbrev pub IsShort : Option ℕ → Type 0
IsShort None = Unit {0}
IsShort (Some t) = t < 2 ^ 32

abbrev pub AreShort : Tails → Type 0
AreShort tails = IsShort tails.text × IsShort tails.link

-- bits and interval are those of a number of 64 bits, and the interval reaches no further than the bits
pub record IsNumber (a : Estimate) : Type 0 where
  pub words : AreWords a.bits
  pub range : IsRange a.range
  pub least : a.bits.ones ≤ a.range.low
  pub most : a.range.high ≤ most_bits a.bits
  pub short : AreShort a.tails

-- of at most that many bits, by its interval and by its bits
pub record FitsIn (width : Width) (a : Estimate) : Type 0 where
  pub high : a.range.high < 2 ^ bits_of width
  pub most : most_bits a.bits < 2 ^ bits_of width

-- ---- what a join says of a number may be more than what is known of it, since it takes the normal form once more
-- the normal form says no more
abbrev pub IsSettled : Estimate → Type 0
IsSettled a = IsBelow IsWithin (Some a) (normal a.bits a.range a.tails)

-- 3 by its interval, and by its bits at most 3
abbrev pub three_by_range : Estimate
three_by_range = record { bits = record { ones = 0; unknown = 3 }; range = from_to 3 3; tails = no_tails }
