-- A number of which all that is known of a second is known too.
use Rattle.std.specs.Prelude.{◌≡◌, ◌⊎◌, ℕ, ◌+◌, ◌≤◌, Option, Some, None}
use Rattle.known_bits.specs.Bits.{bit}
use Rattle.known_bits.specs.KnownBits.{KnownBits}
use Rattle.intervals.specs.Interval.{Interval}
use Rattle.abstract_state.specs.Estimate.{Estimate}
use Rattle.abstract_state.specs.Situation.{Least}

-- each bit that the second knows, the first knows, and as the same
abbrev pub AreBitsWithin : KnownBits → KnownBits → Type 0
AreBitsWithin a b = (k : ℕ) → bit b.unknown k ≡ 0 → (bit a.unknown k ≡ 0) × (bit a.ones k ≡ bit b.ones k)

-- the first interval begins no earlier, and ends no later
abbrev pub IsIntervalWithin : Interval → Interval → Type 0
IsIntervalWithin a b = (b.low ≤ a.low) × (a.high ≤ b.high)

-- the second's tail, if it has one, is no more than the first's, or than what the region has at least past the first's
-- greatest number
abbrev pub IsTailWithin : (least high : ℕ) → Option ℕ → Option ℕ → Type 0
IsTailWithin least high t None = Unit {0}
IsTailWithin least high None (Some u) = high + u ≤ least
IsTailWithin least high (Some t) (Some u) = (u ≤ t) ⊎ (high + u ≤ least)

-- where the first's regions have at least so many bytes
pub record IsNumberWithin (least : Least) (a b : Estimate) : Type 0 where
  pub bits : AreBitsWithin a.bits b.bits
  pub range : IsIntervalWithin a.range b.range
  pub text : IsTailWithin least.text a.range.high a.tails.text b.tails.text
  pub link : IsTailWithin least.link a.range.high a.tails.link b.tails.link
