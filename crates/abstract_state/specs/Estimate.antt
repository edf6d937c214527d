-- What is known of a number, as the rules take it, and its normal form.
use Rattle.std.specs.Prelude.{ℕ, ◌+◌, ◌-◌, ◌^◌, nat_le, nat_eq, if◌then◌else◌, min, max, Option, Some, None}
use Rattle.std.specs.Prelude.{option_map, option_and_then}
use Rattle.bpf_words.specs.declared.instruction.Width.{Width}
use Rattle.bpf_words.specs.declared.instruction.Width.TheVariants.{Narrow, Full}
use Rattle.known_bits.specs.KnownBits.{KnownBits, known_of, most_bits, all_known, common_bits, low_bits, agreed_bits}
use Rattle.known_bits.specs.KnownBits.{merged_bits}
use Rattle.intervals.specs.Interval.{Interval, interval_of, from_to, some_between, low_between, hull_of}
use Rattle.semantics.specs.Value.{bits_of}
use Rattle.abstract_state.specs.declared.region.Region.{Region}
use Rattle.abstract_state.specs.declared.region.Region.TheVariants.{Text, Link}
use Rattle.abstract_state.specs.declared.region.Tails.{Tails}
use Rattle.abstract_state.specs.declared.quantity.Quantity.{Quantity}
use Rattle.abstract_state.specs.Lent.{limit_of}

-- known bits, an interval, and for each region a tail, if there is one: number and tail are together at most the
-- region's length
pub record Estimate : Type 0 where
  pub bits : KnownBits
  pub range : Interval
  pub tails : Tails

abbrev pub estimate_of : Quantity → Estimate
estimate_of q = record { bits = known_of q.bits; range = interval_of q.range; tails = q.tails }

-- ---- tails
abbrev pub no_tails : Tails
no_tails = record { text = None; link = None }

-- the numbers up to a region's length have the tail 0
abbrev pub tails_ending : Region → Tails
tails_ending Text = record { text = Some 0; link = None }
tails_ending Link = record { text = None; link = Some 0 }

abbrev pub each_tail : (Option ℕ → Option ℕ) → Tails → Tails
each_tail f a = record { text = f a.text; link = f a.link }

abbrev pub both_tails : (Option ℕ → Option ℕ → Option ℕ) → Tails → Tails → Tails
both_tails f a b = record { text = f a.text b.text; link = f a.link b.link }

-- of a number that is less by n; a tail has 32 bits, the greatest of which is past each region's limit
abbrev pub raised_tail : ℕ → Option ℕ → Option ℕ
raised_tail n None = None
raised_tail n (Some t) = Some (min (t + n) (2 ^ 32 - 1))

-- of a number that is no more than either of two: the greater one, or the one that is known
abbrev pub greater_tail : Option ℕ → Option ℕ → Option ℕ
greater_tail None u = u
greater_tail (Some t) None = Some t
greater_tail (Some t) (Some u) = Some (max t u)

-- of a number that may be either of two: the lesser one, where both are known
abbrev pub lesser_tail : Option ℕ → Option ℕ → Option ℕ
lesser_tail None u = None
lesser_tail (Some t) None = None
lesser_tail (Some t) (Some u) = Some (min t u)

-- ---- the normal form
-- the interval up to where the tail ends at the limit, if a number is left; a tail past the limit leaves none
unfoldable pub under_tail : ℕ → Option ℕ → Interval → Option Interval
under_tail limit None range = Some range
under_tail limit (Some t) range = if nat_le t limit then some_between range.low (min range.high (limit - t)) else None

unfoldable pub under_tails : Tails → Interval → Option Interval
under_tails tails range =
    option_and_then (under_tail (limit_of Link) tails.link) (under_tail (limit_of Text) tails.text range)

-- the interval cut to what the bits and the tails allow, if a number is left
unfoldable pub narrowed : KnownBits → Interval → Tails → Option Interval
narrowed bits range tails =
    option_and_then (under_tails tails) (some_between (max range.low bits.ones) (min range.high (most_bits bits)))

-- what is left of an interval after the bits and the tails have narrowed it, once bits are known
abbrev pub settled : Tails → Interval → KnownBits → Option Estimate
settled tails range bits =
    option_map (λ last. record { bits = bits; range = last; tails = tails }) (narrowed bits range tails)

-- the interval is narrowed, then the bits by what the interval's ends have in common, then the interval once more;
-- where nothing is left, no run comes there
unfoldable pub normal : KnownBits → Interval → Tails → Option Estimate
normal bits range tails =
    option_and_then
    (λ first. option_and_then (settled tails first) (merged_bits bits (common_bits first.low first.high)))
    (narrowed bits range tails)

-- the normal form of a result of the width: of 32 bits the low half
unfoldable pub normal_cut : Width → KnownBits → Interval → Tails → Option Estimate
normal_cut Full bits range tails = normal bits range tails
normal_cut Narrow bits range tails = normal (low_bits bits) (low_between range) tails

-- an operand of an operation of the width
unfoldable pub operand_cut : Width → Estimate → Option Estimate
operand_cut Full a = Some a
operand_cut Narrow a = normal_cut Narrow a.bits a.range a.tails

-- ---- some numbers
abbrev pub constant : ℕ → Estimate
constant n = record { bits = all_known n; range = from_to n n; tails = no_tails }

-- each number up to n
abbrev pub up_to : ℕ → Estimate
up_to n = record { bits = common_bits 0 n; range = from_to 0 n; tails = no_tails }

-- each number of the width
abbrev pub unknown : Width → Estimate
unknown width = up_to (2 ^ bits_of width - 1)

-- each number up to n that is up to the region's length
abbrev pub up_to_end : Region → ℕ → Option Estimate
up_to_end region n = normal (common_bits 0 n) (from_to 0 n) (tails_ending region)

-- the one number, where there is one
unfoldable pub only : Estimate → Option ℕ
only a = if nat_eq a.range.low a.range.high then Some a.range.low else None

-- what either may be
unfoldable pub joined : Estimate → Estimate → Option Estimate
joined a b = normal (agreed_bits a.bits b.bits) (hull_of a.range b.range) (both_tails lesser_tail a.tails b.tails)
