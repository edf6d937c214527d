-- What a comparison that holds, or doesn't, tells of both its sides.
use Rattle.std.specs.Prelude.{ℕ, ◌+◌, ◌-◌, ◌^◌, nat_lt, nat_eq, ◌&&◌, if◌then◌else◌, min, max}
use Rattle.std.specs.Prelude.{Bool, true, false, Option, Some, None, option_map, option_and_then}
use Rattle.std.specs.Option.{option_map_or}
use Rattle.bpf_words.specs.declared.instruction.Width.{Width}
use Rattle.bpf_words.specs.declared.instruction.Comparison.{Comparison}
use Rattle.bpf_words.specs.declared.instruction.Comparison.TheVariants as is
use Rattle.known_bits.specs.KnownBits.{merged_bits}
use Rattle.intervals.specs.Interval.{Interval, some_between}
use Rattle.semantics.specs.Value.{bits_of}
use Rattle.abstract_state.specs.declared.relation.Relation.{Relation}
use Rattle.abstract_state.specs.declared.relation.Relation.TheVariants.{Less, AtMost, Same, Apart, AtLeast, Greater}
use Rattle.abstract_state.specs.declared.relation.Sides.{Sides}
use Rattle.abstract_state.specs.Estimate.{Estimate, estimate_of, each_tail, both_tails, raised_tail, greater_tail}
use Rattle.abstract_state.specs.Estimate.{normal, only}

-- what is known of both sides
pub record Told : Type 0 where
  pub left : Estimate
  pub right : Estimate

abbrev pub told_of : Sides → Told
told_of s = record { left = estimate_of s.left; right = estimate_of s.right }

abbrev pub told : Estimate → Estimate → Told
told left right = record { left = left; right = right }

-- an estimate with another interval, in normal form, if a number is left in it
abbrev pub within : Estimate → Option Interval → Option Estimate
within a range = option_and_then (λ r. normal a.bits r a.tails) range

-- both sides, if there are both
abbrev pub both_told : Option Estimate → Option Estimate → Option Told
both_told left right = option_and_then (λ x. option_map (told x) right) left

-- ---- the left side, and n more, is at most the right side
-- the left one ends by n before the right one's end, and n farther from each region's end
unfoldable pub below : ℕ → Estimate → Estimate → Option Estimate
below n x y =
    if nat_lt y.range.high n
    then None
    else option_and_then (λ r. normal x.bits r (both_tails greater_tail x.tails (each_tail (raised_tail n) y.tails)))
    (some_between x.range.low (min x.range.high (y.range.high - n)))

-- the right one begins n behind the left one's begin
unfoldable pub above : ℕ → Estimate → Estimate → Option Estimate
above n y x = within y (some_between (max y.range.low (x.range.low + n)) y.range.high)

unfoldable pub ordered : ℕ → Estimate → Estimate → Option Told
ordered n x y = both_told (below n x y) (above n y x)

-- the other way round
abbrev pub turned : Option Told → Option Told
turned o = option_map (λ t. told t.right t.left) o

-- ---- both are equal: what both know of the one number
unfoldable pub same : Estimate → Estimate → Option Estimate
same x y =
    option_and_then (λ bits.
    option_and_then (λ r. normal bits r (both_tails greater_tail x.tails y.tails))
    (some_between (max x.range.low y.range.low) (min x.range.high y.range.high)))
    (merged_bits x.bits y.bits)

-- ---- they differ: an end that is the other's one number moves inward by one
abbrev pub without_end : Interval → ℕ → Option Interval
without_end r n =
    some_between (if nat_eq r.low n then r.low + 1 else r.low) (if nat_eq r.high n then r.high - 1 else r.high)

unfoldable pub apart : Estimate → Estimate → Option Estimate
apart x y = within x (option_map_or (without_end x.range) (only y) (Some x.range))

-- ---- the table
unfoldable pub refined : Relation → Estimate → Estimate → Option Told
refined Less x y = ordered 1 x y
refined AtMost x y = ordered 0 x y
refined Same x y = option_map (λ both. told both both) (same x y)
refined Apart x y = both_told (apart x y) (apart y x)
refined AtLeast x y = turned (ordered 0 y x)
refined Greater x y = turned (ordered 1 y x)

-- the relation of the sides where the comparison holds, or where it doesn't
unfoldable pub relation_of : Comparison → Bool → Option Relation
relation_of is.Equal true = Some Same
relation_of is.Equal false = Some Apart
relation_of is.Greater true = Some Greater
relation_of is.Greater false = Some AtMost
relation_of is.GreaterOrEqual true = Some AtLeast
relation_of is.GreaterOrEqual false = Some Less
relation_of is.AnyBit taken = None
relation_of is.NotEqual true = Some Apart
relation_of is.NotEqual false = Some Same
relation_of is.SignedGreater true = Some Greater
relation_of is.SignedGreater false = Some AtMost
relation_of is.SignedGreaterOrEqual true = Some AtLeast
relation_of is.SignedGreaterOrEqual false = Some Less
relation_of is.Less true = Some Less
relation_of is.Less false = Some AtLeast
relation_of is.LessOrEqual true = Some AtMost
relation_of is.LessOrEqual false = Some Greater
relation_of is.SignedLess true = Some Less
relation_of is.SignedLess false = Some AtLeast
relation_of is.SignedLessOrEqual true = Some AtMost
relation_of is.SignedLessOrEqual false = Some Greater

-- numbers below this one stand to one another as the comparison reads them: those of the width, or of a test with sign
-- those whose sign bit is 0
unfoldable pub reach : Width → Comparison → ℕ
reach width is.SignedGreater = 2 ^ (bits_of width - 1)
reach width is.SignedGreaterOrEqual = 2 ^ (bits_of width - 1)
reach width is.SignedLess = 2 ^ (bits_of width - 1)
reach width is.SignedLessOrEqual = 2 ^ (bits_of width - 1)
reach width other = 2 ^ bits_of width

-- both sides on an edge; as they are where the comparison says nothing of such numbers
unfoldable pub told_on : Width → Comparison → Bool → Estimate → Estimate → Option Told
told_on width comparison taken x y =
    if nat_lt x.range.high (reach width comparison) && nat_lt y.range.high (reach width comparison)
    then option_map_or (λ r. refined r x y) (relation_of comparison taken) (Some (told x y))
    else Some (told x y)
