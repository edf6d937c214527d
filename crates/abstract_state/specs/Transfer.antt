-- What an operation makes of what is known of its operands.
use Rattle.std.specs.Prelude.{ℕ, ◌+◌, ◌-◌, ◌*◌, ◌/◌, ◌%◌, ◌^◌, nat_le, nat_lt, ◌&&◌, if◌then◌else◌, Option, Some, None}
use Rattle.std.specs.Prelude.{option_and_then}
use Rattle.std.specs.Option.{option_map_or, option_or}
use Rattle.span_context.specs.declared.profile.Profile.{Profile}
use Rattle.span_context.specs.Profile.{has_more_rules}
use Rattle.bpf_words.specs.declared.instruction.Arithmetic.{Arithmetic}
use Rattle.bpf_words.specs.declared.instruction.Arithmetic.TheVariants as is
use Rattle.bpf_words.specs.declared.instruction.Width.{Width}
use Rattle.known_bits.specs.KnownBits.{KnownBits, all_known, none_known, are_apart, is_covered, bits_of_both}
use Rattle.known_bits.specs.KnownBits.{bits_of_either, bits_of_one, bits_shifted_left, bits_shifted_right}
use Rattle.intervals.specs.Interval.{from_to, every_word, sum_between, difference_between, product_between}
use Rattle.intervals.specs.Interval.{quotient_between, remainder_between, and_between, shifted_left_between}
use Rattle.intervals.specs.Interval.{shifted_right_between}
use Rattle.semantics.specs.Value.{bits_of}
use Rattle.abstract_state.specs.declared.region.Tails.{Tails}
use Rattle.abstract_state.specs.Exact.{tail_after}
use Rattle.abstract_state.specs.Estimate.{Estimate, no_tails, each_tail, both_tails, raised_tail, greater_tail}
use Rattle.abstract_state.specs.Estimate.{normal_cut, operand_cut, constant, unknown, only}
use Rattle.abstract_state.specs.Comparing.{same}

-- ---- sum and difference
-- the bits of f m n where both numbers are known, else none
abbrev pub folded : (ℕ → ℕ → ℕ) → Option ℕ → Option ℕ → KnownBits
folded f None n = none_known
folded f (Some m) None = none_known
folded f (Some m) (Some n) = all_known (f m n)

unfoldable pub sum_bits : Estimate → Estimate → KnownBits
sum_bits a b =
    if are_apart a.bits b.bits
    then bits_of_either a.bits b.bits
    else folded (λ m n. (m + n) % 2 ^ 64) (only a) (only b)

-- the tail of the one number after the other, of at most so much, is added, and the other way round: by more rules
-- the greater of the two, else the first that there is
unfoldable pub sum_tail : Profile → ℕ → ℕ → Option ℕ → Option ℕ → Option ℕ
sum_tail profile high added t u =
    if has_more_rules profile
    then greater_tail (tail_after t added) (tail_after u high)
    else option_or (tail_after t added) (tail_after u high)

unfoldable pub sum : Profile → Width → Estimate → Estimate → Option Estimate
sum profile width a b =
    normal_cut width (sum_bits a b) (sum_between a.range b.range)
    (both_tails (sum_tail profile a.range.high b.range.high) a.tails b.tails)

unfoldable pub difference_bits : Estimate → Estimate → KnownBits
difference_bits a b =
    if is_covered a.bits b.bits
    then bits_of_one a.bits b.bits
    else folded (λ m n. (m + (2 ^ 64 - n)) % 2 ^ 64) (only a) (only b)

-- a difference that isn't negative leaves more up to the end
unfoldable pub difference_tails : Estimate → Estimate → Tails
difference_tails a b =
    if nat_le b.range.high a.range.low then each_tail (raised_tail b.range.low) a.tails else no_tails

unfoldable pub difference : Width → Estimate → Estimate → Option Estimate
difference width a b =
    normal_cut width (difference_bits a b) (difference_between a.range b.range) (difference_tails a b)

-- what a constant lacks to the width, where its sign bit is 1
unfoldable pub complement : Width → Estimate → Option ℕ
complement width b =
    option_and_then
    (λ n. if nat_le (2 ^ bits_of width) (2 * n) && nat_lt n (2 ^ bits_of width)
    then Some (2 ^ bits_of width - n)
    else None)
    (only b)

-- what two forms of one number both say; where they have no number in common, no run comes there
abbrev pub in_both : Option Estimate → Option Estimate → Option Estimate
in_both first second = option_and_then (λ a. option_and_then (same a) second) first

-- by more rules what both forms say, else what the first says
abbrev pub by_both : Profile → Option Estimate → Option Estimate → Option Estimate
by_both profile first second = if has_more_rules profile then in_both first second else first

-- a great constant is taken away as what it lacks, and the other way round; by more rules it is added, or taken away,
-- as it stands too
unfoldable pub added : Profile → Width → Estimate → Estimate → Option Estimate
added profile width a b =
    option_map_or (λ n. by_both profile (difference width a (constant n)) (sum profile width a b)) (complement width b)
    (sum profile width a b)

unfoldable pub taken_away : Profile → Width → Estimate → Estimate → Option Estimate
taken_away profile width a b =
    option_map_or (λ n. by_both profile (sum profile width a (constant n)) (difference width a b)) (complement width b)
    (difference width a b)

-- ---- the others
unfoldable pub of_both : Width → Estimate → Estimate → Option Estimate
of_both width a b =
    normal_cut width (bits_of_both a.bits b.bits) (and_between a.range b.range)
    (both_tails greater_tail a.tails b.tails)

unfoldable pub of_either : Width → Estimate → Estimate → Option Estimate
of_either width a b = normal_cut width (bits_of_either a.bits b.bits) every_word no_tails

unfoldable pub of_one : Width → Estimate → Estimate → Option Estimate
of_one width a b = normal_cut width (bits_of_one a.bits b.bits) every_word no_tails

unfoldable pub product : Width → Estimate → Estimate → Option Estimate
product width a b = normal_cut width none_known (product_between a.range b.range) no_tails

-- by more rules, a number divided by n, not 0, is less by at least as much as its least one
unfoldable pub tails_over : Profile → ℕ → Estimate → Tails
tails_over profile n a =
    if has_more_rules profile then each_tail (raised_tail (a.range.low - a.range.low / n)) a.tails else a.tails

-- where the divisor is known
unfoldable pub quotient_tails : Profile → Estimate → Estimate → Tails
quotient_tails profile a b =
    option_map_or (λ n. if nat_lt 0 n then tails_over profile n a else a.tails) (only b) a.tails

unfoldable pub divided : Profile → Width → Estimate → Estimate → Option Estimate
divided profile width a b =
    normal_cut width none_known (quotient_between a.range b.range) (quotient_tails profile a b)

unfoldable pub remaining : Width → Estimate → Estimate → Option Estimate
remaining width a b = normal_cut width none_known (remainder_between a.range b.range) a.tails

-- ---- shifts, by the low five or six bits of their count
unfoldable pub count : Width → Estimate → Option Estimate
count width b = of_both width b (constant (bits_of width - 1))

-- by what does where the one count is known, else the other
abbrev pub by_count : (ℕ → Option Estimate) → Option Estimate → Width → Estimate → Option Estimate
by_count known other width b = option_and_then (λ n. option_map_or known (only n) other) (count width b)

unfoldable pub shifted_left_by : Width → Estimate → ℕ → Option Estimate
shifted_left_by width a n =
    normal_cut width (bits_shifted_left n a.bits) (shifted_left_between n a.range) no_tails

unfoldable pub shifted_right_by : Profile → Width → Estimate → ℕ → Option Estimate
shifted_right_by profile width a n =
    normal_cut width (bits_shifted_right n a.bits) (shifted_right_between n a.range) (tails_over profile (2 ^ n) a)

-- a shift to the right by a count that isn't known makes a number no greater
unfoldable pub shrunk : Width → Estimate → Option Estimate
shrunk width a = normal_cut width none_known (from_to 0 a.range.high) a.tails

unfoldable pub shifted_left : Width → Estimate → Estimate → Option Estimate
shifted_left width a b = by_count (shifted_left_by width a) (Some (unknown width)) width b

unfoldable pub shifted_right : Profile → Width → Estimate → Estimate → Option Estimate
shifted_right profile width a b = by_count (shifted_right_by profile width a) (shrunk width a) width b

-- with the sign: known where the sign bit is 0
unfoldable pub shifted_signed : Profile → Width → Estimate → Estimate → Option Estimate
shifted_signed profile width a b =
    by_count
    (λ n. if nat_lt (2 * a.range.high) (2 ^ bits_of width)
    then shifted_right_by profile width a n
    else Some (unknown width))
    (Some (unknown width)) width b

-- ---- the table
unfoldable pub applied : Profile → Arithmetic → Width → Estimate → Estimate → Option Estimate
applied profile is.Add width a b = added profile width a b
applied profile is.Sub width a b = taken_away profile width a b
applied profile is.Mul width a b = product width a b
applied profile is.Div width a b = divided profile width a b
applied profile is.Or width a b = of_either width a b
applied profile is.And width a b = of_both width a b
applied profile is.Lsh width a b = shifted_left width a b
applied profile is.Rsh width a b = shifted_right profile width a b
applied profile is.Mod width a b = remaining width a b
applied profile is.Xor width a b = of_one width a b
applied profile is.Mov width a b = normal_cut width b.bits b.range b.tails
applied profile is.Arsh width a b = shifted_signed profile width a b
applied profile is.SignedDiv width a b = Some (unknown width)
applied profile is.SignedMod width a b = Some (unknown width)

-- an operation of 32 bits cuts its operands
unfoldable pub transferred : Profile → Arithmetic → Width → Estimate → Estimate → Option Estimate
transferred profile operation width a b =
    option_and_then (λ x. option_and_then (applied profile operation width x) (operand_cut width b))
    (operand_cut width a)
