-- Each operation on numbers gives a number of its width.
use Rattle.std.proofs.Common.{◌≡◌, ℕ, ◌-◌, ◌*◌, ◌/◌, ◌^◌, ◌<◌, ◌≤◌, nat_le, nat_lt, if◌then◌else◌, Bool, true, false, Option, Some, None, refl, sym, subst, arith, min}
use Rattle.std.specs.Prelude.{option_and_then}
use Rattle.std.specs.Option.{option_map_or}
use Rattle.std.proofs.Math.Nat.{div-le_self}
use Rattle.span_context.specs.declared.profile.Profile.{Profile}
use Rattle.span_context.specs.Profile.{has_more_rules}
use Rattle.bpf_words.specs.declared.instruction.Arithmetic.{Arithmetic}
use Rattle.bpf_words.specs.declared.instruction.Arithmetic.TheVariants as is
use Rattle.bpf_words.specs.declared.instruction.Width.{Width}
use Rattle.semantics.specs.Value.{bits_of}
use Rattle.known_bits.specs.KnownBits.{KnownBits, none_known, bits_of_both, bits_of_either, bits_of_one, bits_shifted_left, bits_shifted_right}
use Rattle.intervals.specs.Interval.{Interval, from_to, every_word, difference_between, product_between, quotient_between, remainder_between, and_between, shifted_left_between, shifted_right_between}
use Rattle.abstract_state.specs.declared.region.Tails.{Tails}
use Rattle.abstract_state.specs.Estimate.{Estimate, no_tails, both_tails, greater_tail, normal_cut, operand_cut, constant, up_to, unknown, only}
use Rattle.abstract_state.specs.Transfer.{sum, difference, difference_bits, difference_tails, complement, by_both, added, taken_away, of_both, of_either, of_one, product, tails_over, quotient_tails, divided, remaining, count, shifted_left_by, shifted_right_by, shrunk, shifted_left, shifted_right, shifted_signed, applied, transferred}
use Rattle.guarded_rules.specs.Facts.{Number, Any, AtMost}
use Rattle.guarded_rules.specs.Keeps.{IsKept}
use Rattle.guarded_rules.specs.Says.{Says, SaysIn}
use Rattle.guarded_rules.proofs.Bounds.{cut_any, word_below, tails_of_sum, sum_any, operand_any}
use Rattle.guarded_rules.proofs.Kept.{says_kept, bind_says, if_says}
use Rattle.guarded_rules.proofs.Sums.{words_top, says_by}

abbrev pub IsWord : Width → Option Estimate → Type 0
IsWord width o = SaysIn Number (AtMost (2 ^ bits_of width - 1)) o

pub cut_word : (width : Width) (bits : KnownBits) (r : Interval) (tails : Tails) → r.high < 2 ^ 64 → IsWord width (normal_cut width bits r tails)
cut_word width bits r tails few =
    says_kept Number (AtMost (2 ^ bits_of width - 1)) (from_to 0 (2 ^ bits_of width - 1)) tails (normal_cut width bits r tails) (words_top width) (cut_any width bits r tails few) (omega arith)

if_word : (width : Width) (b : Bool) (x y : Option Estimate) → IsWord width x → IsWord width y → IsWord width (if b then x else y)
if_word width b x y h j = if_says Number (AtMost (2 ^ bits_of width - 1)) b x y h j

-- ---- intervals that end below 2^64
if_high : (b : Bool) (x y : Interval) → x.high < 2 ^ 64 → y.high < 2 ^ 64 → (if b then x else y).high < 2 ^ 64
if_high true x y h j = h
if_high false x y h j = j

difference_high : (a b : Interval) → a.high < 2 ^ 64 → (difference_between a b).high < 2 ^ 64
unfolding difference_between
difference_high a b few = if_high (nat_le b.high a.low) (from_to (a.low - b.high) (a.high - b.low)) every_word (omega (arith, few)) (omega arith)

product_high : (a b : Interval) → (product_between a b).high < 2 ^ 64
unfolding product_between
product_high a b = word_below (from_to (a.low * b.low) (a.high * b.high))

quotient_high : (a b : Interval) → a.high < 2 ^ 64 → (quotient_between a b).high < 2 ^ 64
unfolding quotient_between
quotient_high a b few =
    let less = div-le_self a.high b.low in
    if_high (nat_lt 0 b.low) (from_to (a.low / b.high) (a.high / b.low)) (from_to 0 a.high) (omega (arith, less, few)) few

remainder_high : (a b : Interval) → a.high < 2 ^ 64 → (remainder_between a b).high < 2 ^ 64
unfolding remainder_between
remainder_high a b few = if_high (nat_lt 0 b.low) (from_to 0 (min a.high (b.high - 1))) (from_to 0 a.high) (omega (arith, few)) few

and_high : (a b : Interval) → a.high < 2 ^ 64 → (and_between a b).high < 2 ^ 64
unfolding and_between
and_high a b few = omega (arith, few)

left_high : (n : ℕ) (a : Interval) → (shifted_left_between n a).high < 2 ^ 64
unfolding shifted_left_between
left_high n a = word_below (from_to (a.low * 2 ^ n) (a.high * 2 ^ n))

right_high : (n : ℕ) (a : Interval) → a.high < 2 ^ 64 → (shifted_right_between n a).high < 2 ^ 64
unfolding shifted_right_between
right_high n a few = let less = div-le_self a.high (2 ^ n) in omega (arith, less, few)

-- ---- the operations
pub up_to_says : (n : ℕ) → n ≤ 2 ^ 64 - 1 → Says Number (AtMost n) (up_to n)
up_to_says n few = record { proper = omega arith; word = few; has = omega arith }

pub unknown_word : (width : Width) → IsWord width (Some (unknown width))
unknown_word width = up_to_says (2 ^ bits_of width - 1) (words_top width)

sum_word : (profile : Profile) (width : Width) (a b : Estimate) → IsWord width (sum profile width a b)
sum_word profile width a b =
    says_kept Number (AtMost (2 ^ bits_of width - 1)) (from_to 0 (2 ^ bits_of width - 1)) (tails_of_sum profile a b) (sum profile width a b) (words_top width) (sum_any profile width a b) (omega arith)

difference_word : (width : Width) (a b : Estimate) → a.range.high < 2 ^ 64 → IsWord width (difference width a b)
unfolding difference
difference_word width a b few = cut_word width (difference_bits a b) (difference_between a.range b.range) (difference_tails a b) (difference_high a.range b.range few)

added_by_word : (profile : Profile) (width : Width) (a b : Estimate) (o : Option ℕ) → a.range.high < 2 ^ 64 → IsWord width (option_map_or (λ n. by_both profile (difference width a (constant n)) (sum profile width a b)) o (sum profile width a b))
added_by_word profile width a b None few = sum_word profile width a b
added_by_word profile width a b (Some n) few =
    says_by Number (AtMost (2 ^ bits_of width - 1)) (has_more_rules profile) (difference width a (constant n)) (sum profile width a b) (difference_word width a (constant n) few)

added_word : (profile : Profile) (width : Width) (a b : Estimate) → a.range.high < 2 ^ 64 → IsWord width (added profile width a b)
unfolding added
added_word profile width a b few = added_by_word profile width a b (complement width b) few

taken_by_word : (profile : Profile) (width : Width) (a b : Estimate) (o : Option ℕ) → a.range.high < 2 ^ 64 → IsWord width (option_map_or (λ n. by_both profile (sum profile width a (constant n)) (difference width a b)) o (difference width a b))
taken_by_word profile width a b None few = difference_word width a b few
taken_by_word profile width a b (Some n) few =
    says_by Number (AtMost (2 ^ bits_of width - 1)) (has_more_rules profile) (sum profile width a (constant n)) (difference width a b) (sum_word profile width a (constant n))

taken_word : (profile : Profile) (width : Width) (a b : Estimate) → a.range.high < 2 ^ 64 → IsWord width (taken_away profile width a b)
unfolding taken_away
taken_word profile width a b few = taken_by_word profile width a b (complement width b) few

counted_word : (width : Width) (known : ℕ → Option Estimate) (unsure : Option Estimate) (o : Option ℕ) → ((n : ℕ) → IsWord width (known n)) → IsWord width unsure → IsWord width (option_map_or known o unsure)
counted_word width known unsure None each h = h
counted_word width known unsure (Some n) each h = each n

count_word : (width : Width) (known : ℕ → Option Estimate) (unsure : Option Estimate) (b : Option Estimate) → ((n : ℕ) → IsWord width (known n)) → IsWord width unsure → IsWord width (option_and_then (λ n. option_map_or known (only n) unsure) b)
count_word width known unsure None each h = tt
count_word width known unsure (Some n) each h = counted_word width known unsure (only n) each h

left_word : (width : Width) (a : Estimate) (n : ℕ) → IsWord width (shifted_left_by width a n)
unfolding shifted_left_by
left_word width a n = cut_word width (bits_shifted_left n a.bits) (shifted_left_between n a.range) no_tails (left_high n a.range)

right_word : (profile : Profile) (width : Width) (a : Estimate) (n : ℕ) → a.range.high < 2 ^ 64 → IsWord width (shifted_right_by profile width a n)
unfolding shifted_right_by
right_word profile width a n few = cut_word width (bits_shifted_right n a.bits) (shifted_right_between n a.range) (tails_over profile (2 ^ n) a) (right_high n a.range few)

shrunk_word : (width : Width) (a : Estimate) → a.range.high < 2 ^ 64 → IsWord width (shrunk width a)
unfolding shrunk
shrunk_word width a few = cut_word width none_known (from_to 0 a.range.high) a.tails few

pub applied_word : (profile : Profile) (operation : Arithmetic) (width : Width) (a b : Estimate) → a.range.high < 2 ^ 64 → b.range.high < 2 ^ 64 → IsWord width (applied profile operation width a b)
unfolding applied product divided of_either of_both shifted_left shifted_right remaining of_one shifted_signed
applied_word profile is.Add width a b few also = added_word profile width a b few
applied_word profile is.Sub width a b few also = taken_word profile width a b few
applied_word profile is.Mul width a b few also = cut_word width none_known (product_between a.range b.range) no_tails (product_high a.range b.range)
applied_word profile is.Div width a b few also = cut_word width none_known (quotient_between a.range b.range) (quotient_tails profile a b) (quotient_high a.range b.range few)
applied_word profile is.Or width a b few also = cut_word width (bits_of_either a.bits b.bits) every_word no_tails (omega arith)
applied_word profile is.And width a b few also = cut_word width (bits_of_both a.bits b.bits) (and_between a.range b.range) (both_tails greater_tail a.tails b.tails) (and_high a.range b.range few)
applied_word profile is.Lsh width a b few also = count_word width (shifted_left_by width a) (Some (unknown width)) (count width b) (left_word width a) (unknown_word width)
applied_word profile is.Rsh width a b few also = count_word width (shifted_right_by profile width a) (shrunk width a) (count width b) (λ n. right_word profile width a n few) (shrunk_word width a few)
applied_word profile is.Mod width a b few also = cut_word width none_known (remainder_between a.range b.range) a.tails (remainder_high a.range b.range few)
applied_word profile is.Xor width a b few also = cut_word width (bits_of_one a.bits b.bits) every_word no_tails (omega arith)
applied_word profile is.Mov width a b few also = cut_word width b.bits b.range b.tails also
applied_word profile is.Arsh width a b few also =
    count_word width (λ n. if nat_lt (2 * a.range.high) (2 ^ bits_of width) then shifted_right_by profile width a n else Some (unknown width)) (Some (unknown width)) (count width b)
    (λ n. if_word width (nat_lt (2 * a.range.high) (2 ^ bits_of width)) (shifted_right_by profile width a n) (Some (unknown width)) (right_word profile width a n few) (unknown_word width))
    (unknown_word width)
applied_word profile is.SignedDiv width a b few also = unknown_word width
applied_word profile is.SignedMod width a b few also = unknown_word width

-- operands of 32 bits are cut first
high_is : (width : Width) (a : Interval) → a ≡ from_to 0 (2 ^ bits_of width - 1) → a.high ≤ 2 ^ bits_of width - 1
high_is width a is = subst (λ (r : Interval). r.high ≤ 2 ^ bits_of width - 1) (sym is) (omega arith)

word_high : (width : Width) (a : Interval) (tails : Tails) (e : Estimate) → a ≡ from_to 0 (2 ^ bits_of width - 1) → IsKept a tails e → e.range.high < 2 ^ 64
word_high width a tails e is h = let top = words_top width in let high : a.high ≤ 2 ^ bits_of width - 1 = high_is width a is in omega (arith, top, high, h.high)

pub transferred_word : (profile : Profile) (operation : Arithmetic) (width : Width) (a b : Estimate) → Says Number Any a → Says Number Any b → IsWord width (transferred profile operation width a b)
unfolding transferred
transferred_word profile operation width a b one two =
    let every = from_to 0 (2 ^ bits_of width - 1) in
    bind_says Number (AtMost (2 ^ bits_of width - 1)) every a.tails (operand_cut width a) (λ x. option_and_then (applied profile operation width x) (operand_cut width b)) (operand_any width a one.proper (omega (arith, one.word)))
    (λ x kx. bind_says Number (AtMost (2 ^ bits_of width - 1)) every b.tails (operand_cut width b) (applied profile operation width x) (operand_any width b two.proper (omega (arith, two.word)))
    (λ y ky. applied_word profile operation width x y (word_high width every a.tails x refl kx) (word_high width every b.tails y refl ky)))
