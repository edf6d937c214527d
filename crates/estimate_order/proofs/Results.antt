-- What the rules make of numbers are numbers.
use Rattle.std.proofs.Common.{◌≡◌, ℕ, ◌+◌, ◌-◌, ◌*◌, ◌^◌, ◌<◌, ◌≤◌, min, max, nat_lt, ◌&&◌, if◌then◌else◌, Bool, true, false, Option, Some, None, refl, sym, arith}
use Rattle.std.specs.Prelude.{option_map, option_and_then}
use Rattle.std.specs.Option.{option_map_or}
use Rattle.std.proofs.lemmas.Nat.{shr_le}
use Rattle.span_context.specs.declared.profile.Profile.{Profile}
use Rattle.span_context.specs.Profile.{has_more_rules}
use Rattle.bpf_words.specs.declared.instruction.Arithmetic.{Arithmetic}
use Rattle.bpf_words.specs.declared.instruction.Arithmetic.TheVariants as is
use Rattle.bpf_words.specs.declared.instruction.Width.{Width}
use Rattle.bpf_words.specs.declared.instruction.Width.TheVariants.{Narrow, Full}
use Rattle.bpf_words.specs.declared.instruction.Comparison.{Comparison}
use Rattle.semantics.specs.Value.{bits_of}
use Rattle.known_bits.specs.Bits.{bit}
use Rattle.known_bits.specs.KnownBits.{KnownBits, most_bits, common_bits, merged_bits}
use Rattle.known_bits.proofs.BitLaws.{bit-lt, bit-zero, bit-or}
use Rattle.intervals.specs.Interval.{Interval, from_to, some_between, product_between, and_between, shifted_left_between, shifted_right_between, hull_of}
use Rattle.abstract_state.specs.declared.relation.Relation.{Relation}
use Rattle.abstract_state.specs.declared.relation.Relation.TheVariants.{Less, AtMost, Same, Apart, AtLeast, Greater}
use Rattle.abstract_state.specs.declared.region.Tails.{Tails}
use Rattle.abstract_state.specs.Estimate.{Estimate, normal, operand_cut, only, constant, unknown, up_to, joined, both_tails, greater_tail}
use Rattle.abstract_state.specs.Transfer.{sum, difference, complement, in_both, by_both, added, taken_away, of_both, of_either, of_one, product, divided, remaining, count, by_count, shifted_left_by, shifted_right_by, shrunk, shifted_left, shifted_right, shifted_signed, applied, transferred}
use Rattle.abstract_state.specs.Comparing.{Told, told, both_told, below, above, ordered, turned, same, apart, refined, relation_of, reach, told_on}
use Rattle.estimate_order.specs.Order.{AreWords, IsNumber}
use Rattle.estimate_order.proofs.BitOrder.{le_bits, common, same_bit, merged_words, AreWordsIn}
use Rattle.estimate_order.proofs.Bitwise.{agreed_words, both_bits_words, either_bits_words, one_bits_words, left_words, right_words}
use Rattle.estimate_order.proofs.Normal.{IsRangeIn, between_range}
use Rattle.estimate_order.proofs.Cut.{in_word_fits, none_words, remainder_fits}
use Rattle.estimate_order.proofs.Inside.{IsNumberIn, normal_number}
use Rattle.estimate_order.proofs.Sums.{width_fits, sum_words, sum_fits, difference_words, difference_fits}
use Rattle.estimate_order.proofs.Added.{cut_number, constant_number, complement_less}
use Rattle.estimate_order.proofs.Shifts.{quotient_fits}
use Rattle.estimate_order.proofs.Table.{operand_number}
use Rattle.estimate_order.proofs.Told.{ends_range}

-- ---- each number up to one
ones_zero : (o u z : ℕ) → o < 2 → u < 2 → min o u ≡ 0 → (u ≡ 0 → o ≡ z) → z ≡ 0 → o ≤ z
ones_zero o u z a b c d e = grind arith

bit_most : (b o u z : ℕ) → b < 2 → u < 2 → (u ≡ 0 → b ≡ z) → z ≡ 0 → b ≤ max o u
bit_most b o u z p q e f = grind arith

pub up_to_number : (n : ℕ) → n < 2 ^ 64 → IsNumber (up_to n)
up_to_number n fits =
    let c = common 0 n (omega arith) fits in
    record {
      words = c.words;
      range = record { order = omega arith; fits = fits };
      least = le_bits (common_bits 0 n).ones 0
          (λ k. ones_zero (bit (common_bits 0 n).ones k) (bit (common_bits 0 n).unknown k) (bit 0 k) (bit-lt (common_bits 0 n).ones k) (bit-lt (common_bits 0 n).unknown k) (c.words.apart k) (c.ones k) (bit-zero k));
      most = le_bits n (most_bits (common_bits 0 n))
          (λ k.
          rw (bit-or (common_bits 0 n).ones (common_bits 0 n).unknown k)
          (bit_most (bit n k) (bit (common_bits 0 n).ones k) (bit (common_bits 0 n).unknown k) (bit 0 k) (bit-lt n k) (bit-lt (common_bits 0 n).unknown k) (λ z. sym (same_bit 0 n k (c.known k z))) (bit-zero k)));
      short = (tt, tt);
    }

pub unknown_number : (width : Width) → IsNumber (unknown width)
unknown_number Narrow = up_to_number 4294967295 (omega arith)
unknown_number Full = up_to_number 18446744073709551615 (omega arith)

-- ---- of two numbers
pub joined_number : (a b : Estimate) → IsNumber a → IsNumber b → IsNumberIn (joined a b)
unfolding joined hull_of
joined_number a b an bn =
    let af = an.range.fits in
    let bf = bn.range.fits in
    normal_number _ _ _ (agreed_words a.bits b.bits an.words bn.words) (omega arith)

pub same_number : (x y : Estimate) → IsNumber x → IsNumber y → IsNumberIn (same x y)
unfolding same
same_number x y xn yn = merges (merged_bits x.bits y.bits) (merged_words x.bits y.bits xn.words yn.words)
  where
    ends : (c : KnownBits) (t : Tails) (o : Option Interval) → AreWords c → IsRangeIn o → IsNumberIn (option_and_then (λ r. normal c r t) o)
    ends c t None words range = tt
    ends c t (Some r) words range = normal_number c r t words range.fits

    merges : (o : Option KnownBits) → AreWordsIn o → IsNumberIn (option_and_then (λ bits. option_and_then (λ r. normal bits r (both_tails greater_tail x.tails y.tails)) (some_between (max x.range.low y.range.low) (min x.range.high y.range.high))) o)
    merges None words = tt
    merges (Some c) words = let fits = xn.range.fits in ends c (both_tails greater_tail x.tails y.tails) (some_between (max x.range.low y.range.low) (min x.range.high y.range.high)) words (between_range (max x.range.low y.range.low) (min x.range.high y.range.high) (omega arith))

both_number : (o p : Option Estimate) → IsNumberIn o → IsNumberIn p → IsNumberIn (in_both o p)
both_number None p on pn = tt
both_number (Some a) None on pn = tt
both_number (Some a) (Some b) on pn = same_number a b on pn

if_number : (b : Bool) (o p : Option Estimate) → IsNumberIn o → IsNumberIn p → IsNumberIn (if b then o else p)
if_number true o p on pn = on
if_number false o p on pn = pn

sums_number : (profile : Profile) (width : Width) (a b : Estimate) → IsNumber a → IsNumber b → IsNumberIn (sum profile width a b)
unfolding sum
sums_number profile width a b an bn = cut_number width _ _ _ (sum_words a b an.words bn.words) (sum_fits a.range b.range)

differences_number : (width : Width) (a b : Estimate) → IsNumber a → IsNumber b → IsNumberIn (difference width a b)
unfolding difference
differences_number width a b an bn = cut_number width _ _ _ (difference_words a b an.words bn.words) (difference_fits a.range b.range an.range.fits)

pub added_number : (profile : Profile) (width : Width) (a b : Estimate) → IsNumber a → IsNumber b → IsNumberIn (added profile width a b)
unfolding added
added_number profile width a b an bn = by (complement width b) refl
  where
    by : (o : Option ℕ) → complement width b ≡ o → IsNumberIn (option_map_or (λ n. by_both profile (difference width a (constant n)) (sum profile width a b)) o (sum profile width a b))
    by None is = sums_number profile width a b an bn
    by (Some n) is =
        let number = constant_number n (width_fits width n (complement_less width b n is)) in
        if_number (has_more_rules profile) (in_both (difference width a (constant n)) (sum profile width a b)) (difference width a (constant n))
        (both_number (difference width a (constant n)) (sum profile width a b) (differences_number width a (constant n) an number) (sums_number profile width a b an bn)) (differences_number width a (constant n) an number)

pub taken_number : (profile : Profile) (width : Width) (a b : Estimate) → IsNumber a → IsNumber b → IsNumberIn (taken_away profile width a b)
unfolding taken_away
taken_number profile width a b an bn = by (complement width b) refl
  where
    by : (o : Option ℕ) → complement width b ≡ o → IsNumberIn (option_map_or (λ n. by_both profile (sum profile width a (constant n)) (difference width a b)) o (difference width a b))
    by None is = differences_number width a b an bn
    by (Some n) is =
        let number = constant_number n (width_fits width n (complement_less width b n is)) in
        if_number (has_more_rules profile) (in_both (sum profile width a (constant n)) (difference width a b)) (sum profile width a (constant n))
        (both_number (sum profile width a (constant n)) (difference width a b) (sums_number profile width a (constant n) an number) (differences_number width a b an bn)) (sums_number profile width a (constant n) an number)

-- ---- shifts
counted_number : (f : ℕ → Option Estimate) (o : Option Estimate) (q : Option ℕ) → ((n : ℕ) → IsNumberIn (f n)) → IsNumberIn o → IsNumberIn (option_map_or f q o)
counted_number f o None each rest = rest
counted_number f o (Some n) each rest = each n

by_count_number : (f : ℕ → Option Estimate) (o : Option Estimate) (width : Width) (b : Estimate) → ((n : ℕ) → IsNumberIn (f n)) → IsNumberIn o → IsNumberIn (by_count f o width b)
by_count_number f o width b each rest = counts (count width b)
  where
    counts : (c : Option Estimate) → IsNumberIn (option_and_then (λ n. option_map_or f (only n) o) c)
    counts None = tt
    counts (Some m) = counted_number f o (only m) each rest

left_number : (width : Width) (a : Estimate) (n : ℕ) → IsNumber a → IsNumberIn (shifted_left_by width a n)
unfolding shifted_left_by shifted_left_between
left_number width a n an = cut_number width _ _ _ (left_words n a.bits an.words) (in_word_fits (from_to (a.range.low * 2 ^ n) (a.range.high * 2 ^ n)))

right_number : (profile : Profile) (width : Width) (a : Estimate) (n : ℕ) → IsNumber a → IsNumberIn (shifted_right_by profile width a n)
unfolding shifted_right_by shifted_right_between
right_number profile width a n an = let fits = an.range.fits in cut_number width _ _ _ (right_words n a.bits an.words) (omega (arith, shr_le a.range.high n))

shrunk_number : (width : Width) (a : Estimate) → IsNumber a → IsNumberIn (shrunk width a)
unfolding shrunk
shrunk_number width a an = cut_number width _ _ _ none_words an.range.fits

-- ---- the table
applied_number : (profile : Profile) (operation : Arithmetic) (width : Width) (a b : Estimate) → IsNumber a → IsNumber b → IsNumberIn (applied profile operation width a b)
unfolding applied product product_between divided of_either of_both and_between of_one remaining shifted_left shifted_right shifted_signed
applied_number profile is.Add width a b an bn = added_number profile width a b an bn
applied_number profile is.Sub width a b an bn = taken_number profile width a b an bn
applied_number profile is.Mul width a b an bn = cut_number width _ _ _ none_words (in_word_fits (from_to (a.range.low * b.range.low) (a.range.high * b.range.high)))
applied_number profile is.Div width a b an bn = cut_number width _ _ _ none_words (quotient_fits a.range b.range an.range.fits)
applied_number profile is.Or width a b an bn = cut_number width _ _ _ (either_bits_words a.bits b.bits an.words bn.words) (omega arith)
applied_number profile is.And width a b an bn = let fits = an.range.fits in cut_number width _ _ _ (both_bits_words a.bits b.bits an.words bn.words) (omega arith)
applied_number profile is.Lsh width a b an bn = by_count_number (shifted_left_by width a) (Some (unknown width)) width b (λ n. left_number width a n an) (unknown_number width)
applied_number profile is.Rsh width a b an bn = by_count_number (shifted_right_by profile width a) (shrunk width a) width b (λ n. right_number profile width a n an) (shrunk_number width a an)
applied_number profile is.Mod width a b an bn = cut_number width _ _ _ none_words (remainder_fits a.range b.range an.range.fits)
applied_number profile is.Xor width a b an bn = cut_number width _ _ _ (one_bits_words a.bits b.bits an.words bn.words) (omega arith)
applied_number profile is.Mov width a b an bn = cut_number width _ _ _ bn.words bn.range.fits
applied_number profile is.Arsh width a b an bn =
    by_count_number (λ n. if nat_lt (2 * a.range.high) (2 ^ bits_of width) then shifted_right_by profile width a n else Some (unknown width)) (Some (unknown width)) width b
    (λ n. if_number (nat_lt (2 * a.range.high) (2 ^ bits_of width)) (shifted_right_by profile width a n) (Some (unknown width)) (right_number profile width a n an) (unknown_number width)) (unknown_number width)
applied_number profile is.SignedDiv width a b an bn = unknown_number width
applied_number profile is.SignedMod width a b an bn = unknown_number width

pub transferred_number : (profile : Profile) (operation : Arithmetic) (width : Width) (a b : Estimate) → IsNumber a → IsNumber b → IsNumberIn (transferred profile operation width a b)
unfolding transferred
transferred_number profile operation width a b an bn = firsts (operand_cut width a) (operand_number width a an)
  where
    seconds : (f : Estimate) (d : Option Estimate) → IsNumber f → IsNumberIn d → IsNumberIn (option_and_then (applied profile operation width f) d)
    seconds f None fn dn = tt
    seconds f (Some d) fn dn = applied_number profile operation width f d fn dn

    firsts : (c : Option Estimate) → IsNumberIn c → IsNumberIn (option_and_then (λ f. option_and_then (applied profile operation width f) (operand_cut width b)) c)
    firsts None cn = tt
    firsts (Some c) cn = seconds c (operand_cut width b) cn (operand_number width b bn)

-- ---- comparisons
abbrev pub AreNumbersIn : Option Told → Type 0
AreNumbersIn None = Unit {0}
AreNumbersIn (Some t) = IsNumber t.left × IsNumber t.right

ranged_number : (b : KnownBits) (t : Tails) (o : Option Interval) → AreWords b → IsRangeIn o → IsNumberIn (option_and_then (λ r. normal b r t) o)
ranged_number b t None words range = tt
ranged_number b t (Some r) words range = normal_number b r t words range.fits

below_number : (n : ℕ) (x y : Estimate) → IsNumber x → IsNumberIn (below n x y)
unfolding below
below_number n x y xn =
    let fits = xn.range.fits in
    if_number (nat_lt y.range.high n) None _ tt
    (ranged_number x.bits _ (some_between x.range.low (min x.range.high (y.range.high - n))) xn.words (between_range x.range.low (min x.range.high (y.range.high - n)) (omega arith)))

above_number : (n : ℕ) (y x : Estimate) → IsNumber y → IsNumberIn (above n y x)
unfolding above
above_number n y x yn = ranged_number y.bits y.tails (some_between (max y.range.low (x.range.low + n)) y.range.high) yn.words (between_range (max y.range.low (x.range.low + n)) y.range.high yn.range.fits)

apart_number : (x y : Estimate) → IsNumber x → IsNumberIn (apart x y)
unfolding apart
apart_number x y xn = ranged_number x.bits x.tails _ xn.words (ends_range x.range (only y) xn.range)

sides_number : (o p : Option Estimate) → IsNumberIn o → IsNumberIn p → AreNumbersIn (both_told o p)
sides_number None p on pn = tt
sides_number (Some a) None on pn = tt
sides_number (Some a) (Some b) on pn = (on, pn)

turned_number : (o : Option Told) → AreNumbersIn o → AreNumbersIn (turned o)
turned_number None on = tt
turned_number (Some t) on = (on.1, on.0)

twice_number : (o : Option Estimate) → IsNumberIn o → AreNumbersIn (option_map (λ both. told both both) o)
twice_number None on = tt
twice_number (Some a) on = (on, on)

ordered_number : (n : ℕ) (x y : Estimate) → IsNumber x → IsNumber y → AreNumbersIn (ordered n x y)
unfolding ordered
ordered_number n x y xn yn = sides_number (below n x y) (above n y x) (below_number n x y xn) (above_number n y x yn)

refined_number : (r : Relation) (x y : Estimate) → IsNumber x → IsNumber y → AreNumbersIn (refined r x y)
unfolding refined
refined_number Less x y xn yn = ordered_number 1 x y xn yn
refined_number AtMost x y xn yn = ordered_number 0 x y xn yn
refined_number Same x y xn yn = twice_number (same x y) (same_number x y xn yn)
refined_number Apart x y xn yn = sides_number (apart x y) (apart y x) (apart_number x y xn) (apart_number y x yn)
refined_number AtLeast x y xn yn = turned_number (ordered 0 y x) (ordered_number 0 y x yn xn)
refined_number Greater x y xn yn = turned_number (ordered 1 y x) (ordered_number 1 y x yn xn)

pub told_number : (width : Width) (comparison : Comparison) (taken : Bool) (x y : Estimate) → IsNumber x → IsNumber y → AreNumbersIn (told_on width comparison taken x y)
unfolding told_on
told_number width comparison taken x y xn yn = tested (nat_lt x.range.high (reach width comparison) && nat_lt y.range.high (reach width comparison)) (relation_of comparison taken)
  where
    related : (o : Option Relation) → AreNumbersIn (option_map_or (λ r. refined r x y) o (Some (told x y)))
    related None = (xn, yn)
    related (Some r) = refined_number r x y xn yn

    tested : (b : Bool) (o : Option Relation) → AreNumbersIn (if b then option_map_or (λ r. refined r x y) o (Some (told x y)) else Some (told x y))
    tested true o = related o
    tested false o = (xn, yn)
