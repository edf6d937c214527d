-- Of what an operation makes of two numbers context 3 knows no less than context 2.
use Rattle.std.proofs.Common.{◌≡◌, ℕ, ◌-◌, ◌*◌, ◌/◌, ◌^◌, ◌<◌, ◌≤◌, max, nat_lt, if◌then◌else◌, Bool, true, false, bit_and, Option, Some, None, refl, sym, ◌∙◌, arith, ⊎_elim}
use Rattle.std.specs.Prelude.{option_and_then}
use Rattle.std.specs.Option.{option_map_or}
use Rattle.std.proofs.lemmas.Nat.{and_le_r, or_lt, shr_le}
use Rattle.std.proofs.lemmas.Nat.Bits.{bit_at_above}
use Rattle.std.proofs.lemmas.Bool.Decides.{nat_tests}
use Rattle.std.proofs.lemmas.Bool.{cases_lt}
use Rattle.span_context.specs.declared.profile.Profile.TheVariants.{Two, Three}
use Rattle.bpf_words.specs.declared.instruction.Arithmetic.{Arithmetic}
use Rattle.bpf_words.specs.declared.instruction.Arithmetic.TheVariants as is
use Rattle.bpf_words.specs.declared.instruction.Width.{Width}
use Rattle.bpf_words.specs.declared.instruction.Width.TheVariants.{Narrow, Full}
use Rattle.semantics.specs.Value.{bits_of}
use Rattle.known_bits.specs.Bits.{bit}
use Rattle.known_bits.specs.KnownBits.{KnownBits, most_bits, none_known, common_bits, low_bits, bits_shifted_left, bits_shifted_right}
use Rattle.known_bits.proofs.BitLaws.{bit-zero, bit-or}
use Rattle.intervals.specs.Interval.{Interval, from_to, low_between, and_between, shifted_left_between, shifted_right_between}
use Rattle.abstract_state.specs.declared.region.Tails.{Tails}
use Rattle.abstract_state.specs.Estimate.{Estimate, normal, normal_cut, operand_cut, only, no_tails, constant, unknown}
use Rattle.abstract_state.specs.Transfer.{of_both, shrunk, tails_over, count, by_count, shifted_left_by, shifted_right_by, shifted_left, shifted_right, shifted_signed, applied, transferred}
use Rattle.estimate_order.specs.Order.{AreBitsWithin, IsTailWithin, AreTailsWithin, IsWithin, IsBelow, AreWords, IsNumber, FitsIn}
use Rattle.estimate_order.proofs.BitOrder.{Common, common, low_ones, same_bit, most_within}
use Rattle.estimate_order.proofs.Bitwise.{low_words, right_words, left_words, both_bits_words, any_within_none}
use Rattle.estimate_order.proofs.Cut.{low_between_fits, in_word_fits, cut_within, operand_within, of_both_within, of_either_within, of_one_within, product_within, remaining_within, shrunk_within, none_words}
use Rattle.estimate_order.proofs.Inside.{IsNumberIn, normal_inside, normal_number}
use Rattle.estimate_order.proofs.Sums.{IsOne, single, several, one_or, one_kept}
use Rattle.estimate_order.proofs.Added.{cut_number, constant_number, constant_within, added_within, taken_within}
use Rattle.estimate_order.proofs.Shifts.{over_plain, divided_within, shifted_right_within, shifted_left_within}

-- ---- results of a width
bit_past : (n w k : ℕ) → n < 2 ^ w → w ≤ k → bit n k ≡ 0
unfolding bit
bit_past n w k small past = bit_at_above n w k small past

known_past : (w k : ℕ) → 0 / 2 ^ k ≡ (2 ^ w - 1) / 2 ^ k → w ≤ k
known_past w k agree =
    ⊎_elim
    (λ (below : k < w).
    let zero_there : bit 0 k ≡ bit (2 ^ w - 1) k = same_bit 0 (2 ^ w - 1) k agree in
    let one_there : bit (2 ^ w - 1) k ≡ 1 = low_ones w k below in
    absurd (omega (arith, bit-zero k, zero_there, one_there)))
    (λ (past : w ≤ k). past)
    (cases_lt k w)

parts_past : (o u : ℕ) → max o u ≡ 0 → (u ≡ 0) × (o ≡ 0)
parts_past o u none = (omega arith, omega arith)

bits_below : (w : ℕ) (b : KnownBits) → most_bits b < 2 ^ w → Common 0 (2 ^ w - 1) (common_bits 0 (2 ^ w - 1)) → AreBitsWithin b (common_bits 0 (2 ^ w - 1))
bits_below w b most c k z =
    let past = known_past w k (c.known k z) in
    let none : max (bit b.ones k) (bit b.unknown k) ≡ 0 = sym (bit-or b.ones b.unknown k) ∙ bit_past (most_bits b) w k most past in
    let parts = parts_past (bit b.ones k) (bit b.unknown k) none in
    (parts.0, parts.1 ∙ sym (c.ones k z ∙ bit-zero k))

within_unknown : (width : Width) (a : Estimate) → FitsIn width a → IsWithin a (unknown width)
within_unknown Narrow a fits =
    let high = fits.high in
    record {
      bits = bits_below 32 a.bits fits.most (common 0 4294967295 (omega arith) (omega arith));
      range = (omega arith, omega (arith, high));
      tails = (tt, tt);
    }
within_unknown Full a fits =
    let high = fits.high in
    record {
      bits = bits_below 64 a.bits fits.most (common 0 18446744073709551615 (omega arith) (omega arith));
      range = (omega arith, omega (arith, high));
      tails = (tt, tt);
    }

abbrev pub FitsInIn : Width → Option Estimate → Type 0
FitsInIn width None = Unit {0}
FitsInIn width (Some a) = FitsIn width a

pub full_fits : (o : Option Estimate) → IsNumberIn o → FitsInIn Full o
full_fits None number = tt
full_fits (Some a) number = record { high = number.range.fits; most = or_lt 64 a.bits.ones a.bits.unknown number.words.ones number.words.unknown }

low_high : (r : Interval) → (low_between r).high < 2 ^ 32
unfolding low_between
low_high r =
    ⊎_elim
    (λ (small : r.high < 2 ^ 32). let yes : nat_lt r.high (2 ^ 32) ≡ true = grind (arith, nat_tests) in rw yes small)
    (λ (great : 2 ^ 32 ≤ r.high). let no : nat_lt r.high (2 ^ 32) ≡ false = grind (arith, nat_tests) in rw no (omega arith))
    (cases_lt r.high (2 ^ 32))

low_most : (b : KnownBits) → most_bits (low_bits b) < 2 ^ 32
unfolding low_bits
low_most b =
    let one : bit_and b.ones 4294967295 < 2 ^ 32 = omega (arith, and_le_r b.ones 4294967295) in
    let other : bit_and b.unknown 4294967295 < 2 ^ 32 = omega (arith, and_le_r b.unknown 4294967295) in
    or_lt 32 (bit_and b.ones 4294967295) (bit_and b.unknown 4294967295) one other

narrow_fits : (b : KnownBits) (r : Interval) (t : Tails) (o : Option Estimate) → IsBelow IsWithin o (Some (record { bits = low_bits b; range = low_between r; tails = t })) → FitsInIn Narrow o
narrow_fits b r t None below = tt
narrow_fits b r t (Some a) below =
    let most = most_within a.bits (low_bits b) below.bits in
    let high = below.range.1 in
    record { high = omega (arith, high, low_high r); most = omega (arith, most, low_most b) }

pub itself : (t : Option ℕ) → IsTailWithin t t
itself None = tt
itself (Some t) = omega arith

cut_fits : (width : Width) (b : KnownBits) (r : Interval) (t : Tails) → AreWords b → r.high < 2 ^ 64 → FitsInIn width (normal_cut width b r t)
unfolding normal_cut
cut_fits Full b r t words fits = full_fits (normal b r t) (normal_number b r t words fits)
cut_fits Narrow b r t words fits =
    narrow_fits b r t (normal (low_bits b) (low_between r) t)
    (normal_inside (low_bits b) (low_between r) t (record { bits = low_bits b; range = low_between r; tails = t }) (low_words b words) (low_between_fits r fits) (λ k z. (z, refl)) (omega arith, omega arith)
    (itself t.text, itself t.link))

unknown_of : (width : Width) (o : Option Estimate) → FitsInIn width o → IsBelow IsWithin o (Some (unknown width))
unknown_of width None fits = tt
unknown_of width (Some a) fits = within_unknown width a fits

pub cut_unknown : (width : Width) (b : KnownBits) (r : Interval) (t : Tails) → AreWords b → r.high < 2 ^ 64 → IsBelow IsWithin (normal_cut width b r t) (Some (unknown width))
cut_unknown width b r t words fits = unknown_of width (normal_cut width b r t) (cut_fits width b r t words fits)

pub unknown_itself : (width : Width) → IsWithin (unknown width) (unknown width)
unknown_itself width = record { bits = λ k z. (z, refl); range = (omega arith, omega arith); tails = (tt, tt) }

-- ---- shifts by a count that is known, or isn't
count_within : (width : Width) (b y : Estimate) → IsNumber b → IsNumber y → IsWithin b y → IsBelow IsWithin (count width b) (count width y)
unfolding count
count_within Narrow b y bn yn other = of_both_within Narrow b (constant 31) y (constant 31) bn (constant_number 31 (omega arith)) yn (constant_number 31 (omega arith)) other (constant_within 31)
count_within Full b y bn yn other = of_both_within Full b (constant 63) y (constant 63) bn (constant_number 63 (omega arith)) yn (constant_number 63 (omega arith)) other (constant_within 63)

count_number : (width : Width) (b : Estimate) → IsNumber b → IsNumberIn (count width b)
unfolding count of_both and_between
count_number Narrow b bn = let fits = bn.range.fits in cut_number Narrow _ _ _ (both_bits_words b.bits (constant 31).bits bn.words (constant_number 31 (omega arith)).words) (omega arith)
count_number Full b bn = let fits = bn.range.fits in cut_number Full _ _ _ (both_bits_words b.bits (constant 63).bits bn.words (constant_number 63 (omega arith)).words) (omega arith)

by_counts : (f g : ℕ → Option Estimate) (o p : Option Estimate) (width : Width) (b y : Estimate) → IsNumber b → IsNumber y → IsWithin b y → ((n : ℕ) → IsBelow IsWithin (f n) (g n)) → ((n : ℕ) → IsBelow IsWithin (f n) p) → IsBelow IsWithin o p → IsBelow IsWithin (by_count f o width b) (by_count g p width y)
by_counts f g o p width b y bn yn other each any rest = counts (count width b) (count width y) (count_within width b y bn yn other) (count_number width b bn)
  where
    alike : (q : Option ℕ) → IsBelow IsWithin (option_map_or f q o) (option_map_or g q p)
    alike None = rest
    alike (Some n) = each n

    apart : (q : Option ℕ) → IsBelow IsWithin (option_map_or f q o) p
    apart None = rest
    apart (Some n) = any n

    chosen : (m n : Estimate) → IsWithin m n → IsNumber m → IsOne n → IsBelow IsWithin (option_map_or f (only m) o) (option_map_or g (only n) p)
    chosen m n below number (single ne ns) = rw (one_kept m n number.range below ne) (alike (only n))
    chosen m n below number (several ns) = rw ns (apart (only m))

    counts : (c d : Option Estimate) → IsBelow IsWithin c d → IsNumberIn c → IsBelow IsWithin (option_and_then (λ n. option_map_or f (only n) o) c) (option_and_then (λ n. option_map_or g (only n) p) d)
    counts None d below number = tt
    counts (Some m) None below number = absurd below
    counts (Some m) (Some n) below number = chosen m n below number (one_or n)

left_unknown : (width : Width) (a : Estimate) (n : ℕ) → IsNumber a → IsBelow IsWithin (shifted_left_by width a n) (Some (unknown width))
unfolding shifted_left_by shifted_left_between
left_unknown width a n an = cut_unknown width (bits_shifted_left n a.bits) (shifted_left_between n a.range) no_tails (left_words n a.bits an.words) (in_word_fits (from_to (a.range.low * 2 ^ n) (a.range.high * 2 ^ n)))

left_within : (width : Width) (a b x y : Estimate) → IsNumber a → IsNumber b → IsNumber x → IsNumber y → IsWithin a x → IsWithin b y → IsBelow IsWithin (shifted_left width a b) (shifted_left width x y)
unfolding shifted_left
left_within width a b x y an bn xn yn one other =
    by_counts (shifted_left_by width a) (shifted_left_by width x) (Some (unknown width)) (Some (unknown width)) width b y bn yn other (λ n. shifted_left_within width a x n an xn one) (λ n. left_unknown width a n an) (unknown_itself width)

right_shrunk : (width : Width) (a x : Estimate) (n : ℕ) → IsNumber a → IsNumber x → IsWithin a x → IsBelow IsWithin (shifted_right_by Three width a n) (shrunk width x)
unfolding shifted_right_by shrunk shifted_right_between
right_shrunk width a x n an xn one =
    let high = one.range.1 in
    let small = shr_le a.range.high n in
    cut_within width (bits_shifted_right n a.bits) none_known (shifted_right_between n a.range) (from_to 0 x.range.high) (tails_over Three (2 ^ n) a) x.tails (right_words n a.bits an.words) none_words xn.range.fits
    (any_within_none (bits_shifted_right n a.bits) (right_words n a.bits an.words)) (omega arith, omega arith) (over_tails (2 ^ n))
  where
    over_tails : (m : ℕ) → AreTailsWithin (tails_over Three m a) x.tails
    over_tails m = over_plain m a x an one

right_within : (width : Width) (a b x y : Estimate) → IsNumber a → IsNumber b → IsNumber x → IsNumber y → IsWithin a x → IsWithin b y → IsBelow IsWithin (shifted_right Three width a b) (shifted_right Two width x y)
unfolding shifted_right
right_within width a b x y an bn xn yn one other =
    by_counts (shifted_right_by Three width a) (shifted_right_by Two width x) (shrunk width a) (shrunk width x) width b y bn yn other (λ n. shifted_right_within width a x n an xn one) (λ n. right_shrunk width a x n an xn one)
    (shrunk_within width a x xn one)

right_unknown : (width : Width) (a : Estimate) (n : ℕ) → IsNumber a → IsBelow IsWithin (shifted_right_by Three width a n) (Some (unknown width))
unfolding shifted_right_by shifted_right_between
right_unknown width a n an =
    let fits = an.range.fits in
    cut_unknown width (bits_shifted_right n a.bits) (shifted_right_between n a.range) (tails_over Three (2 ^ n) a) (right_words n a.bits an.words) (omega (arith, shr_le a.range.high n))

signed_unknown : (b : Bool) (width : Width) (a : Estimate) (n : ℕ) → IsNumber a → IsBelow IsWithin (if b then shifted_right_by Three width a n else Some (unknown width)) (Some (unknown width))
signed_unknown true width a n an = right_unknown width a n an
signed_unknown false width a n an = unknown_itself width

signed_by : (width : Width) (a x : Estimate) (n : ℕ) → IsNumber a → IsNumber x → IsWithin a x
    → IsBelow IsWithin (if nat_lt (2 * a.range.high) (2 ^ bits_of width) then shifted_right_by Three width a n else Some (unknown width)) (if nat_lt (2 * x.range.high) (2 ^ bits_of width) then shifted_right_by Two width x n else Some (unknown width))
signed_by width a x n an xn one =
    let high = one.range.1 in
    ⊎_elim
    (λ (small : 2 * x.range.high < 2 ^ bits_of width).
    let yes : nat_lt (2 * x.range.high) (2 ^ bits_of width) ≡ true = grind (arith, nat_tests) in
    let less : 2 * a.range.high < 2 ^ bits_of width = omega (arith, high, small) in
    let also : nat_lt (2 * a.range.high) (2 ^ bits_of width) ≡ true = grind (arith, nat_tests) in
    rw (yes, also) (shifted_right_within width a x n an xn one))
    (λ (great : 2 ^ bits_of width ≤ 2 * x.range.high).
    let no : nat_lt (2 * x.range.high) (2 ^ bits_of width) ≡ false = grind (arith, nat_tests) in
    rw no (signed_unknown (nat_lt (2 * a.range.high) (2 ^ bits_of width)) width a n an))
    (cases_lt (2 * x.range.high) (2 ^ bits_of width))

signed_within : (width : Width) (a b x y : Estimate) → IsNumber a → IsNumber b → IsNumber x → IsNumber y → IsWithin a x → IsWithin b y → IsBelow IsWithin (shifted_signed Three width a b) (shifted_signed Two width x y)
unfolding shifted_signed
signed_within width a b x y an bn xn yn one other =
    by_counts
    (λ n. if nat_lt (2 * a.range.high) (2 ^ bits_of width) then shifted_right_by Three width a n else Some (unknown width))
    (λ n. if nat_lt (2 * x.range.high) (2 ^ bits_of width) then shifted_right_by Two width x n else Some (unknown width)) (Some (unknown width)) (Some (unknown width)) width b y bn yn other
    (λ n. signed_by width a x n an xn one) (λ n. signed_unknown (nat_lt (2 * a.range.high) (2 ^ bits_of width)) width a n an) (unknown_itself width)

-- ---- the table
applied_within : (operation : Arithmetic) (width : Width) (a b x y : Estimate) → IsNumber a → IsNumber b → IsNumber x → IsNumber y → FitsIn width a → FitsIn width b → IsWithin a x → IsWithin b y → IsBelow IsWithin (applied Three operation width a b) (applied Two operation width x y)
unfolding applied
applied_within is.Add width a b x y an bn xn yn af bf one other = added_within width a b x y an bn xn yn af bf one other
applied_within is.Sub width a b x y an bn xn yn af bf one other = taken_within width a b x y an bn xn yn af one other
applied_within is.Mul width a b x y an bn xn yn af bf one other = product_within width a b x y an bn xn yn one other
applied_within is.Div width a b x y an bn xn yn af bf one other = divided_within width a b x y an bn xn one other
applied_within is.Or width a b x y an bn xn yn af bf one other = of_either_within width a b x y an bn xn yn one other
applied_within is.And width a b x y an bn xn yn af bf one other = of_both_within width a b x y an bn xn yn one other
applied_within is.Lsh width a b x y an bn xn yn af bf one other = left_within width a b x y an bn xn yn one other
applied_within is.Rsh width a b x y an bn xn yn af bf one other = right_within width a b x y an bn xn yn one other
applied_within is.Mod width a b x y an bn xn yn af bf one other = remaining_within width a b x y an bn xn yn one other
applied_within is.Xor width a b x y an bn xn yn af bf one other = of_one_within width a b x y an bn xn yn one other
applied_within is.Mov width a b x y an bn xn yn af bf one other =
    cut_within width b.bits y.bits b.range y.range b.tails y.tails bn.words yn.words yn.range.fits other.bits other.range other.tails
applied_within is.Arsh width a b x y an bn xn yn af bf one other = signed_within width a b x y an bn xn yn one other
applied_within is.SignedDiv width a b x y an bn xn yn af bf one other = unknown_itself width
applied_within is.SignedMod width a b x y an bn xn yn af bf one other = unknown_itself width

pub operand_number : (width : Width) (a : Estimate) → IsNumber a → IsNumberIn (operand_cut width a)
unfolding operand_cut
operand_number Full a an = an
operand_number Narrow a an = cut_number Narrow a.bits a.range a.tails an.words an.range.fits

pub operand_fits : (width : Width) (a : Estimate) → IsNumber a → FitsInIn width (operand_cut width a)
unfolding operand_cut
operand_fits Full a an = full_fits (Some a) an
operand_fits Narrow a an = cut_fits Narrow a.bits a.range a.tails an.words an.range.fits

pub transferred_within : (operation : Arithmetic) (width : Width) (a b x y : Estimate) → IsNumber a → IsNumber b → IsNumber x → IsNumber y → IsWithin a x → IsWithin b y → IsBelow IsWithin (transferred Three operation width a b) (transferred Two operation width x y)
unfolding transferred
transferred_within operation width a b x y an bn xn yn one other =
    firsts (operand_cut width a) (operand_cut width x) (operand_within width a x an xn one) (operand_number width a an) (operand_number width x xn) (operand_fits width a an)
  where
    seconds : (f g : Estimate) → IsWithin f g → IsNumber f → IsNumber g → FitsIn width f → (c d : Option Estimate) → IsBelow IsWithin c d → IsNumberIn c → IsNumberIn d → FitsInIn width c → IsBelow IsWithin (option_and_then (applied Three operation width f) c) (option_and_then (applied Two operation width g) d)
    seconds f g within fn gn ff None d below cn dn cf = tt
    seconds f g within fn gn ff (Some c) None below cn dn cf = absurd below
    seconds f g within fn gn ff (Some c) (Some d) below cn dn cf = applied_within operation width f c g d fn cn gn dn ff cf within below

    firsts : (c d : Option Estimate) → IsBelow IsWithin c d → IsNumberIn c → IsNumberIn d → FitsInIn width c → IsBelow IsWithin (option_and_then (λ f. option_and_then (applied Three operation width f) (operand_cut width b)) c) (option_and_then (λ g. option_and_then (applied Two operation width g) (operand_cut width y)) d)
    firsts None d below cn dn cf = tt
    firsts (Some c) None below cn dn cf = absurd below
    firsts (Some c) (Some d) below cn dn cf =
        seconds c d below cn dn cf (operand_cut width b) (operand_cut width y) (operand_within width b y bn yn other) (operand_number width b bn) (operand_number width y yn) (operand_fits width b bn)
