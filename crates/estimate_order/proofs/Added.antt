-- Of a number to which another is added, or from which it is taken away, context 3 knows no less than context 2.
use Rattle.std.proofs.Common.{◌≡◌, ℕ, ◌-◌, ◌*◌, ◌^◌, ◌<◌, ◌≤◌, nat_le, nat_lt, ◌&&◌, if◌then◌else◌, true, false, Option, Some, None, refl, sym, arith, ⊎_elim}
use Rattle.std.specs.Prelude.{option_and_then}
use Rattle.std.specs.Option.{option_map_or}
use Rattle.std.proofs.lemmas.Nat.{or_lt}
use Rattle.std.proofs.lemmas.Option.{same_Some}
use Rattle.std.proofs.lemmas.Bool.Decides.{nat_tests}
use Rattle.span_context.specs.declared.profile.Profile.TheVariants.{Two, Three}
use Rattle.bpf_words.specs.declared.instruction.Width.{Width}
use Rattle.bpf_words.specs.declared.instruction.Width.TheVariants.{Narrow, Full}
use Rattle.semantics.specs.Value.{bits_of}
use Rattle.known_bits.specs.KnownBits.{KnownBits, low_bits}
use Rattle.intervals.specs.Interval.{Interval, low_between}
use Rattle.abstract_state.specs.declared.region.Tails.{Tails}
use Rattle.abstract_state.specs.Estimate.{Estimate, normal_cut, only, constant}
use Rattle.abstract_state.specs.Transfer.{sum, difference, complement, in_both, added, taken_away}
use Rattle.estimate_order.specs.Order.{IsWithin, IsBelow, AreWords, IsRange, IsNumber, FitsIn}
use Rattle.estimate_order.proofs.Bitwise.{low_words}
use Rattle.estimate_order.proofs.Cut.{low_between_fits}
use Rattle.estimate_order.proofs.Inside.{IsNumberIn, normal_number, below_trans, same_first, same_second}
use Rattle.estimate_order.proofs.Sums.{IsOne, single, several, one_or, one_kept, cases_le, known_words, most_known, width_fits, sum_words, sum_fits, sum_within, difference_words, difference_fits, difference_within}

-- ---- what a constant lacks
lacks_less : (w n c : ℕ) → 0 < w → (if nat_le w (2 * n) && nat_lt n w then Some (w - n) else None) ≡ Some c → c < w
lacks_less w n c positive is =
    ⊎_elim
    (λ (great : w ≤ 2 * n).
    let one : nat_le w (2 * n) ≡ true = grind (arith, nat_tests) in
    ⊎_elim
    (λ (past : w ≤ n).
    let two : nat_lt n w ≡ false = grind (arith, nat_tests) in
    let wrong : None ≡ Some c = rw (one, two) at is in absurd (cc))
    (λ (less : n < w).
    let two : nat_lt n w ≡ true = grind (arith, nat_tests) in
    let some : Some (w - n) ≡ Some c = rw (one, two) at is in
    let lack : w - n ≡ c = same_Some _ _ some in
    omega arith)
    (cases_le w n))
    (λ (small : 2 * n < w).
    let one : nat_le w (2 * n) ≡ false = grind (arith, nat_tests) in
    let wrong : None ≡ Some c = rw one at is in absurd (cc))
    (cases_le w (2 * n))

lacks_from : (w c : ℕ) (o : Option ℕ) → 0 < w → option_and_then (λ n. if nat_le w (2 * n) && nat_lt n w then Some (w - n) else None) o ≡ Some c → c < w
lacks_from w c None positive is = absurd (cc)
lacks_from w c (Some n) positive is = lacks_less w n c positive is

pub width_positive : (width : Width) → 0 < 2 ^ bits_of width
width_positive Narrow = omega arith
width_positive Full = omega arith

pub complement_less : (width : Width) (b : Estimate) (c : ℕ) → complement width b ≡ Some c → c < 2 ^ bits_of width
unfolding complement
complement_less width b c is = lacks_from (2 ^ bits_of width) c (only b) (width_positive width) is

complement_kept : (width : Width) (b y : Estimate) → IsRange b.range → IsWithin b y → y.range.low ≡ y.range.high → complement width b ≡ complement width y
unfolding complement
complement_kept width b y range within is = rw (one_kept b y range within is) refl

complement_none : (width : Width) (y : Estimate) → only y ≡ None → complement width y ≡ None
unfolding complement
complement_none width y is = rw is refl

pub constant_number : (n : ℕ) → n < 2 ^ 64 → IsNumber (constant n)
constant_number n fits = record { words = known_words n fits; range = record { order = omega arith; fits = fits }; least = omega arith; most = most_known n; short = (tt, tt) }

pub constant_fits : (width : Width) (n : ℕ) → n < 2 ^ bits_of width → FitsIn width (constant n)
constant_fits width n less = record { high = less; most = or_lt (bits_of width) n 0 less (width_positive width) }

pub constant_within : (n : ℕ) → IsWithin (constant n) (constant n)
constant_within n = record { bits = λ k z. (z, refl); range = (omega arith, omega arith); tails = (tt, tt) }

-- ---- results are numbers
pub cut_number : (width : Width) (b : KnownBits) (r : Interval) (t : Tails) → AreWords b → r.high < 2 ^ 64 → IsNumberIn (normal_cut width b r t)
unfolding normal_cut
cut_number Full b r t words fits = normal_number b r t words fits
cut_number Narrow b r t words fits = normal_number (low_bits b) (low_between r) t (low_words b words) (low_between_fits r fits)

pub sum_number : (width : Width) (a b : Estimate) → IsNumber a → IsNumber b → IsNumberIn (sum Three width a b)
unfolding sum
sum_number width a b an bn = cut_number width _ _ _ (sum_words a b an.words bn.words) (sum_fits a.range b.range)

pub difference_number : (width : Width) (a b : Estimate) → IsNumber a → IsNumber b → IsNumberIn (difference width a b)
unfolding difference
difference_number width a b an bn = cut_number width _ _ _ (difference_words a b an.words bn.words) (difference_fits a.range b.range an.range.fits)

both_first : (o p : Option Estimate) → IsNumberIn o → IsNumberIn p → IsBelow IsWithin (in_both o p) o
both_first None p on pn = tt
both_first (Some a) None on pn = tt
both_first (Some a) (Some b) on pn = same_first a b on.words pn.words on.range.fits

both_second : (o p : Option Estimate) → IsNumberIn o → IsNumberIn p → IsBelow IsWithin (in_both o p) p
both_second None p on pn = tt
both_second (Some a) None on pn = tt
both_second (Some a) (Some b) on pn = same_second a b on.words pn.words on.range.fits

-- ---- sums
pub added_within : (width : Width) (a b x y : Estimate) → IsNumber a → IsNumber b → IsNumber x → IsNumber y → FitsIn width a → FitsIn width b → IsWithin a x → IsWithin b y → IsBelow IsWithin (added Three width a b) (added Two width x y)
unfolding added
added_within width a b x y an bn xn yn af bf one other = by_one (one_or y)
  where
    sums : IsBelow IsWithin (sum Three width a b) (sum Two width x y)
    sums = sum_within width a b x y an bn xn yn af bf one other

    apart : (o : Option ℕ) → complement width b ≡ o → IsBelow IsWithin (option_map_or (λ n. in_both (difference width a (constant n)) (sum Three width a b)) o (sum Three width a b)) (sum Two width x y)
    apart None is = sums
    apart (Some n) is =
        let less = width_fits width n (complement_less width b n is) in
        below_trans (in_both (difference width a (constant n)) (sum Three width a b)) (sum Three width a b) (sum Two width x y)
        (both_second (difference width a (constant n)) (sum Three width a b) (difference_number width a (constant n) an (constant_number n less)) (sum_number width a b an bn)) sums

    alike : (o : Option ℕ) → complement width b ≡ o → IsBelow IsWithin (option_map_or (λ n. in_both (difference width a (constant n)) (sum Three width a b)) o (sum Three width a b)) (option_map_or (λ n. difference width x (constant n)) o (sum Two width x y))
    alike None is = sums
    alike (Some n) is =
        let less = width_fits width n (complement_less width b n is) in
        below_trans (in_both (difference width a (constant n)) (sum Three width a b)) (difference width a (constant n)) (difference width x (constant n))
        (both_first (difference width a (constant n)) (sum Three width a b) (difference_number width a (constant n) an (constant_number n less)) (sum_number width a b an bn))
        (difference_within width a (constant n) x (constant n) an (constant_number n less) xn (constant_number n less) af one (constant_within n))

    by_one : IsOne y → IsBelow IsWithin (option_map_or (λ n. in_both (difference width a (constant n)) (sum Three width a b)) (complement width b) (sum Three width a b)) (option_map_or (λ n. difference width x (constant n)) (complement width y) (sum Two width x y))
    by_one (several ys) = rw (complement_none width y ys) (apart (complement width b) refl)
    by_one (single ye ys) = rw (sym (complement_kept width b y bn.range other ye)) (alike (complement width b) refl)

-- ---- differences
pub taken_within : (width : Width) (a b x y : Estimate) → IsNumber a → IsNumber b → IsNumber x → IsNumber y → FitsIn width a → IsWithin a x → IsWithin b y → IsBelow IsWithin (taken_away Three width a b) (taken_away Two width x y)
unfolding taken_away
taken_within width a b x y an bn xn yn af one other = by_one (one_or y)
  where
    differences : IsBelow IsWithin (difference width a b) (difference width x y)
    differences = difference_within width a b x y an bn xn yn af one other

    apart : (o : Option ℕ) → complement width b ≡ o → IsBelow IsWithin (option_map_or (λ n. in_both (sum Three width a (constant n)) (difference width a b)) o (difference width a b)) (difference width x y)
    apart None is = differences
    apart (Some n) is =
        let less = width_fits width n (complement_less width b n is) in
        below_trans (in_both (sum Three width a (constant n)) (difference width a b)) (difference width a b) (difference width x y)
        (both_second (sum Three width a (constant n)) (difference width a b) (sum_number width a (constant n) an (constant_number n less)) (difference_number width a b an bn)) differences

    alike : (o : Option ℕ) → complement width b ≡ o → IsBelow IsWithin (option_map_or (λ n. in_both (sum Three width a (constant n)) (difference width a b)) o (difference width a b)) (option_map_or (λ n. sum Two width x (constant n)) o (difference width x y))
    alike None is = differences
    alike (Some n) is =
        let fits = complement_less width b n is in
        let less = width_fits width n fits in
        below_trans (in_both (sum Three width a (constant n)) (difference width a b)) (sum Three width a (constant n)) (sum Two width x (constant n))
        (both_first (sum Three width a (constant n)) (difference width a b) (sum_number width a (constant n) an (constant_number n less)) (difference_number width a b an bn))
        (sum_within width a (constant n) x (constant n) an (constant_number n less) xn (constant_number n less) af (constant_fits width n fits) one (constant_within n))

    by_one : IsOne y → IsBelow IsWithin (option_map_or (λ n. in_both (sum Three width a (constant n)) (difference width a b)) (complement width b) (difference width a b)) (option_map_or (λ n. sum Two width x (constant n)) (complement width y) (difference width x y))
    by_one (several ys) = rw (complement_none width y ys) (apart (complement width b) refl)
    by_one (single ye ys) = rw (sym (complement_kept width b y bn.range other ye)) (alike (complement width b) refl)
