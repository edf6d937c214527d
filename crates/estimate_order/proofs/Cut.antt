-- Results of 32 and of 64 bits, and the operations that say what they do whatever the context, keep the order.
use Rattle.std.proofs.Common.{◌≡◌, ℕ, ◌*◌, ◌^◌, ◌<◌, ◌≤◌, nat_lt, true, false, refl, arith, ⊎_elim}
use Rattle.std.proofs.lemmas.Bool.Decides.{nat_tests}
use Rattle.std.proofs.lemmas.Bool.{cases_lt}
use Rattle.bpf_words.specs.declared.instruction.Width.{Width}
use Rattle.bpf_words.specs.declared.instruction.Width.TheVariants.{Narrow, Full}
use Rattle.known_bits.specs.KnownBits.{KnownBits, none_known, low_bits, bits_of_both, bits_of_either, bits_of_one}
use Rattle.known_bits.proofs.BitLaws.{bit-zero}
use Rattle.intervals.specs.Interval.{Interval, from_to, every_word, in_word, low_between, product_between, and_between, remainder_between}
use Rattle.abstract_state.specs.declared.region.Tails.{Tails}
use Rattle.abstract_state.specs.Estimate.{Estimate, normal_cut, operand_cut, no_tails, both_tails, greater_tail}
use Rattle.abstract_state.specs.Transfer.{of_both, of_either, of_one, product, remaining, shrunk}
use Rattle.estimate_order.specs.Order.{AreBitsWithin, IsIntervalWithin, AreTailsWithin, IsWithin, IsBelow, AreWords, IsRange, IsNumber}
use Rattle.estimate_order.proofs.Bitwise.{low_within, low_words, both_bits_within, both_bits_words, either_bits_within, either_bits_words, one_bits_within, one_bits_words}
use Rattle.estimate_order.proofs.Normal.{normal_within}
use Rattle.estimate_order.proofs.Numbers.{greater_within}

-- ---- intervals
low_between_within : (r s : Interval) → IsIntervalWithin r s → IsIntervalWithin (low_between r) (low_between s)
unfolding low_between
low_between_within r s within =
    let low = within.0 in
    let high = within.1 in
    ⊎_elim
    (λ (small : s.high < 2 ^ 32).
    let yes : nat_lt s.high (2 ^ 32) ≡ true = grind (arith, nat_tests) in
    let also : nat_lt r.high (2 ^ 32) ≡ true = grind (arith, nat_tests) in
    rw (yes, also) within)
    (λ (great : 2 ^ 32 ≤ s.high).
    let no : nat_lt s.high (2 ^ 32) ≡ false = grind (arith, nat_tests) in
    rw no
    (⊎_elim
    (λ (small : r.high < 2 ^ 32). let yes : nat_lt r.high (2 ^ 32) ≡ true = grind (arith, nat_tests) in rw yes (omega arith, omega arith))
    (λ (also : 2 ^ 32 ≤ r.high). let never : nat_lt r.high (2 ^ 32) ≡ false = grind (arith, nat_tests) in rw never (omega arith, omega arith))
    (cases_lt r.high (2 ^ 32))))
    (cases_lt s.high (2 ^ 32))

pub low_between_fits : (s : Interval) → s.high < 2 ^ 64 → (low_between s).high < 2 ^ 64
unfolding low_between
low_between_fits s fits =
    ⊎_elim
    (λ (small : s.high < 2 ^ 32). let yes : nat_lt s.high (2 ^ 32) ≡ true = grind (arith, nat_tests) in rw yes fits)
    (λ (great : 2 ^ 32 ≤ s.high). let no : nat_lt s.high (2 ^ 32) ≡ false = grind (arith, nat_tests) in rw no (omega arith))
    (cases_lt s.high (2 ^ 32))

pub in_word_within : (r s : Interval) → IsIntervalWithin r s → IsIntervalWithin (in_word r) (in_word s)
in_word_within r s within =
    let low = within.0 in
    let high = within.1 in
    ⊎_elim
    (λ (small : s.high < 2 ^ 64).
    let yes : nat_lt s.high (2 ^ 64) ≡ true = grind (arith, nat_tests) in
    let also : nat_lt r.high (2 ^ 64) ≡ true = grind (arith, nat_tests) in
    rw (yes, also) within)
    (λ (great : 2 ^ 64 ≤ s.high).
    let no : nat_lt s.high (2 ^ 64) ≡ false = grind (arith, nat_tests) in
    rw no
    (⊎_elim
    (λ (small : r.high < 2 ^ 64). let yes : nat_lt r.high (2 ^ 64) ≡ true = grind (arith, nat_tests) in rw yes (omega arith, omega arith))
    (λ (also : 2 ^ 64 ≤ r.high). let never : nat_lt r.high (2 ^ 64) ≡ false = grind (arith, nat_tests) in rw never (omega arith, omega arith))
    (cases_lt r.high (2 ^ 64))))
    (cases_lt s.high (2 ^ 64))

pub in_word_fits : (s : Interval) → (in_word s).high < 2 ^ 64
in_word_fits s =
    ⊎_elim
    (λ (small : s.high < 2 ^ 64). let yes : nat_lt s.high (2 ^ 64) ≡ true = grind (arith, nat_tests) in rw yes small)
    (λ (great : 2 ^ 64 ≤ s.high). let no : nat_lt s.high (2 ^ 64) ≡ false = grind (arith, nat_tests) in rw no (omega arith))
    (cases_lt s.high (2 ^ 64))

-- ---- results of a width
pub cut_within : (width : Width) (a x : KnownBits) (r s : Interval) (t u : Tails) → AreWords a → AreWords x → s.high < 2 ^ 64 → AreBitsWithin a x → IsIntervalWithin r s → AreTailsWithin t u → IsBelow IsWithin (normal_cut width a r t) (normal_cut width x s u)
unfolding normal_cut
cut_within Full a x r s t u aw xw fits bits within tails = normal_within a x r s t u aw xw fits bits within tails
cut_within Narrow a x r s t u aw xw fits bits within tails =
    normal_within (low_bits a) (low_bits x) (low_between r) (low_between s) t u (low_words a aw) (low_words x xw) (low_between_fits s fits)
    (low_within a x aw xw bits) (low_between_within r s within) tails

pub operand_within : (width : Width) (a x : Estimate) → IsNumber a → IsNumber x → IsWithin a x → IsBelow IsWithin (operand_cut width a) (operand_cut width x)
unfolding operand_cut
operand_within Full a x an xn one = one
operand_within Narrow a x an xn one = cut_within Narrow a.bits x.bits a.range x.range a.tails x.tails an.words xn.words xn.range.fits one.bits one.range one.tails

pub none_words : AreWords none_known
none_words = record { ones = omega arith; unknown = omega arith; apart = λ k. rw (bit-zero k) (omega arith) }

pub none_within : AreBitsWithin none_known none_known
none_within k z = (z, refl)

-- ---- operations
pub of_both_within : (width : Width) (a b x y : Estimate) → IsNumber a → IsNumber b → IsNumber x → IsNumber y → IsWithin a x → IsWithin b y → IsBelow IsWithin (of_both width a b) (of_both width x y)
unfolding of_both and_between
of_both_within width a b x y an bn xn yn one other =
    let ah = one.range.1 in
    let bh = other.range.1 in
    let xf = xn.range.fits in
    cut_within width (bits_of_both a.bits b.bits) (bits_of_both x.bits y.bits) (and_between a.range b.range) (and_between x.range y.range) (both_tails greater_tail a.tails b.tails) (both_tails greater_tail x.tails y.tails)
    (both_bits_words a.bits b.bits an.words bn.words) (both_bits_words x.bits y.bits xn.words yn.words) (omega arith)
    (both_bits_within a.bits b.bits x.bits y.bits an.words bn.words xn.words yn.words one.bits other.bits) (omega arith, omega arith)
    (greater_within a.tails.text b.tails.text x.tails.text y.tails.text one.tails.0 other.tails.0, greater_within a.tails.link b.tails.link x.tails.link y.tails.link one.tails.1 other.tails.1)

pub of_either_within : (width : Width) (a b x y : Estimate) → IsNumber a → IsNumber b → IsNumber x → IsNumber y → IsWithin a x → IsWithin b y → IsBelow IsWithin (of_either width a b) (of_either width x y)
unfolding of_either
of_either_within width a b x y an bn xn yn one other =
    cut_within width (bits_of_either a.bits b.bits) (bits_of_either x.bits y.bits) every_word every_word no_tails no_tails (either_bits_words a.bits b.bits an.words bn.words) (either_bits_words x.bits y.bits xn.words yn.words) (omega arith)
    (either_bits_within a.bits b.bits x.bits y.bits an.words bn.words xn.words yn.words one.bits other.bits) (omega arith, omega arith) (tt, tt)

pub of_one_within : (width : Width) (a b x y : Estimate) → IsNumber a → IsNumber b → IsNumber x → IsNumber y → IsWithin a x → IsWithin b y → IsBelow IsWithin (of_one width a b) (of_one width x y)
unfolding of_one
of_one_within width a b x y an bn xn yn one other =
    cut_within width (bits_of_one a.bits b.bits) (bits_of_one x.bits y.bits) every_word every_word no_tails no_tails (one_bits_words a.bits b.bits an.words bn.words) (one_bits_words x.bits y.bits xn.words yn.words) (omega arith)
    (one_bits_within a.bits b.bits x.bits y.bits an.words bn.words xn.words yn.words one.bits other.bits) (omega arith, omega arith) (tt, tt)

product_above : (a b x y : ℕ) → a ≤ x → b ≤ y → a * b ≤ x * y
product_above a b x y h g = grind arith

pub product_within : (width : Width) (a b x y : Estimate) → IsNumber a → IsNumber b → IsNumber x → IsNumber y → IsWithin a x → IsWithin b y → IsBelow IsWithin (product width a b) (product width x y)
unfolding product product_between
product_within width a b x y an bn xn yn one other =
    let least = product_above x.range.low y.range.low a.range.low b.range.low one.range.0 other.range.0 in
    let most = product_above a.range.high b.range.high x.range.high y.range.high one.range.1 other.range.1 in
    cut_within width none_known none_known (product_between a.range b.range) (product_between x.range y.range) no_tails no_tails none_words none_words
    (in_word_fits (from_to (x.range.low * y.range.low) (x.range.high * y.range.high))) none_within
    (in_word_within (from_to (a.range.low * b.range.low) (a.range.high * b.range.high)) (from_to (x.range.low * y.range.low) (x.range.high * y.range.high)) (least, most)) (tt, tt)

remainder_ordered : (r q s p : Interval) → IsIntervalWithin r s → IsIntervalWithin q p → IsRange q → IsIntervalWithin (remainder_between r q) (remainder_between s p)
unfolding remainder_between
remainder_ordered r q s p one other range =
    let high = one.1 in
    let low = other.0 in
    let least = other.1 in
    ⊎_elim
    (λ (some : 0 < p.low).
    let yes : nat_lt 0 p.low ≡ true = grind (arith, nat_tests) in
    let also : nat_lt 0 q.low ≡ true = grind (arith, nat_tests) in
    rw (yes, also) (omega arith, omega arith))
    (λ (none : p.low ≤ 0).
    let no : nat_lt 0 p.low ≡ false = grind (arith, nat_tests) in
    rw no
    (⊎_elim
    (λ (some : 0 < q.low). let yes : nat_lt 0 q.low ≡ true = grind (arith, nat_tests) in rw yes (omega arith, omega arith))
    (λ (also : q.low ≤ 0). let never : nat_lt 0 q.low ≡ false = grind (arith, nat_tests) in rw never (omega arith, omega arith))
    (cases_lt 0 q.low)))
    (cases_lt 0 p.low)

pub remainder_fits : (s p : Interval) → s.high < 2 ^ 64 → (remainder_between s p).high < 2 ^ 64
unfolding remainder_between
remainder_fits s p fits =
    ⊎_elim
    (λ (some : 0 < p.low). let yes : nat_lt 0 p.low ≡ true = grind (arith, nat_tests) in rw yes (omega arith))
    (λ (none : p.low ≤ 0). let no : nat_lt 0 p.low ≡ false = grind (arith, nat_tests) in rw no fits)
    (cases_lt 0 p.low)

pub remaining_within : (width : Width) (a b x y : Estimate) → IsNumber a → IsNumber b → IsNumber x → IsNumber y → IsWithin a x → IsWithin b y → IsBelow IsWithin (remaining width a b) (remaining width x y)
unfolding remaining
remaining_within width a b x y an bn xn yn one other =
    cut_within width none_known none_known (remainder_between a.range b.range) (remainder_between x.range y.range) a.tails x.tails none_words none_words
    (remainder_fits x.range y.range xn.range.fits) none_within (remainder_ordered a.range b.range x.range y.range one.range other.range bn.range) one.tails

pub shrunk_within : (width : Width) (a x : Estimate) → IsNumber x → IsWithin a x → IsBelow IsWithin (shrunk width a) (shrunk width x)
unfolding shrunk
shrunk_within width a x xn one =
    let high = one.range.1 in
    cut_within width none_known none_known (from_to 0 a.range.high) (from_to 0 x.range.high) a.tails x.tails none_words none_words xn.range.fits none_within (omega arith, high) one.tails
