-- What a join says is no more than what a settled side says.
use Rattle.std.proofs.Common.{◌≡◌, ℕ, ◌+◌, ◌-◌, ◌%◌, ◌<◌, min, max, Option, Some, None, refl, sym, ◌∙◌, arith}
use lib.Count.{count_leading_zeros}
use Rattle.known_bits.specs.Bits.{bit}
use Rattle.known_bits.specs.KnownBits.{KnownBits, agreed_bits, common_bits, merged_bits}
use Rattle.known_bits.proofs.BitLaws.{bit-lt}
use Rattle.intervals.specs.Interval.{from_to, hull_of}
use Rattle.abstract_state.specs.Estimate.{Estimate, under_tail, under_tails, narrowed, normal, joined, no_tails, both_tails, lesser_tail}
use Rattle.estimate_order.specs.Order.{AreBitsWithin, IsTailWithin, IsWithin, IsBelow, AreWords, IsNumber, IsSettled, three_by_range}
use Rattle.estimate_order.proofs.Bitwise.{join_bit, join_one, agreed_words}
use Rattle.estimate_order.proofs.Normal.{normal_within}
use Rattle.estimate_order.proofs.Inside.{bits_trans, tail_trans, below_trans}

-- ---- each side is within what either may be
first_known : (ao au bo bu : ℕ) → max (max au bu) ((ao + bo) % 2) ≡ 0 → au ≡ 0
first_known ao au bo bu z = omega arith

second_known : (ao au bo bu : ℕ) → max (max au bu) ((ao + bo) % 2) ≡ 0 → bu ≡ 0
second_known ao au bo bu z = omega arith

first_value : (ao u : ℕ) → ao < 2 → u ≡ 0 → ao ≡ min ao (1 - u)
first_value ao u less z = omega arith

second_value : (ao bo m u : ℕ) → ao < 2 → bo < 2 → u ≡ max m ((ao + bo) % 2) → u ≡ 0 → bo ≡ min ao (1 - u)
second_value ao bo m u a b is z = grind arith

first_agreed : (a b : KnownBits) → AreWords a → AreWords b → AreBitsWithin a (agreed_bits a b)
first_agreed a b aw bw k z =
    let here = sym (join_bit a b k) ∙ z in (
      first_known (bit a.ones k) (bit a.unknown k) (bit b.ones k) (bit b.unknown k) here,
      first_value (bit a.ones k) (max (max (bit a.unknown k) (bit b.unknown k)) ((bit a.ones k + bit b.ones k) % 2)) (bit-lt a.ones k) here ∙ sym (join_one a b k aw bw),
    )

second_agreed : (a b : KnownBits) → AreWords a → AreWords b → AreBitsWithin b (agreed_bits a b)
second_agreed a b aw bw k z =
    let here = sym (join_bit a b k) ∙ z in (
      second_known (bit a.ones k) (bit a.unknown k) (bit b.ones k) (bit b.unknown k) here,
      second_value (bit a.ones k) (bit b.ones k) (max (bit a.unknown k) (bit b.unknown k)) (max (max (bit a.unknown k) (bit b.unknown k)) ((bit a.ones k + bit b.ones k) % 2)) (bit-lt a.ones k) (bit-lt b.ones k) refl here
          ∙ sym (join_one a b k aw bw),
    )

first_lesser : (t u : Option ℕ) → IsTailWithin t (lesser_tail t u)
first_lesser None u = tt
first_lesser (Some t) None = tt
first_lesser (Some t) (Some u) = omega arith

second_lesser : (t u : Option ℕ) → IsTailWithin u (lesser_tail t u)
second_lesser None u = tt
second_lesser (Some t) None = tt
second_lesser (Some t) (Some u) = omega arith

-- ---- a settled number is within each join of what it is within
pub settled_left : (a x y : Estimate) → IsNumber a → IsNumber x → IsNumber y → IsSettled a → IsWithin a x → IsBelow IsWithin (Some a) (joined x y)
unfolding joined hull_of
settled_left a x y an xn yn settled one =
    let low = one.range.0 in
    let high = one.range.1 in
    let xf = xn.range.fits in
    let yf = yn.range.fits in
    below_trans (Some a) (normal a.bits a.range a.tails) (normal (agreed_bits x.bits y.bits) (hull_of x.range y.range) (both_tails lesser_tail x.tails y.tails)) settled
    (normal_within a.bits (agreed_bits x.bits y.bits) a.range (hull_of x.range y.range) a.tails (both_tails lesser_tail x.tails y.tails) an.words (agreed_words x.bits y.bits xn.words yn.words) (omega arith)
    (bits_trans a.bits x.bits (agreed_bits x.bits y.bits) one.bits (first_agreed x.bits y.bits xn.words yn.words)) (omega arith, omega arith)
    (tail_trans a.tails.text x.tails.text (lesser_tail x.tails.text y.tails.text) one.tails.0 (first_lesser x.tails.text y.tails.text), tail_trans a.tails.link x.tails.link (lesser_tail x.tails.link y.tails.link) one.tails.1 (first_lesser x.tails.link y.tails.link)))

pub settled_right : (b x y : Estimate) → IsNumber b → IsNumber x → IsNumber y → IsSettled b → IsWithin b y → IsBelow IsWithin (Some b) (joined x y)
unfolding joined hull_of
settled_right b x y bn xn yn settled other =
    let low = other.range.0 in
    let high = other.range.1 in
    let xf = xn.range.fits in
    let yf = yn.range.fits in
    below_trans (Some b) (normal b.bits b.range b.tails) (normal (agreed_bits x.bits y.bits) (hull_of x.range y.range) (both_tails lesser_tail x.tails y.tails)) settled
    (normal_within b.bits (agreed_bits x.bits y.bits) b.range (hull_of x.range y.range) b.tails (both_tails lesser_tail x.tails y.tails) bn.words (agreed_words x.bits y.bits xn.words yn.words) (omega arith)
    (bits_trans b.bits y.bits (agreed_bits x.bits y.bits) other.bits (second_agreed x.bits y.bits xn.words yn.words)) (omega arith, omega arith)
    (tail_trans b.tails.text y.tails.text (lesser_tail x.tails.text y.tails.text) other.tails.0 (second_lesser x.tails.text y.tails.text), tail_trans b.tails.link y.tails.link (lesser_tail x.tails.link y.tails.link) other.tails.1 (second_lesser x.tails.link y.tails.link)))

-- ---- a normal form that isn't settled
pub three_is_normal : normal (record { ones = 0; unknown = 11 }) (from_to 3 7) no_tails ≡ Some three_by_range
unfolding normal narrowed under_tails under_tail merged_bits common_bits count_leading_zeros
three_is_normal = refl

three_joined : joined three_by_range three_by_range ≡ Some (record { bits = record { ones = 3; unknown = 0 }; range = from_to 3 3; tails = no_tails })
unfolding joined hull_of agreed_bits normal narrowed under_tails under_tail merged_bits common_bits count_leading_zeros
three_joined = refl

one_unknown : bit 3 0 ≡ 1
unfolding bit
one_unknown = refl

none_unknown : bit 0 0 ≡ 0
unfolding bit
none_unknown = refl

pub three_not_settled : IsBelow IsWithin (Some three_by_range) (joined three_by_range three_by_range) → ⊥
three_not_settled below =
    let within : IsWithin three_by_range (record { bits = record { ones = 3; unknown = 0 }; range = from_to 3 3; tails = no_tails }) = rw three_joined at below in
    let known = (within.bits 0 none_unknown).0 in
    absurd (omega (arith, known, one_unknown))
