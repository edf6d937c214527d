-- Of quotients and of shifted numbers context 3 knows no less than context 2.
use Rattle.std.proofs.Common.{◌≡◌, ℕ, ◌-◌, ◌*◌, ◌/◌, ◌^◌, ◌<◌, ◌≤◌, nat_lt, if◌then◌else◌, Bool, true, false, Option, Some, None, refl, sym, subst, arith, ⊎_elim}
use Rattle.std.specs.Option.{option_map_or}
use Rattle.std.proofs.lemmas.Nat.{le-div, shr_le, pow_pos, div-add-mod'}
use Rattle.std.proofs.lemmas.Grind.{common_steps}
use Rattle.std.proofs.lemmas.Bool.Decides.{nat_tests}
use Rattle.std.proofs.lemmas.Bool.{cases_lt}
use Rattle.span_context.specs.declared.profile.Profile.TheVariants.{Two, Three}
use Rattle.bpf_words.specs.declared.instruction.Width.{Width}
use Rattle.known_bits.specs.KnownBits.{none_known, bits_shifted_left, bits_shifted_right}
use Rattle.intervals.specs.Interval.{Interval, from_to, quotient_between, shifted_left_between, shifted_right_between}
use Rattle.abstract_state.specs.declared.region.Tails.{Tails}
use Rattle.abstract_state.specs.Estimate.{Estimate, only, no_tails, raised_tail}
use Rattle.abstract_state.specs.Transfer.{tails_over, quotient_tails, divided, shifted_left_by, shifted_right_by}
use Rattle.estimate_order.specs.Order.{IsIntervalWithin, IsTailWithin, AreTailsWithin, IsWithin, IsBelow, IsRange, IsShort, IsNumber}
use Rattle.estimate_order.proofs.Bitwise.{right_within, right_words, left_within, left_words}
use Rattle.estimate_order.proofs.Cut.{in_word_within, in_word_fits, cut_within, none_words, none_within}

-- ---- quotients
quotient_less : (a b c d : ℕ) → a ≤ b → d ≤ c → 0 < d → a / c ≤ b / d
quotient_less a b c d most least positive =
    let whole : a / c * c ≤ a = omega (arith, div-add-mod' a c) in
    let part : a / c * d ≤ a / c * c = product_less (a / c) d c least in
    le-div (a / c) b d positive (omega arith)
  where
    product_less : (q m n : ℕ) → m ≤ n → q * m ≤ q * n
    product_less q m n less = grind arith

quotient_small : (a d : ℕ) → 0 < d → a / d ≤ a
quotient_small a d positive = grind (arith, common_steps)

quotients_between : (r q s p : Interval) → IsRange q → IsIntervalWithin r s → IsIntervalWithin q p → IsIntervalWithin (quotient_between r q) (quotient_between s p)
unfolding quotient_between
quotients_between r q s p range one other =
    let order = range.order in
    let rl = one.0 in
    let rh = one.1 in
    let ql = other.0 in
    let qh = other.1 in
    ⊎_elim
    (λ (some : 0 < p.low).
    let yes : nat_lt 0 p.low ≡ true = grind (arith, nat_tests) in
    let also : nat_lt 0 q.low ≡ true = grind (arith, nat_tests) in
    let positive : 0 < q.high = omega arith in
    rw (yes, also) (quotient_less s.low r.low p.high q.high rl qh positive, quotient_less r.high s.high q.low p.low rh ql some))
    (λ (none : p.low ≤ 0).
    let no : nat_lt 0 p.low ≡ false = grind (arith, nat_tests) in
    rw no
    (⊎_elim
    (λ (some : 0 < q.low).
    let yes : nat_lt 0 q.low ≡ true = grind (arith, nat_tests) in
    rw yes (omega arith, omega (arith, quotient_small r.high q.low some)))
    (λ (also : q.low ≤ 0). let never : nat_lt 0 q.low ≡ false = grind (arith, nat_tests) in rw never (omega arith, omega arith))
    (cases_lt 0 q.low)))
    (cases_lt 0 p.low)

pub quotient_fits : (s p : Interval) → s.high < 2 ^ 64 → (quotient_between s p).high < 2 ^ 64
unfolding quotient_between
quotient_fits s p fits =
    ⊎_elim
    (λ (some : 0 < p.low). let yes : nat_lt 0 p.low ≡ true = grind (arith, nat_tests) in rw yes (omega (arith, quotient_small s.high p.low some)))
    (λ (none : p.low ≤ 0). let no : nat_lt 0 p.low ≡ false = grind (arith, nat_tests) in rw no fits)
    (cases_lt 0 p.low)

-- ---- tails
raised_more : (t u : Option ℕ) (n : ℕ) → IsShort t → IsTailWithin t u → IsTailWithin (raised_tail n t) u
raised_more t None n short h = tt
raised_more None (Some u) n short h = absurd h
raised_more (Some t) (Some u) n short h = omega arith

pub over_plain : (n : ℕ) (a x : Estimate) → IsNumber a → IsWithin a x → AreTailsWithin (tails_over Three n a) x.tails
unfolding tails_over
over_plain n a x an one = (
  raised_more a.tails.text x.tails.text (a.range.low - a.range.low / n) an.short.0 one.tails.0,
  raised_more a.tails.link x.tails.link (a.range.low - a.range.low / n) an.short.1 one.tails.1,
)

over_within : (n : ℕ) (a x : Estimate) → IsNumber a → IsWithin a x → AreTailsWithin (tails_over Three n a) (tails_over Two n x)
unfolding tails_over
over_within n a x an one = over_plain n a x an one

either_over : (b : Bool) (n : ℕ) (a x : Estimate) → IsNumber a → IsWithin a x → AreTailsWithin (if b then tails_over Three n a else a.tails) x.tails
unfolding tails_over
either_over true n a x an one = over_within n a x an one
either_over false n a x an one = one.tails

two_over : (b : Bool) (n : ℕ) (x : Estimate) → (if b then tails_over Two n x else x.tails) ≡ x.tails
unfolding tails_over
two_over true n x = refl
two_over false n x = refl

two_tails : (x : Estimate) (o : Option ℕ) → option_map_or (λ n. if nat_lt 0 n then tails_over Two n x else x.tails) o x.tails ≡ x.tails
two_tails x None = refl
two_tails x (Some n) = two_over (nat_lt 0 n) n x

three_tails : (a x : Estimate) (o : Option ℕ) → IsNumber a → IsWithin a x → AreTailsWithin (option_map_or (λ n. if nat_lt 0 n then tails_over Three n a else a.tails) o a.tails) x.tails
three_tails a x None an one = one.tails
three_tails a x (Some n) an one = either_over (nat_lt 0 n) n a x an one

quotient_tails_within : (a b x y : Estimate) → IsNumber a → IsWithin a x → AreTailsWithin (quotient_tails Three a b) (quotient_tails Two x y)
unfolding quotient_tails
quotient_tails_within a b x y an one =
    subst (λ (u : Tails). AreTailsWithin (option_map_or (λ n. if nat_lt 0 n then tails_over Three n a else a.tails) (only b) a.tails) u) (sym (two_tails x (only y)))
    (three_tails a x (only b) an one)

pub divided_within : (width : Width) (a b x y : Estimate) → IsNumber a → IsNumber b → IsNumber x → IsWithin a x → IsWithin b y → IsBelow IsWithin (divided Three width a b) (divided Two width x y)
unfolding divided
divided_within width a b x y an bn xn one other =
    cut_within width none_known none_known (quotient_between a.range b.range) (quotient_between x.range y.range) (quotient_tails Three a b) (quotient_tails Two x y) none_words none_words
    (quotient_fits x.range y.range xn.range.fits) none_within (quotients_between a.range b.range x.range y.range bn.range one.range other.range) (quotient_tails_within a b x y an one)

-- ---- shifts by a known count
shift_less : (n a b : ℕ) → a ≤ b → a / 2 ^ n ≤ b / 2 ^ n
shift_less n a b less = quotient_less a b (2 ^ n) (2 ^ n) less (omega arith) (pow_pos n)

pub shifted_right_within : (width : Width) (a x : Estimate) (n : ℕ) → IsNumber a → IsNumber x → IsWithin a x → IsBelow IsWithin (shifted_right_by Three width a n) (shifted_right_by Two width x n)
unfolding shifted_right_by shifted_right_between
shifted_right_within width a x n an xn one =
    let low = shift_less n x.range.low a.range.low one.range.0 in
    let high = shift_less n a.range.high x.range.high one.range.1 in
    let small = shr_le x.range.high n in
    let fits = xn.range.fits in
    cut_within width (bits_shifted_right n a.bits) (bits_shifted_right n x.bits) (shifted_right_between n a.range) (shifted_right_between n x.range) (tails_over Three (2 ^ n) a) (tails_over Two (2 ^ n) x)
    (right_words n a.bits an.words) (right_words n x.bits xn.words) (omega arith) (right_within n a.bits x.bits one.bits) (low, high) (over_within (2 ^ n) a x an one)

product_less : (a b n : ℕ) → a ≤ b → a * n ≤ b * n
product_less a b n less = grind arith

pub shifted_left_within : (width : Width) (a x : Estimate) (n : ℕ) → IsNumber a → IsNumber x → IsWithin a x → IsBelow IsWithin (shifted_left_by width a n) (shifted_left_by width x n)
unfolding shifted_left_by shifted_left_between
shifted_left_within width a x n an xn one =
    let low = product_less x.range.low a.range.low (2 ^ n) one.range.0 in
    let high = product_less a.range.high x.range.high (2 ^ n) one.range.1 in
    cut_within width (bits_shifted_left n a.bits) (bits_shifted_left n x.bits) (shifted_left_between n a.range) (shifted_left_between n x.range) no_tails no_tails
    (left_words n a.bits an.words) (left_words n x.bits xn.words) (in_word_fits (from_to (x.range.low * 2 ^ n) (x.range.high * 2 ^ n))) (left_within n a.bits x.bits one.bits)
    (in_word_within (from_to (a.range.low * 2 ^ n) (a.range.high * 2 ^ n)) (from_to (x.range.low * 2 ^ n) (x.range.high * 2 ^ n)) (low, high)) (tt, tt)
