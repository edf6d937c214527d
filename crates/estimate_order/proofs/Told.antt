-- What a comparison tells of both its sides keeps the order, and is within what was known of them.
use Rattle.std.proofs.Common.{◌≡◌, ℕ, ◌+◌, ◌-◌, ◌^◌, ◌<◌, ◌≤◌, min, max, nat_lt, nat_eq, ◌&&◌, if◌then◌else◌, Bool, true, false, Option, Some, None, refl, arith, ⊎_elim}
use Rattle.std.specs.Prelude.{option_map, option_and_then}
use Rattle.std.specs.Option.{option_map_or}
use Rattle.std.proofs.lemmas.Bool.Decides.{nat_tests}
use Rattle.std.proofs.lemmas.Bool.{cases_lt, cases_eq}
use Rattle.bpf_words.specs.declared.instruction.Width.{Width}
use Rattle.bpf_words.specs.declared.instruction.Comparison.{Comparison}
use Rattle.known_bits.specs.KnownBits.{KnownBits}
use Rattle.intervals.specs.Interval.{Interval, some_between}
use Rattle.abstract_state.specs.declared.relation.Relation.{Relation}
use Rattle.abstract_state.specs.declared.relation.Relation.TheVariants.{Less, AtMost, Same, Apart, AtLeast, Greater}
use Rattle.abstract_state.specs.declared.region.Tails.{Tails}
use Rattle.abstract_state.specs.Estimate.{Estimate, normal, only, each_tail, both_tails, raised_tail, greater_tail}
use Rattle.abstract_state.specs.Comparing.{Told, told, both_told, below, above, ordered, turned, same, without_end, apart, refined, relation_of, reach, told_on}
use Rattle.estimate_order.specs.Order.{AreBitsWithin, IsIntervalWithin, IsTailWithin, AreTailsWithin, IsWithin, IsBelow, AreWords, IsRange, IsNumber, IsToldWithin}
use Rattle.estimate_order.proofs.Normal.{IsRangeIn, between_within, between_range, inside, normal_within}
use Rattle.estimate_order.proofs.Numbers.{greater_within, raised_within, same_within}
use Rattle.estimate_order.proofs.Inside.{within_trans, normal_inside, greater_first, same_first, same_second}
use Rattle.estimate_order.proofs.Sums.{IsOne, single, several, one_or, one_kept}

-- ---- with another interval
ranged_within : (a x : KnownBits) (t u : Tails) (o p : Option Interval) → AreWords a → AreWords x → AreBitsWithin a x → AreTailsWithin t u → IsRangeIn p → IsBelow IsIntervalWithin o p → IsBelow IsWithin (option_and_then (λ r. normal a r t) o) (option_and_then (λ r. normal x r u) p)
ranged_within a x t u None p aw xw bits tails range below = tt
ranged_within a x t u (Some f) None aw xw bits tails range below = absurd below
ranged_within a x t u (Some f) (Some g) aw xw bits tails range below = normal_within a x f g t u aw xw range.fits bits below tails

ranged_inside : (a : KnownBits) (t : Tails) (e : Estimate) (o : Option Interval) → AreWords a → AreBitsWithin a e.bits → AreTailsWithin t e.tails → IsRangeIn o → IsBelow IsIntervalWithin o (Some e.range) → IsBelow IsWithin (option_and_then (λ r. normal a r t) o) (Some e)
ranged_inside a t e None words bits tails range below = tt
ranged_inside a t e (Some f) words bits tails range below = normal_inside a f t e words range.fits bits below tails

pub bits_itself : (b : KnownBits) → AreBitsWithin b b
bits_itself b k z = (z, refl)

pub tail_itself : (t : Option ℕ) → IsTailWithin t t
tail_itself None = tt
tail_itself (Some t) = omega arith

-- ---- the left side is below the right one
below_tails : (n : ℕ) (a b x y : Estimate) → IsWithin a x → IsWithin b y → AreTailsWithin (both_tails greater_tail a.tails (each_tail (raised_tail n) b.tails)) (both_tails greater_tail x.tails (each_tail (raised_tail n) y.tails))
below_tails n a b x y one other = (
  greater_within a.tails.text (raised_tail n b.tails.text) x.tails.text (raised_tail n y.tails.text) one.tails.0 (raised_within b.tails.text y.tails.text n n other.tails.0 (omega arith)),
  greater_within a.tails.link (raised_tail n b.tails.link) x.tails.link (raised_tail n y.tails.link) one.tails.1 (raised_within b.tails.link y.tails.link n n other.tails.1 (omega arith)),
)

below_within : (n : ℕ) (a b x y : Estimate) → IsNumber a → IsNumber x → IsWithin a x → IsWithin b y → IsBelow IsWithin (below n a b) (below n x y)
unfolding below
below_within n a b x y an xn one other =
    let al = one.range.0 in
    let ah = one.range.1 in
    let bh = other.range.1 in
    let fits = xn.range.fits in
    ⊎_elim
    (λ (none : b.range.high < n). let yes : nat_lt b.range.high n ≡ true = grind (arith, nat_tests) in rw yes tt)
    (λ (some : n ≤ b.range.high).
    let no : nat_lt b.range.high n ≡ false = grind (arith, nat_tests) in
    let too : nat_lt y.range.high n ≡ false = grind (arith, nat_tests) in
    rw (no, too)
    (ranged_within a.bits x.bits (both_tails greater_tail a.tails (each_tail (raised_tail n) b.tails)) (both_tails greater_tail x.tails (each_tail (raised_tail n) y.tails))
    (some_between a.range.low (min a.range.high (b.range.high - n))) (some_between x.range.low (min x.range.high (y.range.high - n))) an.words xn.words one.bits (below_tails n a b x y one other)
    (between_range x.range.low (min x.range.high (y.range.high - n)) (omega arith))
    (between_within a.range.low (min a.range.high (b.range.high - n)) x.range.low (min x.range.high (y.range.high - n)) (omega arith) (omega arith))))
    (cases_lt b.range.high n)

below_inside : (n : ℕ) (x y : Estimate) → IsNumber x → IsBelow IsWithin (below n x y) (Some x)
unfolding below
below_inside n x y xn =
    let fits = xn.range.fits in
    ⊎_elim
    (λ (none : y.range.high < n). let yes : nat_lt y.range.high n ≡ true = grind (arith, nat_tests) in rw yes tt)
    (λ (some : n ≤ y.range.high).
    let no : nat_lt y.range.high n ≡ false = grind (arith, nat_tests) in
    rw no
    (ranged_inside x.bits (both_tails greater_tail x.tails (each_tail (raised_tail n) y.tails)) x (some_between x.range.low (min x.range.high (y.range.high - n))) xn.words (bits_itself x.bits)
    (greater_first x.tails.text (raised_tail n y.tails.text), greater_first x.tails.link (raised_tail n y.tails.link))
    (between_range x.range.low (min x.range.high (y.range.high - n)) (omega arith))
    (inside x.range.low (min x.range.high (y.range.high - n)) x.range (omega arith) (omega arith))))
    (cases_lt y.range.high n)

above_within : (n : ℕ) (b a y x : Estimate) → IsNumber b → IsNumber y → IsWithin a x → IsWithin b y → IsBelow IsWithin (above n b a) (above n y x)
unfolding above
above_within n b a y x bn yn one other =
    let al = one.range.0 in
    let bl = other.range.0 in
    let bh = other.range.1 in
    ranged_within b.bits y.bits b.tails y.tails (some_between (max b.range.low (a.range.low + n)) b.range.high) (some_between (max y.range.low (x.range.low + n)) y.range.high) bn.words yn.words other.bits other.tails
    (between_range (max y.range.low (x.range.low + n)) y.range.high yn.range.fits)
    (between_within (max b.range.low (a.range.low + n)) b.range.high (max y.range.low (x.range.low + n)) y.range.high (omega arith) bh)

above_inside : (n : ℕ) (y x : Estimate) → IsNumber y → IsBelow IsWithin (above n y x) (Some y)
unfolding above
above_inside n y x yn =
    ranged_inside y.bits y.tails y (some_between (max y.range.low (x.range.low + n)) y.range.high) yn.words (bits_itself y.bits) (tail_itself y.tails.text, tail_itself y.tails.link)
    (between_range (max y.range.low (x.range.low + n)) y.range.high yn.range.fits) (inside (max y.range.low (x.range.low + n)) y.range.high y.range (omega arith) (omega arith))

-- ---- the sides differ
moved_low : (r s n : ℕ) → s ≤ r → (if nat_eq s n then s + 1 else s) ≤ (if nat_eq r n then r + 1 else r)
moved_low r s n less =
    ⊎_elim
    (λ (is : r ≡ n).
    let yes : nat_eq r n ≡ true = grind (arith, nat_tests) in
    rw yes
    (⊎_elim
    (λ (too : s ≡ n). let also : nat_eq s n ≡ true = grind (arith, nat_tests) in rw also (omega arith))
    (λ (apart : s ≡ n → ⊥). let no : nat_eq s n ≡ false = grind (arith, nat_tests) in rw no (omega arith))
    (cases_eq s n)))
    (λ (other : r ≡ n → ⊥).
    let never : nat_eq r n ≡ false = grind (arith, nat_tests) in
    rw never
    (⊎_elim
    (λ (too : s ≡ n). let also : nat_eq s n ≡ true = grind (arith, nat_tests) in rw also (omega arith))
    (λ (apart : s ≡ n → ⊥). let no : nat_eq s n ≡ false = grind (arith, nat_tests) in rw no less)
    (cases_eq s n)))
    (cases_eq r n)

moved_high : (r s n : ℕ) → r ≤ s → (if nat_eq r n then r - 1 else r) ≤ (if nat_eq s n then s - 1 else s)
moved_high r s n less =
    ⊎_elim
    (λ (is : r ≡ n).
    let yes : nat_eq r n ≡ true = grind (arith, nat_tests) in
    rw yes
    (⊎_elim
    (λ (too : s ≡ n). let also : nat_eq s n ≡ true = grind (arith, nat_tests) in rw also (omega arith))
    (λ (apart : s ≡ n → ⊥). let no : nat_eq s n ≡ false = grind (arith, nat_tests) in rw no (omega arith))
    (cases_eq s n)))
    (λ (other : r ≡ n → ⊥).
    let never : nat_eq r n ≡ false = grind (arith, nat_tests) in
    rw never
    (⊎_elim
    (λ (too : s ≡ n). let also : nat_eq s n ≡ true = grind (arith, nat_tests) in rw also (omega arith))
    (λ (apart : s ≡ n → ⊥). let no : nat_eq s n ≡ false = grind (arith, nat_tests) in rw no less)
    (cases_eq s n)))
    (cases_eq r n)

end_low : (r n : ℕ) → r ≤ (if nat_eq r n then r + 1 else r)
end_low r n =
    ⊎_elim
    (λ (is : r ≡ n). let yes : nat_eq r n ≡ true = grind (arith, nat_tests) in rw yes (omega arith))
    (λ (other : r ≡ n → ⊥). let no : nat_eq r n ≡ false = grind (arith, nat_tests) in rw no (omega arith))
    (cases_eq r n)

end_high : (r n : ℕ) → (if nat_eq r n then r - 1 else r) ≤ r
end_high r n =
    ⊎_elim
    (λ (is : r ≡ n). let yes : nat_eq r n ≡ true = grind (arith, nat_tests) in rw yes (omega arith))
    (λ (other : r ≡ n → ⊥). let no : nat_eq r n ≡ false = grind (arith, nat_tests) in rw no (omega arith))
    (cases_eq r n)

without_within : (r s : Interval) (n : ℕ) → IsIntervalWithin r s → IsBelow IsIntervalWithin (without_end r n) (without_end s n)
without_within r s n within =
    between_within (if nat_eq r.low n then r.low + 1 else r.low) (if nat_eq r.high n then r.high - 1 else r.high) (if nat_eq s.low n then s.low + 1 else s.low) (if nat_eq s.high n then s.high - 1 else s.high)
    (moved_low r.low s.low n within.0) (moved_high r.high s.high n within.1)

without_inside : (r s : Interval) (n : ℕ) → IsIntervalWithin r s → IsBelow IsIntervalWithin (without_end r n) (Some s)
without_inside r s n within =
    let low = within.0 in
    let high = within.1 in
    inside (if nat_eq r.low n then r.low + 1 else r.low) (if nat_eq r.high n then r.high - 1 else r.high) s (omega (arith, end_low r.low n, low)) (omega (arith, end_high r.high n, high))

without_range : (r : Interval) (n : ℕ) → r.high < 2 ^ 64 → IsRangeIn (without_end r n)
without_range r n fits = between_range (if nat_eq r.low n then r.low + 1 else r.low) (if nat_eq r.high n then r.high - 1 else r.high) (omega (arith, end_high r.high n, fits))

pub ends_range : (r : Interval) (o : Option ℕ) → IsRange r → IsRangeIn (option_map_or (without_end r) o (Some r))
ends_range r None range = range
ends_range r (Some n) range = without_range r n range.fits

ends_inside : (r s : Interval) (o : Option ℕ) → IsIntervalWithin r s → IsBelow IsIntervalWithin (option_map_or (without_end r) o (Some r)) (Some s)
ends_inside r s None within = within
ends_inside r s (Some n) within = without_inside r s n within

ends_alike : (r s : Interval) (o : Option ℕ) → IsIntervalWithin r s → IsBelow IsIntervalWithin (option_map_or (without_end r) o (Some r)) (option_map_or (without_end s) o (Some s))
ends_alike r s None within = within
ends_alike r s (Some n) within = without_within r s n within

ends_within : (a b x y : Estimate) → IsRange b.range → IsWithin a x → IsWithin b y → IsOne y → IsBelow IsIntervalWithin (option_map_or (without_end a.range) (only b) (Some a.range)) (option_map_or (without_end x.range) (only y) (Some x.range))
ends_within a b x y range one other (single ye ys) = rw (one_kept b y range other ye) (ends_alike a.range x.range (only y) one.range)
ends_within a b x y range one other (several ys) = rw ys (ends_inside a.range x.range (only b) one.range)

apart_within : (a b x y : Estimate) → IsNumber a → IsNumber b → IsNumber x → IsWithin a x → IsWithin b y → IsBelow IsWithin (apart a b) (apart x y)
unfolding apart
apart_within a b x y an bn xn one other =
    ranged_within a.bits x.bits a.tails x.tails (option_map_or (without_end a.range) (only b) (Some a.range)) (option_map_or (without_end x.range) (only y) (Some x.range)) an.words xn.words one.bits one.tails
    (ends_range x.range (only y) xn.range) (ends_within a b x y bn.range one other (one_or y))

apart_inside : (x y : Estimate) → IsNumber x → IsBelow IsWithin (apart x y) (Some x)
unfolding apart
apart_inside x y xn =
    ranged_inside x.bits x.tails x (option_map_or (without_end x.range) (only y) (Some x.range)) xn.words (bits_itself x.bits) (tail_itself x.tails.text, tail_itself x.tails.link) (ends_range x.range (only y) xn.range)
    (ends_inside x.range x.range (only y) (omega arith, omega arith))

-- ---- both sides
both_within : (o p q r : Option Estimate) → IsBelow IsWithin o q → IsBelow IsWithin p r → IsBelow IsToldWithin (both_told o p) (both_told q r)
both_within None p q r one other = tt
both_within (Some a) p None r one other = absurd one
both_within (Some a) None (Some x) r one other = tt
both_within (Some a) (Some b) (Some x) None one other = absurd other
both_within (Some a) (Some b) (Some x) (Some y) one other = (one, other)

turned_within : (o p : Option Told) → IsBelow IsToldWithin o p → IsBelow IsToldWithin (turned o) (turned p)
turned_within None p below = tt
turned_within (Some s) None below = absurd below
turned_within (Some s) (Some t) below = (below.1, below.0)

twice_within : (o p : Option Estimate) → IsBelow IsWithin o p → IsBelow IsToldWithin (option_map (λ both. told both both) o) (option_map (λ both. told both both) p)
twice_within None p below = tt
twice_within (Some a) None below = absurd below
twice_within (Some a) (Some x) below = (below, below)

twice_inside : (o : Option Estimate) (x y : Estimate) → IsBelow IsWithin o (Some x) → IsBelow IsWithin o (Some y) → IsBelow IsToldWithin (option_map (λ both. told both both) o) (Some (told x y))
twice_inside None x y one other = tt
twice_inside (Some a) x y one other = (one, other)

ordered_within : (n : ℕ) (a b x y : Estimate) → IsNumber a → IsNumber b → IsNumber x → IsNumber y → IsWithin a x → IsWithin b y → IsBelow IsToldWithin (ordered n a b) (ordered n x y)
unfolding ordered
ordered_within n a b x y an bn xn yn one other =
    both_within (below n a b) (above n b a) (below n x y) (above n y x) (below_within n a b x y an xn one other) (above_within n b a y x bn yn one other)

ordered_inside : (n : ℕ) (x y : Estimate) → IsNumber x → IsNumber y → IsBelow IsToldWithin (ordered n x y) (Some (told x y))
unfolding ordered
ordered_inside n x y xn yn = both_within (below n x y) (above n y x) (Some x) (Some y) (below_inside n x y xn) (above_inside n y x yn)

refined_within : (r : Relation) (a b x y : Estimate) → IsNumber a → IsNumber b → IsNumber x → IsNumber y → IsWithin a x → IsWithin b y → IsBelow IsToldWithin (refined r a b) (refined r x y)
unfolding refined
refined_within Less a b x y an bn xn yn one other = ordered_within 1 a b x y an bn xn yn one other
refined_within AtMost a b x y an bn xn yn one other = ordered_within 0 a b x y an bn xn yn one other
refined_within Same a b x y an bn xn yn one other = twice_within (same a b) (same x y) (same_within a b x y an.words bn.words xn.words yn.words xn.range.fits one other)
refined_within Apart a b x y an bn xn yn one other =
    both_within (apart a b) (apart b a) (apart x y) (apart y x) (apart_within a b x y an bn xn one other) (apart_within b a y x bn an yn other one)
refined_within AtLeast a b x y an bn xn yn one other = turned_within (ordered 0 b a) (ordered 0 y x) (ordered_within 0 b a y x bn an yn xn other one)
refined_within Greater a b x y an bn xn yn one other = turned_within (ordered 1 b a) (ordered 1 y x) (ordered_within 1 b a y x bn an yn xn other one)

refined_inside : (r : Relation) (x y : Estimate) → IsNumber x → IsNumber y → IsBelow IsToldWithin (refined r x y) (Some (told x y))
unfolding refined
refined_inside Less x y xn yn = ordered_inside 1 x y xn yn
refined_inside AtMost x y xn yn = ordered_inside 0 x y xn yn
refined_inside Same x y xn yn = twice_inside (same x y) x y (same_first x y xn.words yn.words xn.range.fits) (same_second x y xn.words yn.words xn.range.fits)
refined_inside Apart x y xn yn = both_within (apart x y) (apart y x) (Some x) (Some y) (apart_inside x y xn) (apart_inside y x yn)
refined_inside AtLeast x y xn yn = turned_within (ordered 0 y x) (Some (told y x)) (ordered_inside 0 y x yn xn)
refined_inside Greater x y xn yn = turned_within (ordered 1 y x) (Some (told y x)) (ordered_inside 1 y x yn xn)

told_trans : (o : Option Told) (a b x y : Estimate) → IsBelow IsToldWithin o (Some (told a b)) → IsWithin a x → IsWithin b y → IsBelow IsToldWithin o (Some (told x y))
told_trans None a b x y below one other = tt
told_trans (Some t) a b x y below one other = (within_trans t.left a x below.0 one, within_trans t.right b y below.1 other)

-- ---- on an edge
on_alike : (o : Option Relation) (a b x y : Estimate) → IsNumber a → IsNumber b → IsNumber x → IsNumber y → IsWithin a x → IsWithin b y → IsBelow IsToldWithin (option_map_or (λ r. refined r a b) o (Some (told a b))) (option_map_or (λ r. refined r x y) o (Some (told x y)))
on_alike None a b x y an bn xn yn one other = (one, other)
on_alike (Some r) a b x y an bn xn yn one other = refined_within r a b x y an bn xn yn one other

on_inside : (o : Option Relation) (x y : Estimate) → IsNumber x → IsNumber y → IsBelow IsToldWithin (option_map_or (λ r. refined r x y) o (Some (told x y))) (Some (told x y))
on_inside None x y xn yn = (record { bits = bits_itself x.bits; range = (omega arith, omega arith); tails = (tail_itself x.tails.text, tail_itself x.tails.link) }, record { bits = bits_itself y.bits; range = (omega arith, omega arith); tails = (tail_itself y.tails.text, tail_itself y.tails.link) })
on_inside (Some r) x y xn yn = refined_inside r x y xn yn

itself : (x y : Estimate) → IsToldWithin (told x y) (told x y)
itself x y = (record { bits = bits_itself x.bits; range = (omega arith, omega arith); tails = (tail_itself x.tails.text, tail_itself x.tails.link) }, record { bits = bits_itself y.bits; range = (omega arith, omega arith); tails = (tail_itself y.tails.text, tail_itself y.tails.link) })

maybe_inside : (t : Bool) (o : Option Relation) (x y : Estimate) → IsNumber x → IsNumber y → IsBelow IsToldWithin (if t then option_map_or (λ r. refined r x y) o (Some (told x y)) else Some (told x y)) (Some (told x y))
maybe_inside true o x y xn yn = on_inside o x y xn yn
maybe_inside false o x y xn yn = itself x y

pub told_inside : (width : Width) (comparison : Comparison) (taken : Bool) (x y : Estimate) → IsNumber x → IsNumber y → IsBelow IsToldWithin (told_on width comparison taken x y) (Some (told x y))
unfolding told_on
told_inside width comparison taken x y xn yn = maybe_inside (nat_lt x.range.high (reach width comparison) && nat_lt y.range.high (reach width comparison)) (relation_of comparison taken) x y xn yn

test_kept : (m n p q limit : ℕ) → m ≤ p → n ≤ q → (nat_lt p limit && nat_lt q limit) ≡ true → (nat_lt m limit && nat_lt n limit) ≡ true
test_kept m n p q limit one other both = grind (arith, nat_tests)

tests_within : (t u : Bool) (o : Option Relation) (a b x y : Estimate) → (u ≡ true → t ≡ true) → IsNumber a → IsNumber b → IsNumber x → IsNumber y → IsWithin a x → IsWithin b y → IsBelow IsToldWithin (if t then option_map_or (λ r. refined r a b) o (Some (told a b)) else Some (told a b)) (if u then option_map_or (λ r. refined r x y) o (Some (told x y)) else Some (told x y))
tests_within true true o a b x y kept an bn xn yn one other = on_alike o a b x y an bn xn yn one other
tests_within true false o a b x y kept an bn xn yn one other = told_trans (option_map_or (λ r. refined r a b) o (Some (told a b))) a b x y (on_inside o a b an bn) one other
tests_within false true o a b x y kept an bn xn yn one other = let wrong : false ≡ true = kept refl in absurd (cc)
tests_within false false o a b x y kept an bn xn yn one other = (one, other)

pub told_within : (width : Width) (comparison : Comparison) (taken : Bool) (a b x y : Estimate) → IsNumber a → IsNumber b → IsNumber x → IsNumber y → IsWithin a x → IsWithin b y → IsBelow IsToldWithin (told_on width comparison taken a b) (told_on width comparison taken x y)
unfolding told_on
told_within width comparison taken a b x y an bn xn yn one other =
    tests_within (nat_lt a.range.high (reach width comparison) && nat_lt b.range.high (reach width comparison)) (nat_lt x.range.high (reach width comparison) && nat_lt y.range.high (reach width comparison)) (relation_of comparison taken) a b x y
    (test_kept a.range.high b.range.high x.range.high y.range.high (reach width comparison) one.range.1 other.range.1) an bn xn yn one other
