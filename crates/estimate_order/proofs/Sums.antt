-- Of sums and differences context 3 knows no less than context 2.
use Rattle.std.proofs.Common.{◌≡◌, ℕ, ◌+◌, ◌-◌, ◌/◌, ◌%◌, ◌^◌, ◌<◌, ◌≤◌, ◌⊎◌, inl, inr, min, max, nat_le, nat_lt, nat_eq, true, false, bit_and, bit_or, Option, Some, None, refl, sym, subst, ap, ◌∙◌, arith, ⊎_elim}
use Rattle.std.specs.Prelude.{option_and_then}
use Rattle.std.specs.Option.{option_or}
use Rattle.std.proofs.lemmas.Nat.{and_le_r, and_mask, or_disjoint, or_lt}
use Rattle.std.proofs.lemmas.Bool.Decides.{nat_tests}
use Rattle.std.proofs.lemmas.Bool.{cases_lt, cases_eq}
use Rattle.span_context.specs.declared.profile.Profile.TheVariants.{Two, Three}
use Rattle.bpf_words.specs.declared.instruction.Width.{Width}
use Rattle.bpf_words.specs.declared.instruction.Width.TheVariants.{Narrow, Full}
use Rattle.semantics.specs.Value.{bits_of}
use Rattle.known_bits.specs.Bits.{bit}
use Rattle.known_bits.specs.KnownBits.{KnownBits, most_bits, all_known, none_known, common_bits, merged_bits, low_bits, bits_of_either, bits_of_one}
use Rattle.known_bits.proofs.BitLaws.{bit-lt, bit-zero, bit-and, bit-or, same as same_bits}
use Rattle.intervals.specs.Interval.{Interval, from_to, low_between, sum_between, difference_between}
use Rattle.abstract_state.specs.declared.region.Tails.{Tails}
use Rattle.abstract_state.specs.Exact.{tail_after}
use Rattle.abstract_state.specs.Estimate.{Estimate, narrowed, settled, normal, normal_cut, only, both_tails, greater_tail}
use Rattle.abstract_state.specs.Transfer.{folded, sum_bits, sum_tail, sum, difference_bits, difference_tails, difference}
use Rattle.estimate_order.specs.Order.{AreBitsWithin, IsIntervalWithin, IsTailWithin, AreTailsWithin, IsWithin, IsBelow, AreWords, IsRange, IsNumber, FitsIn}
use Rattle.estimate_order.proofs.BitOrder.{le_bits, clash_at, both, Merge, merge, both_words, Common, common}
use Rattle.estimate_order.proofs.Bitwise.{AreAt, at, low_words, either_bits_within, either_bits_words, one_bits_within, one_bits_words, any_within_none}
use Rattle.estimate_order.proofs.Normal.{IsRangeIn, narrowed_from, narrowed_range, settled_within, words_of}
use Rattle.estimate_order.proofs.Numbers.{raised_within}
use Rattle.estimate_order.proofs.Cut.{in_word_within, in_word_fits, cut_within, none_words}
use Rattle.estimate_order.proofs.Inside.{narrowed_inside}

pub cases_le : (m n : ℕ) → (m ≤ n) ⊎ (n < m)
cases_le m n = ⊎_elim (λ (less : n < m). inr less) (λ (most : m ≤ n). inl most) (cases_lt n m)

-- ---- the one number
pub data IsOne (x : Estimate) : Type 0 where
  single : x.range.low ≡ x.range.high → only x ≡ Some x.range.low → IsOne x
  several : only x ≡ None → IsOne x

pub one_or : (x : Estimate) → IsOne x
unfolding only
one_or x =
    ⊎_elim
    (λ (is : x.range.low ≡ x.range.high).
    let yes : nat_eq x.range.low x.range.high ≡ true = grind (arith, nat_tests) in
    single is (rw yes refl))
    (λ (apart : x.range.low ≡ x.range.high → ⊥).
    let no : nat_eq x.range.low x.range.high ≡ false = grind (arith, nat_tests) in
    several (rw no refl))
    (cases_eq x.range.low x.range.high)

-- what is known no less is that number too
one_low : (a x : Estimate) → IsRange a.range → IsWithin a x → x.range.low ≡ x.range.high → a.range.low ≡ x.range.low
one_low a x range within is =
    let order = range.order in
    let low = within.range.0 in
    let high = within.range.1 in
    omega arith

one_high : (a x : Estimate) → IsRange a.range → IsWithin a x → x.range.low ≡ x.range.high → a.range.high ≡ x.range.low
one_high a x range within is =
    let order = range.order in
    let low = within.range.0 in
    let high = within.range.1 in
    omega arith

pub one_kept : (a x : Estimate) → IsRange a.range → IsWithin a x → x.range.low ≡ x.range.high → only a ≡ only x
unfolding only
one_kept a x range within is =
    let low = one_low a x range within is in
    let high = one_high a x range within is in
    let also : nat_eq a.range.low a.range.high ≡ true = grind (arith, nat_tests) in
    let yes : nat_eq x.range.low x.range.high ≡ true = grind (arith, nat_tests) in
    rw (also, yes) (ap (λ (n : ℕ). Some n) low)

-- ---- all bits of one number, with no less of its tails
known_is : (s : ℕ) (c : KnownBits) (f : Interval) → Common f.low f.high c → f.low ≡ s → f.high ≡ s → (k : ℕ) → (bit c.unknown k ≡ 0) × (bit c.ones k ≡ bit s k)
known_is s c f is low high k =
    let agree : f.low ≡ f.high = low ∙ sym high in
    let here = is.knows k (ap (λ (n : ℕ). n / 2 ^ k) agree) in
    (here, is.ones k here ∙ ap (λ (n : ℕ). bit n k) low)

point_bit : (b u c s : ℕ) → b < 2 → u < 2 → c ≡ s → s < 2 → min b u ≡ 0 → min ((b + c) % 2) (1 - max u 0) ≡ 0 → max b c ≡ s
point_bit b u c s p q e r d z = grind arith

point_agrees : (s : ℕ) (d : KnownBits) (k : ℕ) → (bit d.unknown k ≡ 0) × (bit d.ones k ≡ bit s k) → clash_at (all_known s) d k ≡ 0
point_agrees s d k is = let known = is.0 in let ones = is.1 in rw (known, ones) (rw (bit-zero k) (twice (bit s k) (bit-lt s k)))
  where
    twice : (n : ℕ) → n < 2 → min ((n + n) % 2) (1 - max 0 0) ≡ 0
    twice n less = grind arith

point_within : (s : ℕ) (b c d : KnownBits) → AreWords b → ((k : ℕ) → (bit c.unknown k ≡ 0) × (bit c.ones k ≡ bit s k)) → ((k : ℕ) → (bit d.unknown k ≡ 0) × (bit d.ones k ≡ bit s k)) → ((k : ℕ) → clash_at b c k ≡ 0) → AreBitsWithin (both b c) (both (all_known s) d)
point_within s b c d words one other agree k z =
    let known = (one k).0 in
    let clash : min ((bit b.ones k + bit c.ones k) % 2) (1 - max (bit b.unknown k) 0) ≡ 0 = subst (λ (u : ℕ). min ((bit b.ones k + bit c.ones k) % 2) (1 - max (bit b.unknown k) u) ≡ 0) known (agree k) in
    let right : bit (bit_or s d.ones) k ≡ bit s k = bit-or s d.ones k ∙ omega (arith, (other k).1) in (
      bit-and b.unknown c.unknown k ∙ omega (arith, known),
      bit-or b.ones c.ones k ∙ point_bit (bit b.ones k) (bit b.unknown k) (bit c.ones k) (bit s k) (bit-lt b.ones k) (bit-lt b.unknown k) (one k).1 (bit-lt s k) (words.apart k) clash ∙ sym right,
    )

pub known_words : (s : ℕ) → s < 2 ^ 64 → AreWords (all_known s)
known_words s fits = record { ones = fits; unknown = omega arith; apart = λ k. rw (bit-zero k) (omega arith) }

pub most_known : (s : ℕ) → s ≤ most_bits (all_known s)
most_known s = le_bits s (bit_or s 0) (λ k. rw (bit-or s 0 k) (omega arith))

point_settled : (s : ℕ) (b : KnownBits) (f g : Interval) (t u : Tails) → AreWords b → s < 2 ^ 64 → IsRange f → IsRange g → f.low ≡ s → f.high ≡ s → g.low ≡ s → g.high ≡ s → AreTailsWithin t u
    → IsBelow IsWithin (option_and_then (settled t f) (merged_bits b (common_bits f.low f.high))) (option_and_then (settled u g) (merged_bits (all_known s) (common_bits g.low g.high)))
point_settled s b f g t u words fits fr gr fl fh gl gh tails =
    merges (merged_bits b (common_bits f.low f.high)) (merge b (common_bits f.low f.high) words (words_of f fr))
  where
    one : (k : ℕ) → (bit (common_bits f.low f.high).unknown k ≡ 0) × (bit (common_bits f.low f.high).ones k ≡ bit s k)
    one = known_is s (common_bits f.low f.high) f (common f.low f.high (omega (arith, fr.order, fr.fits)) fr.fits) fl fh

    other : (k : ℕ) → (bit (common_bits g.low g.high).unknown k ≡ 0) × (bit (common_bits g.low g.high).ones k ≡ bit s k)
    other = known_is s (common_bits g.low g.high) g (common g.low g.high (omega (arith, gr.order, gr.fits)) gr.fits) gl gh

    there : merged_bits (all_known s) (common_bits g.low g.high) ≡ Some (both (all_known s) (common_bits g.low g.high))
    there = (merge (all_known s) (common_bits g.low g.high) (known_words s fits) (words_of g gr)).some (λ k. point_agrees s (common_bits g.low g.high) k (other k))

    within : IsIntervalWithin f g
    within = (omega (arith, fl, gl), omega (arith, fh, gh))

    merges : (o : Option KnownBits) → Merge b (common_bits f.low f.high) o → IsBelow IsWithin (option_and_then (settled t f) o) (option_and_then (settled u g) (merged_bits (all_known s) (common_bits g.low g.high)))
    merges None m = tt
    merges (Some c) m =
        let is = m.only c refl in
        subst (λ (p : Option KnownBits). IsBelow IsWithin (settled t f c) (option_and_then (settled u g) p)) (sym there)
        (subst (λ (e : KnownBits). IsBelow IsWithin (settled t f e) (settled u g (both (all_known s) (common_bits g.low g.high)))) (sym is.0)
        (settled_within (both b (common_bits f.low f.high)) (both (all_known s) (common_bits g.low g.high)) f g t u
        (both_words (all_known s) (common_bits g.low g.high) (known_words s fits) (words_of g gr))
        (point_within s b (common_bits f.low f.high) (common_bits g.low g.high) words one other is.1) within tails))

point_ends : (s : ℕ) (f : Interval) → IsRange f → IsIntervalWithin f (from_to s s) → (f.low ≡ s) × (f.high ≡ s)
point_ends s f range within =
    let low = within.0 in
    let high = within.1 in
    let order = range.order in
    (omega arith, omega arith)

point_normal : (s : ℕ) (b : KnownBits) (t u : Tails) → AreWords b → s < 2 ^ 64 → AreTailsWithin t u → IsBelow IsWithin (normal b (from_to s s) t) (normal (all_known s) (from_to s s) u)
unfolding normal
point_normal s b t u words fits tails =
    let known = most_known s in
    firsts (narrowed b (from_to s s) t) (narrowed (all_known s) (from_to s s) u) (narrowed_from b (all_known s) (from_to s s) (from_to s s) t u (omega arith) (omega arith) tails)
    (narrowed_range b (from_to s s) t fits) (narrowed_range (all_known s) (from_to s s) u fits) (narrowed_inside b (from_to s s) t) (narrowed_inside (all_known s) (from_to s s) u)
  where
    firsts : (o p : Option Interval) → IsBelow IsIntervalWithin o p → IsRangeIn o → IsRangeIn p → IsBelow IsIntervalWithin o (Some (from_to s s)) → IsBelow IsIntervalWithin p (Some (from_to s s)) → IsBelow IsWithin (option_and_then (λ f. option_and_then (settled t f) (merged_bits b (common_bits f.low f.high))) o) (option_and_then (λ g. option_and_then (settled u g) (merged_bits (all_known s) (common_bits g.low g.high))) p)
    firsts None p below fr gr fi gi = tt
    firsts (Some f) None below fr gr fi gi = absurd below
    firsts (Some f) (Some g) below fr gr fi gi =
        let one = point_ends s f fr fi in
        let other = point_ends s g gr gi in
        point_settled s b f g t u words fits fr gr one.0 one.1 other.0 other.1 tails

low_known : (s : ℕ) → s < 2 ^ 32 → low_bits (all_known s) ≡ all_known s
unfolding low_bits
low_known s small =
    let ones : bit_and s 4294967295 ≡ s = and_mask s 32 ∙ omega arith in
    let none : bit_and 0 4294967295 ≡ 0 = same_bits (bit_and 0 4294967295) 0 (λ k. bit-and 0 4294967295 k ∙ rw (bit-zero k) (omega arith)) in
    rw (ones, none) refl

low_point : (s : ℕ) → s < 2 ^ 32 → low_between (from_to s s) ≡ from_to s s
unfolding low_between
low_point s small = let yes : nat_lt s (2 ^ 32) ≡ true = grind (arith, nat_tests) in rw yes refl

point_cut : (width : Width) (s : ℕ) (b : KnownBits) (t u : Tails) → AreWords b → s < 2 ^ bits_of width → AreTailsWithin t u → IsBelow IsWithin (normal_cut width b (from_to s s) t) (normal_cut width (all_known s) (from_to s s) u)
unfolding normal_cut
point_cut Full s b t u words fits tails = point_normal s b t u words fits tails
point_cut Narrow s b t u words fits tails =
    subst (λ (r : Interval). IsBelow IsWithin (normal (low_bits b) r t) (normal (low_bits (all_known s)) r u)) (sym (low_point s fits))
    (subst (λ (c : KnownBits). IsBelow IsWithin (normal (low_bits b) (from_to s s) t) (normal c (from_to s s) u)) (sym (low_known s fits))
    (point_normal s (low_bits b) t u (low_words b words) (omega (arith, fits)) tails))

-- ---- the bits of a sum
sum_apart : (a b : Estimate) → bit_and (most_bits a.bits) (most_bits b.bits) ≡ 0 → sum_bits a b ≡ bits_of_either a.bits b.bits
unfolding sum_bits
sum_apart a b none = let yes : nat_eq (bit_and (most_bits a.bits) (most_bits b.bits)) 0 ≡ true = grind (arith, nat_tests) in rw yes refl

sum_folded : (a b : Estimate) → (bit_and (most_bits a.bits) (most_bits b.bits) ≡ 0 → ⊥) → sum_bits a b ≡ folded (λ m n. (m + n) % 2 ^ 64) (only a) (only b)
unfolding sum_bits
sum_folded a b some = let no : nat_eq (bit_and (most_bits a.bits) (most_bits b.bits)) 0 ≡ false = grind (arith, nat_tests) in rw no refl

apart_at : (ao au xo xu bo bu yo yu : ℕ) → AreAt ao au xo xu → AreAt bo bu yo yu → min (max xo xu) (max yo yu) ≡ 0 → min (max ao au) (max bo bu) ≡ 0
apart_at ao au xo xu bo bu yo yu p q z = omega arith

most_at : (a b : KnownBits) (k : ℕ) → bit (bit_and (most_bits a) (most_bits b)) k ≡ min (max (bit a.ones k) (bit a.unknown k)) (max (bit b.ones k) (bit b.unknown k))
most_at a b k = bit-and (most_bits a) (most_bits b) k ∙ rw (bit-or a.ones a.unknown k, bit-or b.ones b.unknown k) refl

apart_less : (a b x y : KnownBits) → AreWords a → AreWords b → AreWords x → AreWords y → AreBitsWithin a x → AreBitsWithin b y → bit_and (most_bits x) (most_bits y) ≡ 0 → bit_and (most_bits a) (most_bits b) ≡ 0
apart_less a b x y aw bw xw yw one other none =
    same_bits (bit_and (most_bits a) (most_bits b)) 0
    (λ k.
    most_at a b k
    ∙ apart_at _ _ _ _ _ _ _ _ (at a x aw xw one k) (at b y bw yw other k) (sym (most_at x y k) ∙ ap (λ (n : ℕ). bit n k) none ∙ bit-zero k)
    ∙ sym (bit-zero k))

folded_words : (f : ℕ → ℕ → ℕ) (o p : Option ℕ) → ((m n : ℕ) → f m n < 2 ^ 64) → AreWords (folded f o p)
folded_words f None p fits = none_words
folded_words f (Some m) None fits = none_words
folded_words f (Some m) (Some n) fits = known_words (f m n) (fits m n)

pub sum_words : (a b : Estimate) → AreWords a.bits → AreWords b.bits → AreWords (sum_bits a b)
sum_words a b aw bw =
    ⊎_elim
    (λ (none : bit_and (most_bits a.bits) (most_bits b.bits) ≡ 0). subst AreWords (sym (sum_apart a b none)) (either_bits_words a.bits b.bits aw bw))
    (λ (some : bit_and (most_bits a.bits) (most_bits b.bits) ≡ 0 → ⊥).
    subst AreWords (sym (sum_folded a b some)) (folded_words (λ m n. (m + n) % 2 ^ 64) (only a) (only b) (λ m n. omega arith)))
    (cases_eq (bit_and (most_bits a.bits) (most_bits b.bits)) 0)

-- the bits are in order; or both are one number each, and only of the first pair it shows that no bit is in both
pub data SumBits (a b x y : Estimate) : Type 0 where
  sums_in_order : AreBitsWithin (sum_bits a b) (sum_bits x y) → SumBits a b x y
  one_sum : x.range.low ≡ x.range.high → y.range.low ≡ y.range.high → bit_and (most_bits a.bits) (most_bits b.bits) ≡ 0 → sum_bits x y ≡ all_known ((x.range.low + y.range.low) % 2 ^ 64) → SumBits a b x y

abbrev plus : ℕ → ℕ → ℕ
plus m n = (m + n) % 2 ^ 64

sum_known : (a b x y : Estimate) → IsNumber a → IsNumber b → IsNumber x → IsNumber y → IsWithin a x → IsWithin b y → SumBits a b x y
sum_known a b x y an bn xn yn one other =
    ⊎_elim
    (λ (none : bit_and (most_bits x.bits) (most_bits y.bits) ≡ 0).
    let also = apart_less a.bits b.bits x.bits y.bits an.words bn.words xn.words yn.words one.bits other.bits none in
    sums_in_order
    (subst (λ (c : KnownBits). AreBitsWithin c (sum_bits x y)) (sym (sum_apart a b also))
    (subst (λ (c : KnownBits). AreBitsWithin (bits_of_either a.bits b.bits) c) (sym (sum_apart x y none))
    (either_bits_within a.bits b.bits x.bits y.bits an.words bn.words xn.words yn.words one.bits other.bits))))
    (λ (some : bit_and (most_bits x.bits) (most_bits y.bits) ≡ 0 → ⊥). by_ones (sum_folded x y some) (one_or x) (one_or y))
    (cases_eq (bit_and (most_bits x.bits) (most_bits y.bits)) 0)
  where
    nothing : sum_bits x y ≡ none_known → SumBits a b x y
    nothing is = sums_in_order (subst (λ (c : KnownBits). AreBitsWithin (sum_bits a b) c) (sym is) (any_within_none (sum_bits a b) (sum_words a b an.words bn.words)))

    by_ones : sum_bits x y ≡ folded (λ m n. (m + n) % 2 ^ 64) (only x) (only y) → IsOne x → IsOne y → SumBits a b x y
    by_ones is (several xs) q = nothing (is ∙ ap (λ (o : Option ℕ). folded (λ m n. (m + n) % 2 ^ 64) o (only y)) xs)
    by_ones is (single xe xs) (several ys) = nothing (is ∙ ap (λ (o : Option ℕ). folded (λ m n. (m + n) % 2 ^ 64) o (only y)) xs ∙ ap (λ (o : Option ℕ). folded (λ m n. (m + n) % 2 ^ 64) (Some x.range.low) o) ys)
    by_ones is (single xe xs) (single ye ys) =
        let sum_is : sum_bits x y ≡ all_known (plus x.range.low y.range.low) =
        is ∙ ap (λ (o : Option ℕ). folded (λ m n. (m + n) % 2 ^ 64) o (only y)) xs ∙ ap (λ (o : Option ℕ). folded (λ m n. (m + n) % 2 ^ 64) (Some x.range.low) o) ys in
        ⊎_elim
        (λ (none : bit_and (most_bits a.bits) (most_bits b.bits) ≡ 0). one_sum xe ye none sum_is)
        (λ (apart : bit_and (most_bits a.bits) (most_bits b.bits) ≡ 0 → ⊥).
        let same_sum : sum_bits a b ≡ sum_bits x y =
        sum_folded a b apart ∙ ap (λ (o : Option ℕ). folded (λ m n. (m + n) % 2 ^ 64) o (only b)) (one_kept a x an.range one xe) ∙ ap (λ (o : Option ℕ). folded (λ m n. (m + n) % 2 ^ 64) (only x) o) (one_kept b y bn.range other ye) ∙ sym is in
        sums_in_order (subst (λ (c : KnownBits). AreBitsWithin c (sum_bits x y)) (sym same_sum) (λ k z. (z, refl))))
        (cases_eq (bit_and (most_bits a.bits) (most_bits b.bits)) 0)

-- ---- sums
pub after_within : (t u : Option ℕ) (n m : ℕ) → IsTailWithin t u → n ≤ m → IsTailWithin (tail_after t n) (tail_after u m)
after_within t None n m h less = tt
after_within None (Some u) n m h less = absurd h
after_within (Some t) (Some u) n m h less =
    ⊎_elim
    (λ (more : u < m). let no : nat_le m u ≡ false = grind (arith, nat_tests) in rw no tt)
    (λ (few : m ≤ u).
    let yes : nat_le m u ≡ true = grind (arith, nat_tests) in
    let also : nat_le n t ≡ true = grind (arith, nat_tests) in
    rw (yes, also) (omega arith))
    (cases_lt u m)

or_within : (t u v w : Option ℕ) → IsTailWithin t v → IsTailWithin u w → IsTailWithin (greater_tail t u) (option_or v w)
or_within t u None None h j = tt
or_within t None None (Some w) h j = absurd j
or_within None (Some u) None (Some w) h j = j
or_within (Some t) (Some u) None (Some w) h j = omega arith
or_within None u (Some v) w h j = absurd h
or_within (Some t) None (Some v) w h j = h
or_within (Some t) (Some u) (Some v) w h j = omega arith

sum_tail_within : (ah bh xh yh : ℕ) (t u v w : Option ℕ) → ah ≤ xh → bh ≤ yh → IsTailWithin t v → IsTailWithin u w → IsTailWithin (sum_tail Three ah bh t u) (sum_tail Two xh yh v w)
unfolding sum_tail
sum_tail_within ah bh xh yh t u v w one other h j = or_within (tail_after t bh) (tail_after u ah) (tail_after v yh) (tail_after w xh) (after_within t v bh yh h other) (after_within u w ah xh j one)

sum_tails_within : (a b x y : Estimate) → IsWithin a x → IsWithin b y → AreTailsWithin (both_tails (sum_tail Three a.range.high b.range.high) a.tails b.tails) (both_tails (sum_tail Two x.range.high y.range.high) x.tails y.tails)
sum_tails_within a b x y one other = (
  sum_tail_within a.range.high b.range.high x.range.high y.range.high a.tails.text b.tails.text x.tails.text y.tails.text one.range.1 other.range.1 one.tails.0 other.tails.0,
  sum_tail_within a.range.high b.range.high x.range.high y.range.high a.tails.link b.tails.link x.tails.link y.tails.link one.range.1 other.range.1 one.tails.1 other.tails.1,
)

sums_between : (r q s p : Interval) → IsIntervalWithin r s → IsIntervalWithin q p → IsIntervalWithin (sum_between r q) (sum_between s p)
unfolding sum_between
sums_between r q s p one other =
    let rl = one.0 in
    let rh = one.1 in
    let ql = other.0 in
    let qh = other.1 in
    in_word_within (from_to (r.low + q.low) (r.high + q.high)) (from_to (s.low + p.low) (s.high + p.high)) (omega arith, omega arith)

pub sum_fits : (s p : Interval) → (sum_between s p).high < 2 ^ 64
unfolding sum_between
sum_fits s p = in_word_fits (from_to (s.low + p.low) (s.high + p.high))

sum_point : (r q : Interval) (m n : ℕ) → r.low ≡ m → r.high ≡ m → q.low ≡ n → q.high ≡ n → m + n < 2 ^ 64 → sum_between r q ≡ from_to (m + n) (m + n)
unfolding sum_between
sum_point r q m n rl rh ql qh fits =
    let yes : nat_lt (m + n) (2 ^ 64) ≡ true = grind (arith, nat_tests) in
    rw (rl, rh, ql, qh) (rw yes refl)

pub width_fits : (width : Width) (n : ℕ) → n < 2 ^ bits_of width → n < 2 ^ 64
width_fits Narrow n less = omega (arith, less)
width_fits Full n less = less

pub sum_within : (width : Width) (a b x y : Estimate) → IsNumber a → IsNumber b → IsNumber x → IsNumber y → FitsIn width a → FitsIn width b → IsWithin a x → IsWithin b y → IsBelow IsWithin (sum Three width a b) (sum Two width x y)
unfolding sum
sum_within width a b x y an bn xn yn af bf one other = by_bits (sum_known a b x y an bn xn yn one other)
  where
    point_sum : (s : ℕ) → sum_between a.range b.range ≡ from_to s s → sum_between x.range y.range ≡ from_to s s → sum_bits x y ≡ all_known s → s < 2 ^ bits_of width → IsBelow IsWithin (normal_cut width (sum_bits a b) (sum_between a.range b.range) (both_tails (sum_tail Three a.range.high b.range.high) a.tails b.tails)) (normal_cut width (sum_bits x y) (sum_between x.range y.range) (both_tails (sum_tail Two x.range.high y.range.high) x.tails y.tails))
    point_sum s first second bits fits =
        rw (first, second, bits)
        (point_cut width s (sum_bits a b) (both_tails (sum_tail Three a.range.high b.range.high) a.tails b.tails) (both_tails (sum_tail Two x.range.high y.range.high) x.tails y.tails) (sum_words a b an.words bn.words) fits (sum_tails_within a b x y one other))

    by_bits : SumBits a b x y → IsBelow IsWithin (normal_cut width (sum_bits a b) (sum_between a.range b.range) (both_tails (sum_tail Three a.range.high b.range.high) a.tails b.tails)) (normal_cut width (sum_bits x y) (sum_between x.range y.range) (both_tails (sum_tail Two x.range.high y.range.high) x.tails y.tails))
    by_bits (sums_in_order bits) =
        cut_within width (sum_bits a b) (sum_bits x y) (sum_between a.range b.range) (sum_between x.range y.range) (both_tails (sum_tail Three a.range.high b.range.high) a.tails b.tails) (both_tails (sum_tail Two x.range.high y.range.high) x.tails y.tails)
        (sum_words a b an.words bn.words) (sum_words x y xn.words yn.words) (sum_fits x.range y.range) bits (sums_between a.range b.range x.range y.range one.range other.range) (sum_tails_within a b x y one other)
    by_bits (one_sum xe ye none sum_is) =
        let al = one_low a x an.range one xe in
        let ah = one_high a x an.range one xe in
        let bl = one_low b y bn.range other ye in
        let bh = one_high b y bn.range other ye in
        let am = an.most in
        let bm = bn.most in
        let add : bit_or (most_bits a.bits) (most_bits b.bits) ≡ most_bits a.bits + most_bits b.bits = or_disjoint (most_bits a.bits) (most_bits b.bits) none in
        let less : bit_or (most_bits a.bits) (most_bits b.bits) < 2 ^ bits_of width = or_lt (bits_of width) (most_bits a.bits) (most_bits b.bits) af.most bf.most in
        let fits : x.range.low + y.range.low < 2 ^ bits_of width = omega (arith, add, less) in
        let word = width_fits width (x.range.low + y.range.low) fits in
        let whole : (x.range.low + y.range.low) % 2 ^ 64 ≡ x.range.low + y.range.low = omega (arith, word) in
        let xh : x.range.high ≡ x.range.low = sym xe in
        let yh : y.range.high ≡ y.range.low = sym ye in
        point_sum (x.range.low + y.range.low) (sum_point a.range b.range x.range.low y.range.low al ah bl bh word) (sum_point x.range y.range x.range.low y.range.low refl xh refl yh word)
        (sum_is ∙ ap (λ (n : ℕ). all_known n) whole) fits

-- ---- differences
difference_covered : (a b : Estimate) → bit_and (most_bits b.bits) a.bits.ones ≡ most_bits b.bits → difference_bits a b ≡ bits_of_one a.bits b.bits
unfolding difference_bits
difference_covered a b covered = let yes : nat_eq (bit_and (most_bits b.bits) a.bits.ones) (most_bits b.bits) ≡ true = grind (arith, nat_tests) in rw yes refl

difference_folded : (a b : Estimate) → (bit_and (most_bits b.bits) a.bits.ones ≡ most_bits b.bits → ⊥) → difference_bits a b ≡ folded (λ m n. (m + (2 ^ 64 - n)) % 2 ^ 64) (only a) (only b)
unfolding difference_bits
difference_folded a b uncovered = let no : nat_eq (bit_and (most_bits b.bits) a.bits.ones) (most_bits b.bits) ≡ false = grind (arith, nat_tests) in rw no refl

covered_at : (ao au xo xu bo bu yo yu : ℕ) → AreAt ao au xo xu → AreAt bo bu yo yu → min (max yo yu) xo ≡ max yo yu → min (max bo bu) ao ≡ max bo bu
covered_at ao au xo xu bo bu yo yu p q z = omega arith

covers_at : (a b : KnownBits) (k : ℕ) → bit (bit_and (most_bits b) a.ones) k ≡ min (max (bit b.ones k) (bit b.unknown k)) (bit a.ones k)
covers_at a b k = bit-and (most_bits b) a.ones k ∙ rw (bit-or b.ones b.unknown k) refl

covered_less : (a b x y : KnownBits) → AreWords a → AreWords b → AreWords x → AreWords y → AreBitsWithin a x → AreBitsWithin b y → bit_and (most_bits y) x.ones ≡ most_bits y → bit_and (most_bits b) a.ones ≡ most_bits b
covered_less a b x y aw bw xw yw one other covered =
    same_bits (bit_and (most_bits b) a.ones) (most_bits b)
    (λ k.
    covers_at a b k
    ∙ covered_at _ _ _ _ _ _ _ _ (at a x aw xw one k) (at b y bw yw other k) (sym (covers_at x y k) ∙ ap (λ (n : ℕ). bit n k) covered ∙ bit-or y.ones y.unknown k)
    ∙ sym (bit-or b.ones b.unknown k))

pub difference_words : (a b : Estimate) → AreWords a.bits → AreWords b.bits → AreWords (difference_bits a b)
difference_words a b aw bw =
    ⊎_elim
    (λ (covered : bit_and (most_bits b.bits) a.bits.ones ≡ most_bits b.bits). subst AreWords (sym (difference_covered a b covered)) (one_bits_words a.bits b.bits aw bw))
    (λ (uncovered : bit_and (most_bits b.bits) a.bits.ones ≡ most_bits b.bits → ⊥).
    subst AreWords (sym (difference_folded a b uncovered)) (folded_words (λ m n. (m + (2 ^ 64 - n)) % 2 ^ 64) (only a) (only b) (λ m n. omega arith)))
    (cases_eq (bit_and (most_bits b.bits) a.bits.ones) (most_bits b.bits))

pub data DifferenceBits (a b x y : Estimate) : Type 0 where
  differences_in_order : AreBitsWithin (difference_bits a b) (difference_bits x y) → DifferenceBits a b x y
  one_difference : x.range.low ≡ x.range.high → y.range.low ≡ y.range.high → bit_and (most_bits b.bits) a.bits.ones ≡ most_bits b.bits
      → difference_bits x y ≡ all_known ((x.range.low + (2 ^ 64 - y.range.low)) % 2 ^ 64) → DifferenceBits a b x y

difference_known : (a b x y : Estimate) → IsNumber a → IsNumber b → IsNumber x → IsNumber y → IsWithin a x → IsWithin b y → DifferenceBits a b x y
difference_known a b x y an bn xn yn one other =
    ⊎_elim
    (λ (covered : bit_and (most_bits y.bits) x.bits.ones ≡ most_bits y.bits).
    let also = covered_less a.bits b.bits x.bits y.bits an.words bn.words xn.words yn.words one.bits other.bits covered in
    differences_in_order
    (subst (λ (c : KnownBits). AreBitsWithin c (difference_bits x y)) (sym (difference_covered a b also))
    (subst (λ (c : KnownBits). AreBitsWithin (bits_of_one a.bits b.bits) c) (sym (difference_covered x y covered))
    (one_bits_within a.bits b.bits x.bits y.bits an.words bn.words xn.words yn.words one.bits other.bits))))
    (λ (uncovered : bit_and (most_bits y.bits) x.bits.ones ≡ most_bits y.bits → ⊥). by_ones (difference_folded x y uncovered) (one_or x) (one_or y))
    (cases_eq (bit_and (most_bits y.bits) x.bits.ones) (most_bits y.bits))
  where
    nothing : difference_bits x y ≡ none_known → DifferenceBits a b x y
    nothing is = differences_in_order (subst (λ (c : KnownBits). AreBitsWithin (difference_bits a b) c) (sym is) (any_within_none (difference_bits a b) (difference_words a b an.words bn.words)))

    by_ones : difference_bits x y ≡ folded (λ m n. (m + (2 ^ 64 - n)) % 2 ^ 64) (only x) (only y) → IsOne x → IsOne y → DifferenceBits a b x y
    by_ones is (several xs) q = nothing (is ∙ ap (λ (o : Option ℕ). folded (λ m n. (m + (2 ^ 64 - n)) % 2 ^ 64) o (only y)) xs)
    by_ones is (single xe xs) (several ys) = nothing (is ∙ ap (λ (o : Option ℕ). folded (λ m n. (m + (2 ^ 64 - n)) % 2 ^ 64) o (only y)) xs ∙ ap (λ (o : Option ℕ). folded (λ m n. (m + (2 ^ 64 - n)) % 2 ^ 64) (Some x.range.low) o) ys)
    by_ones is (single xe xs) (single ye ys) =
        let difference_is : difference_bits x y ≡ all_known ((x.range.low + (2 ^ 64 - y.range.low)) % 2 ^ 64) =
        is ∙ ap (λ (o : Option ℕ). folded (λ m n. (m + (2 ^ 64 - n)) % 2 ^ 64) o (only y)) xs ∙ ap (λ (o : Option ℕ). folded (λ m n. (m + (2 ^ 64 - n)) % 2 ^ 64) (Some x.range.low) o) ys in
        ⊎_elim
        (λ (covered : bit_and (most_bits b.bits) a.bits.ones ≡ most_bits b.bits). one_difference xe ye covered difference_is)
        (λ (uncovered : bit_and (most_bits b.bits) a.bits.ones ≡ most_bits b.bits → ⊥).
        let same_difference : difference_bits a b ≡ difference_bits x y =
        difference_folded a b uncovered ∙ ap (λ (o : Option ℕ). folded (λ m n. (m + (2 ^ 64 - n)) % 2 ^ 64) o (only b)) (one_kept a x an.range one xe) ∙ ap (λ (o : Option ℕ). folded (λ m n. (m + (2 ^ 64 - n)) % 2 ^ 64) (only x) o) (one_kept b y bn.range other ye) ∙ sym is in
        differences_in_order (subst (λ (c : KnownBits). AreBitsWithin c (difference_bits x y)) (sym same_difference) (λ k z. (z, refl))))
        (cases_eq (bit_and (most_bits b.bits) a.bits.ones) (most_bits b.bits))

difference_tails_within : (a b x y : Estimate) → IsWithin a x → IsWithin b y → AreTailsWithin (difference_tails a b) (difference_tails x y)
unfolding difference_tails
difference_tails_within a b x y one other =
    let al = one.range.0 in
    let bl = other.range.0 in
    let bh = other.range.1 in
    ⊎_elim
    (λ (stays : y.range.high ≤ x.range.low).
    let yes : nat_le y.range.high x.range.low ≡ true = grind (arith, nat_tests) in
    let also : nat_le b.range.high a.range.low ≡ true = grind (arith, nat_tests) in
    rw (yes, also)
    (raised_within a.tails.text x.tails.text b.range.low y.range.low one.tails.0 bl, raised_within a.tails.link x.tails.link b.range.low y.range.low one.tails.1 bl))
    (λ (wraps : x.range.low < y.range.high). let no : nat_le y.range.high x.range.low ≡ false = grind (arith, nat_tests) in rw no (tt, tt))
    (cases_le y.range.high x.range.low)

differences_between : (r q s p : Interval) → r.high < 2 ^ 64 → IsIntervalWithin r s → IsIntervalWithin q p → IsIntervalWithin (difference_between r q) (difference_between s p)
unfolding difference_between
differences_between r q s p fits one other =
    let rl = one.0 in
    let rh = one.1 in
    let ql = other.0 in
    let qh = other.1 in
    ⊎_elim
    (λ (stays : p.high ≤ s.low).
    let yes : nat_le p.high s.low ≡ true = grind (arith, nat_tests) in
    let also : nat_le q.high r.low ≡ true = grind (arith, nat_tests) in
    rw (yes, also) (omega arith, omega arith))
    (λ (wraps : s.low < p.high).
    let no : nat_le p.high s.low ≡ false = grind (arith, nat_tests) in
    rw no
    (⊎_elim
    (λ (stays : q.high ≤ r.low). let also : nat_le q.high r.low ≡ true = grind (arith, nat_tests) in rw also (omega arith, omega arith))
    (λ (too : r.low < q.high). let never : nat_le q.high r.low ≡ false = grind (arith, nat_tests) in rw never (omega arith, omega arith))
    (cases_le q.high r.low)))
    (cases_le p.high s.low)

pub difference_fits : (s p : Interval) → s.high < 2 ^ 64 → (difference_between s p).high < 2 ^ 64
unfolding difference_between
difference_fits s p fits =
    ⊎_elim
    (λ (stays : p.high ≤ s.low). let yes : nat_le p.high s.low ≡ true = grind (arith, nat_tests) in rw yes (omega arith))
    (λ (wraps : s.low < p.high). let no : nat_le p.high s.low ≡ false = grind (arith, nat_tests) in rw no (omega arith))
    (cases_le p.high s.low)

difference_point : (r q : Interval) (m n : ℕ) → r.low ≡ m → r.high ≡ m → q.low ≡ n → q.high ≡ n → n ≤ m → difference_between r q ≡ from_to (m - n) (m - n)
unfolding difference_between
difference_point r q m n rl rh ql qh less =
    let yes : nat_le n m ≡ true = grind (arith, nat_tests) in
    rw (rl, rh, ql, qh) (rw yes refl)

pub difference_within : (width : Width) (a b x y : Estimate) → IsNumber a → IsNumber b → IsNumber x → IsNumber y → FitsIn width a → IsWithin a x → IsWithin b y → IsBelow IsWithin (difference width a b) (difference width x y)
unfolding difference
difference_within width a b x y an bn xn yn af one other = by_bits (difference_known a b x y an bn xn yn one other)
  where
    point_difference : (s : ℕ) → difference_between a.range b.range ≡ from_to s s → difference_between x.range y.range ≡ from_to s s → difference_bits x y ≡ all_known s → s < 2 ^ bits_of width → IsBelow IsWithin (normal_cut width (difference_bits a b) (difference_between a.range b.range) (difference_tails a b)) (normal_cut width (difference_bits x y) (difference_between x.range y.range) (difference_tails x y))
    point_difference s first second bits fits =
        rw (first, second, bits)
        (point_cut width s (difference_bits a b) (difference_tails a b) (difference_tails x y) (difference_words a b an.words bn.words) fits (difference_tails_within a b x y one other))

    by_bits : DifferenceBits a b x y → IsBelow IsWithin (normal_cut width (difference_bits a b) (difference_between a.range b.range) (difference_tails a b)) (normal_cut width (difference_bits x y) (difference_between x.range y.range) (difference_tails x y))
    by_bits (differences_in_order bits) =
        cut_within width (difference_bits a b) (difference_bits x y) (difference_between a.range b.range) (difference_between x.range y.range) (difference_tails a b) (difference_tails x y)
        (difference_words a b an.words bn.words) (difference_words x y xn.words yn.words) (difference_fits x.range y.range xn.range.fits) bits (differences_between a.range b.range x.range y.range an.range.fits one.range other.range) (difference_tails_within a b x y one other)
    by_bits (one_difference xe ye covered difference_is) =
        let al = one_low a x an.range one xe in
        let ah = one_high a x an.range one xe in
        let bl = one_low b y bn.range other ye in
        let bh = one_high b y bn.range other ye in
        let bm = bn.most in
        let least = an.least in
        let high = af.high in
        let word = an.range.fits in
        let most : most_bits b.bits ≤ a.bits.ones = omega (arith, and_le_r (most_bits b.bits) a.bits.ones, covered) in
        let less : y.range.low ≤ x.range.low = omega (arith, most) in
        let whole : (x.range.low + (2 ^ 64 - y.range.low)) % 2 ^ 64 ≡ x.range.low - y.range.low = omega (arith, less) in
        let xh : x.range.high ≡ x.range.low = sym xe in
        let yh : y.range.high ≡ y.range.low = sym ye in
        point_difference (x.range.low - y.range.low) (difference_point a.range b.range x.range.low y.range.low al ah bl bh less) (difference_point x.range y.range x.range.low y.range.low refl xh refl yh less)
        (difference_is ∙ ap (λ (n : ℕ). all_known n) whole) (omega (arith, al, ah, high))
