-- A normal form is within what it was made of, and so is what two tell of one number.
use Rattle.std.proofs.Common.{◌≡◌, ℕ, ◌+◌, ◌-◌, ◌%◌, ◌^◌, ◌<◌, ◌≤◌, min, max, nat_le, true, false, Option, Some, None, refl, sym, subst, ◌∙◌, arith, ⊎_elim}
use Rattle.std.specs.Prelude.{option_map, option_and_then}
use Rattle.std.proofs.lemmas.Bool.Decides.{nat_tests}
use Rattle.std.proofs.lemmas.Bool.{cases_lt}
use Rattle.known_bits.specs.Bits.{bit}
use Rattle.known_bits.specs.KnownBits.{KnownBits, most_bits, common_bits, merged_bits}
use Rattle.known_bits.proofs.BitLaws.{bit-lt, bit-and, bit-or}
use Rattle.intervals.specs.Interval.{Interval, from_to, some_between}
use Rattle.abstract_state.specs.declared.region.Region.TheVariants.{Text, Link}
use Rattle.abstract_state.specs.declared.region.Tails.{Tails}
use Rattle.abstract_state.specs.Lent.{limit_of}
use Rattle.abstract_state.specs.Estimate.{Estimate, under_tail, under_tails, narrowed, settled, normal, both_tails, greater_tail}
use Rattle.abstract_state.specs.Comparing.{same}
use Rattle.estimate_order.specs.Order.{AreBitsWithin, IsIntervalWithin, IsTailWithin, AreTailsWithin, IsWithin, IsBelow, AreWords, IsRange, IsShort, AreShort, IsNumber}
use Rattle.estimate_order.proofs.BitOrder.{clash_at, both, Merge, merge, merged_words, AreWordsIn}
use Rattle.estimate_order.proofs.Normal.{IsRangeIn, inside, between_range, narrowed_range, words_of}

-- ---- one after another
pub tail_trans : (t u v : Option ℕ) → IsTailWithin t u → IsTailWithin u v → IsTailWithin t v
tail_trans t u None h j = tt
tail_trans t None (Some v) h j = absurd j
tail_trans None (Some u) (Some v) h j = absurd h
tail_trans (Some t) (Some u) (Some v) h j = omega arith

pub bits_trans : (a b c : KnownBits) → AreBitsWithin a b → AreBitsWithin b c → AreBitsWithin a c
bits_trans a b c first second k z =
    let later = second k z in
    let sooner = first k later.0 in
    (sooner.0, sooner.1 ∙ later.1)

pub within_trans : (a b c : Estimate) → IsWithin a b → IsWithin b c → IsWithin a c
within_trans a b c h j = record {
  bits = bits_trans a.bits b.bits c.bits h.bits j.bits;
  range = (omega (arith, h.range.0, j.range.0), omega (arith, h.range.1, j.range.1));
  tails = (tail_trans a.tails.text b.tails.text c.tails.text h.tails.0 j.tails.0, tail_trans a.tails.link b.tails.link c.tails.link h.tails.1 j.tails.1);
}

pub below_trans : (o p q : Option Estimate) → IsBelow IsWithin o p → IsBelow IsWithin p q → IsBelow IsWithin o q
below_trans None p q h j = tt
below_trans (Some a) None q h j = absurd h
below_trans (Some a) (Some b) None h j = absurd j
below_trans (Some a) (Some b) (Some c) h j = within_trans a b c h j

pub range_trans : (o : Option Interval) (s r : Interval) → IsBelow IsIntervalWithin o (Some s) → IsIntervalWithin s r → IsBelow IsIntervalWithin o (Some r)
range_trans None s r h j = tt
range_trans (Some q) s r h j = (omega (arith, h.0, j.0), omega (arith, h.1, j.1))

inside_next : (f : Interval → Option Interval) (o : Option Interval) (r : Interval) → IsBelow IsIntervalWithin o (Some r) → ((s : Interval) → IsBelow IsIntervalWithin (f s) (Some s)) → IsBelow IsIntervalWithin (option_and_then f o) (Some r)
inside_next f None r below each = tt
inside_next f (Some s) r below each = range_trans (f s) s r (each s) below

-- ---- narrowed
under_inside : (limit : ℕ) (t : Option ℕ) (r : Interval) → IsBelow IsIntervalWithin (under_tail limit t r) (Some r)
unfolding under_tail
under_inside limit None r = (omega arith, omega arith)
under_inside limit (Some t) r =
    ⊎_elim
    (λ (far : limit < t). let no : nat_le t limit ≡ false = grind (arith, nat_tests) in rw no tt)
    (λ (near : t ≤ limit).
    let yes : nat_le t limit ≡ true = grind (arith, nat_tests) in rw yes (inside r.low (min r.high (limit - t)) r (omega arith) (omega arith)))
    (cases_lt limit t)

tails_inside : (t : Tails) (r : Interval) → IsBelow IsIntervalWithin (under_tails t r) (Some r)
unfolding under_tails
tails_inside t r = inside_next (under_tail (limit_of Link) t.link) (under_tail (limit_of Text) t.text r) r (under_inside (limit_of Text) t.text r) (under_inside (limit_of Link) t.link)

pub narrowed_inside : (x : KnownBits) (s : Interval) (u : Tails) → IsBelow IsIntervalWithin (narrowed x s u) (Some s)
unfolding narrowed
narrowed_inside x s u =
    inside_next (under_tails u) (some_between (max s.low x.ones) (min s.high (most_bits x))) s (inside (max s.low x.ones) (min s.high (most_bits x)) s (omega arith) (omega arith)) (tails_inside u)

pub narrowed_in_bits : (x : KnownBits) (s : Interval) (u : Tails) → IsBelow IsIntervalWithin (narrowed x s u) (Some (from_to x.ones (most_bits x)))
unfolding narrowed
narrowed_in_bits x s u =
    inside_next (under_tails u) (some_between (max s.low x.ones) (min s.high (most_bits x))) (from_to x.ones (most_bits x))
    (inside (max s.low x.ones) (min s.high (most_bits x)) (from_to x.ones (most_bits x)) (omega arith) (omega arith)) (tails_inside u)

-- ---- merged bits say no less than either
first_one : (ao au co cu : ℕ) → ao < 2 → co < 2 → cu < 2 → au ≡ 0 → min co cu ≡ 0 → min ((ao + co) % 2) (1 - max au cu) ≡ 0 → max ao co ≡ ao
first_one ao au co cu a b c d e f = grind arith

second_one : (ao au co cu : ℕ) → ao < 2 → co < 2 → au < 2 → cu ≡ 0 → min ao au ≡ 0 → min ((ao + co) % 2) (1 - max au cu) ≡ 0 → max ao co ≡ co
second_one ao au co cu a b c d e f = grind arith

both_first : (a c : KnownBits) → AreWords c → ((k : ℕ) → clash_at a c k ≡ 0) → AreBitsWithin (both a c) a
both_first a c cw agree k z = (
  bit-and a.unknown c.unknown k ∙ omega (arith, z),
  bit-or a.ones c.ones k ∙ first_one (bit a.ones k) (bit a.unknown k) (bit c.ones k) (bit c.unknown k) (bit-lt a.ones k) (bit-lt c.ones k) (bit-lt c.unknown k) z (cw.apart k) (agree k),
)

both_second : (a c : KnownBits) → AreWords a → ((k : ℕ) → clash_at a c k ≡ 0) → AreBitsWithin (both a c) c
both_second a c aw agree k z = (
  bit-and a.unknown c.unknown k ∙ omega (arith, z),
  bit-or a.ones c.ones k ∙ second_one (bit a.ones k) (bit a.unknown k) (bit c.ones k) (bit c.unknown k) (bit-lt a.ones k) (bit-lt c.ones k) (bit-lt a.unknown k) z (aw.apart k) (agree k),
)

first_on : (a c : KnownBits) (o : Option KnownBits) → AreWords c → Merge a c o → IsBelow AreBitsWithin o (Some a)
first_on a c None cw m = tt
first_on a c (Some d) cw m = let is = m.only d refl in subst (λ (e : KnownBits). AreBitsWithin e a) (sym is.0) (both_first a c cw is.1)

second_on : (a c : KnownBits) (o : Option KnownBits) → AreWords a → Merge a c o → IsBelow AreBitsWithin o (Some c)
second_on a c None aw m = tt
second_on a c (Some d) aw m = let is = m.only d refl in subst (λ (e : KnownBits). AreBitsWithin e c) (sym is.0) (both_second a c aw is.1)

pub merged_first : (a c : KnownBits) → AreWords a → AreWords c → IsBelow AreBitsWithin (merged_bits a c) (Some a)
merged_first a c aw cw = first_on a c (merged_bits a c) cw (merge a c aw cw)

pub merged_second : (a c : KnownBits) → AreWords a → AreWords c → IsBelow AreBitsWithin (merged_bits a c) (Some c)
merged_second a c aw cw = second_on a c (merged_bits a c) aw (merge a c aw cw)

-- ---- the normal form
abbrev estimate : KnownBits → Tails → Interval → Estimate
estimate bits tails range = record { bits = bits; range = range; tails = tails }

settled_inside : (c : KnownBits) (f : Interval) (t : Tails) (e : Estimate) → AreBitsWithin c e.bits → IsIntervalWithin f e.range → AreTailsWithin t e.tails → IsBelow IsWithin (settled t f c) (Some e)
settled_inside c f t e bits range tails = last (narrowed c f t) (range_trans (narrowed c f t) f e.range (narrowed_inside c f t) range)
  where
    last : (o : Option Interval) → IsBelow IsIntervalWithin o (Some e.range) → IsBelow IsWithin (option_map (estimate c t) o) (Some e)
    last None below = tt
    last (Some l) below = record { bits = bits; range = below; tails = tails }

pub normal_inside : (a : KnownBits) (r : Interval) (t : Tails) (e : Estimate) → AreWords a → r.high < 2 ^ 64 → AreBitsWithin a e.bits → IsIntervalWithin r e.range → AreTailsWithin t e.tails → IsBelow IsWithin (normal a r t) (Some e)
unfolding normal
normal_inside a r t e aw fits bits range tails = firsts (narrowed a r t) (range_trans (narrowed a r t) r e.range (narrowed_inside a r t) range) (narrowed_range a r t fits)
  where
    merges : (f : Interval) (o : Option KnownBits) → IsBelow AreBitsWithin o (Some a) → IsIntervalWithin f e.range → IsBelow IsWithin (option_and_then (settled t f) o) (Some e)
    merges f None below within = tt
    merges f (Some c) below within = settled_inside c f t e (bits_trans c a e.bits below bits) within tails

    firsts : (o : Option Interval) → IsBelow IsIntervalWithin o (Some e.range) → IsRangeIn o → IsBelow IsWithin (option_and_then (λ f. option_and_then (settled t f) (merged_bits a (common_bits f.low f.high))) o) (Some e)
    firsts None below fr = tt
    firsts (Some f) below fr = merges f (merged_bits a (common_bits f.low f.high)) (merged_first a (common_bits f.low f.high) aw (words_of f fr)) below

-- ---- what two tell of one number says no less than either
pub greater_first : (t u : Option ℕ) → IsTailWithin (greater_tail t u) t
greater_first None u = tt
greater_first (Some t) None = omega arith
greater_first (Some t) (Some u) = omega arith

greater_second : (t u : Option ℕ) → IsTailWithin (greater_tail t u) u
greater_second t None = tt
greater_second None (Some u) = omega arith
greater_second (Some t) (Some u) = omega arith

same_inside : (x y e : Estimate) (o : Option KnownBits) → x.range.high < 2 ^ 64 → IsBelow AreBitsWithin o (Some e.bits) → AreWordsIn o
    → IsIntervalWithin (from_to (max x.range.low y.range.low) (min x.range.high y.range.high)) e.range → AreTailsWithin (both_tails greater_tail x.tails y.tails) e.tails
    → IsBelow IsWithin
    (option_and_then (λ bits. option_and_then (λ r. normal bits r (both_tails greater_tail x.tails y.tails)) (some_between (max x.range.low y.range.low) (min x.range.high y.range.high))) o)
    (Some e)
same_inside x y e None fits bits words range tails = tt
same_inside x y e (Some c) fits bits words range tails =
    ends (some_between (max x.range.low y.range.low) (min x.range.high y.range.high))
    (inside (max x.range.low y.range.low) (min x.range.high y.range.high) e.range range.0 range.1)
    (between_range (max x.range.low y.range.low) (min x.range.high y.range.high) (omega arith))
  where
    ends : (q : Option Interval) → IsBelow IsIntervalWithin q (Some e.range) → IsRangeIn q → IsBelow IsWithin (option_and_then (λ r. normal c r (both_tails greater_tail x.tails y.tails)) q) (Some e)
    ends None below fr = tt
    ends (Some f) below fr = normal_inside c f (both_tails greater_tail x.tails y.tails) e words fr.fits bits below tails

pub same_first : (x y : Estimate) → AreWords x.bits → AreWords y.bits → x.range.high < 2 ^ 64 → IsBelow IsWithin (same x y) (Some x)
unfolding same
same_first x y xw yw fits =
    same_inside x y x (merged_bits x.bits y.bits) fits (merged_first x.bits y.bits xw yw) (merged_words x.bits y.bits xw yw) (omega arith, omega arith)
    (greater_first x.tails.text y.tails.text, greater_first x.tails.link y.tails.link)

pub same_second : (x y : Estimate) → AreWords x.bits → AreWords y.bits → x.range.high < 2 ^ 64 → IsBelow IsWithin (same x y) (Some y)
unfolding same
same_second x y xw yw fits =
    same_inside x y y (merged_bits x.bits y.bits) fits (merged_second x.bits y.bits xw yw) (merged_words x.bits y.bits xw yw) (omega arith, omega arith)
    (greater_second x.tails.text y.tails.text, greater_second x.tails.link y.tails.link)

-- ---- and it is a number
abbrev pub IsNumberIn : Option Estimate → Type 0
IsNumberIn None = Unit {0}
IsNumberIn (Some a) = IsNumber a

-- where something is left, no tail is past its region's limit
abbrev ShortIn : Option ℕ → Option Interval → Type 0
ShortIn t None = Unit {0}
ShortIn t (Some r) = IsShort t

under_short : (limit : ℕ) (t : Option ℕ) (r : Interval) → limit < 2 ^ 32 → ShortIn t (under_tail limit t r)
unfolding under_tail
under_short limit None r small = tt
under_short limit (Some t) r small =
    ⊎_elim
    (λ (far : limit < t). let no : nat_le t limit ≡ false = grind (arith, nat_tests) in rw no tt)
    (λ (near : t ≤ limit).
    let yes : nat_le t limit ≡ true = grind (arith, nat_tests) in rw yes (left_short t (some_between r.low (min r.high (limit - t))) (omega arith)))
    (cases_lt limit t)
  where
    left_short : (t : ℕ) (o : Option Interval) → t < 2 ^ 32 → ShortIn (Some t) o
    left_short t None small = tt
    left_short t (Some r) small = small

abbrev BothShort : Tails → Option Interval → Type 0
BothShort t None = Unit {0}
BothShort t (Some r) = AreShort t

tails_short : (t : Tails) (r : Interval) → BothShort t (under_tails t r)
unfolding under_tails
tails_short t r = second (under_tail (limit_of Text) t.text r) (under_short (limit_of Text) t.text r (omega arith))
  where
    third : (o : Option Interval) → IsShort t.text → ShortIn t.link o → BothShort t o
    third None text link = tt
    third (Some q) text link = (text, link)

    second : (o : Option Interval) → ShortIn t.text o → BothShort t (option_and_then (under_tail (limit_of Link) t.link) o)
    second None text = tt
    second (Some q) text = third (under_tail (limit_of Link) t.link q) text (under_short (limit_of Link) t.link q (omega arith))

narrowed_short : (x : KnownBits) (s : Interval) (u : Tails) → BothShort u (narrowed x s u)
unfolding narrowed
narrowed_short x s u = first (some_between (max s.low x.ones) (min s.high (most_bits x)))
  where
    first : (o : Option Interval) → BothShort u (option_and_then (under_tails u) o)
    first None = tt
    first (Some r) = tails_short u r

settled_number : (c : KnownBits) (f : Interval) (t : Tails) → AreWords c → IsRange f → IsNumberIn (settled t f c)
settled_number c f t words fr = last (narrowed c f t) (narrowed_in_bits c f t) (narrowed_range c f t fr.fits) (narrowed_short c f t)
  where
    last : (o : Option Interval) → IsBelow IsIntervalWithin o (Some (from_to c.ones (most_bits c))) → IsRangeIn o → BothShort t o → IsNumberIn (option_map (estimate c t) o)
    last None below range short = tt
    last (Some l) below range short = record { words = words; range = range; least = below.0; most = below.1; short = short }

pub normal_number : (a : KnownBits) (r : Interval) (t : Tails) → AreWords a → r.high < 2 ^ 64 → IsNumberIn (normal a r t)
unfolding normal
normal_number a r t aw fits = firsts (narrowed a r t) (narrowed_range a r t fits)
  where
    merges : (f : Interval) (o : Option KnownBits) → AreWordsIn o → IsRange f → IsNumberIn (option_and_then (settled t f) o)
    merges f None words fr = tt
    merges f (Some c) words fr = settled_number c f t words fr

    firsts : (o : Option Interval) → IsRangeIn o → IsNumberIn (option_and_then (λ f. option_and_then (settled t f) (merged_bits a (common_bits f.low f.high))) o)
    firsts None fr = tt
    firsts (Some f) fr = merges f (merged_bits a (common_bits f.low f.high)) (merged_words a (common_bits f.low f.high) aw (words_of f fr)) fr
