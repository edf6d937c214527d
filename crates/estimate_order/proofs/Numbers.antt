-- What is known of numbers keeps the order where ways join, and where a comparison tells of its sides.
use Rattle.std.proofs.Common.{ℕ, ◌^◌, ◌<◌, ◌≤◌, min, max, Option, Some, None, arith}
use Rattle.std.specs.Prelude.{option_and_then}
use Rattle.known_bits.specs.KnownBits.{KnownBits, agreed_bits, merged_bits}
use Rattle.intervals.specs.Interval.{Interval, some_between, hull_of}
use Rattle.abstract_state.specs.Estimate.{Estimate, normal, joined, both_tails, raised_tail, greater_tail, lesser_tail}
use Rattle.abstract_state.specs.Comparing.{below, same}
use Rattle.estimate_order.specs.Order.{AreBitsWithin, IsIntervalWithin, IsTailWithin, IsWithin, IsBelow, AreWords}
use Rattle.estimate_order.proofs.BitOrder.{merged_within, merged_words, AreWordsIn}
use Rattle.estimate_order.proofs.Bitwise.{agreed_within, agreed_words}
use Rattle.estimate_order.proofs.Normal.{IsRangeIn, between_within, between_range, normal_within}

-- ---- tails
pub lesser_within : (t u v w : Option ℕ) → IsTailWithin t v → IsTailWithin u w → IsTailWithin (lesser_tail t u) (lesser_tail v w)
lesser_within t u None w h j = tt
lesser_within t u (Some v) None h j = tt
lesser_within None u (Some v) (Some w) h j = absurd h
lesser_within (Some t) None (Some v) (Some w) h j = absurd j
lesser_within (Some t) (Some u) (Some v) (Some w) h j = omega arith

pub greater_within : (t u v w : Option ℕ) → IsTailWithin t v → IsTailWithin u w → IsTailWithin (greater_tail t u) (greater_tail v w)
greater_within t u None None h j = tt
greater_within t None None (Some w) h j = absurd j
greater_within None (Some u) None (Some w) h j = j
greater_within (Some t) (Some u) None (Some w) h j = omega arith
greater_within None u (Some v) w h j = absurd h
greater_within (Some t) None (Some v) None h j = h
greater_within (Some t) (Some u) (Some v) None h j = omega arith
greater_within (Some t) None (Some v) (Some w) h j = absurd j
greater_within (Some t) (Some u) (Some v) (Some w) h j = omega arith

pub raised_within : (t u : Option ℕ) (n m : ℕ) → IsTailWithin t u → m ≤ n → IsTailWithin (raised_tail n t) (raised_tail m u)
raised_within t None n m h less = tt
raised_within None (Some u) n m h less = absurd h
raised_within (Some t) (Some u) n m h less = omega arith

-- ---- either of two numbers
pub joined_within : (a b x y : Estimate) → AreWords a.bits → AreWords b.bits → AreWords x.bits → AreWords y.bits → x.range.high < 2 ^ 64 → y.range.high < 2 ^ 64 → IsWithin a x → IsWithin b y → IsBelow IsWithin (joined a b) (joined x y)
unfolding joined hull_of
joined_within a b x y aw bw xw yw xf yf one other =
    let al = one.range.0 in
    let ah = one.range.1 in
    let bl = other.range.0 in
    let bh = other.range.1 in
    normal_within (agreed_bits a.bits b.bits) (agreed_bits x.bits y.bits) (hull_of a.range b.range) (hull_of x.range y.range) (both_tails lesser_tail a.tails b.tails) (both_tails lesser_tail x.tails y.tails)
    (agreed_words a.bits b.bits aw bw) (agreed_words x.bits y.bits xw yw) (omega arith)
    (agreed_within a.bits b.bits x.bits y.bits aw bw xw yw one.bits other.bits) (omega arith, omega arith)
    (lesser_within a.tails.text b.tails.text x.tails.text y.tails.text one.tails.0 other.tails.0, lesser_within a.tails.link b.tails.link x.tails.link y.tails.link one.tails.1 other.tails.1)

-- ---- one number of which two tell
same_on : (a b x y : Estimate) (o p : Option KnownBits) → x.range.high < 2 ^ 64 → IsWithin a x → IsWithin b y → AreWordsIn o → AreWordsIn p → IsBelow AreBitsWithin o p
    → IsBelow IsWithin
    (option_and_then (λ bits. option_and_then (λ r. normal bits r (both_tails greater_tail a.tails b.tails)) (some_between (max a.range.low b.range.low) (min a.range.high b.range.high))) o)
    (option_and_then (λ bits. option_and_then (λ r. normal bits r (both_tails greater_tail x.tails y.tails)) (some_between (max x.range.low y.range.low) (min x.range.high y.range.high))) p)
same_on a b x y None p fits one other ow pw below = tt
same_on a b x y (Some c) None fits one other ow pw below = absurd below
same_on a b x y (Some c) (Some d) fits one other ow pw below =
    let al = one.range.0 in
    let ah = one.range.1 in
    let bl = other.range.0 in
    let bh = other.range.1 in
    ends (some_between (max a.range.low b.range.low) (min a.range.high b.range.high)) (some_between (max x.range.low y.range.low) (min x.range.high y.range.high))
    (between_within (max a.range.low b.range.low) (min a.range.high b.range.high) (max x.range.low y.range.low) (min x.range.high y.range.high) (omega arith) (omega arith))
    (between_range (max x.range.low y.range.low) (min x.range.high y.range.high) (omega arith))
  where
    ends : (q r : Option Interval) → IsBelow IsIntervalWithin q r → IsRangeIn r → IsBelow IsWithin (option_and_then (λ r. normal c r (both_tails greater_tail a.tails b.tails)) q) (option_and_then (λ r. normal d r (both_tails greater_tail x.tails y.tails)) r)
    ends None r less short = tt
    ends (Some f) None less short = absurd less
    ends (Some f) (Some g) less short =
        normal_within c d f g (both_tails greater_tail a.tails b.tails) (both_tails greater_tail x.tails y.tails) ow pw short.fits below less
        (greater_within a.tails.text b.tails.text x.tails.text y.tails.text one.tails.0 other.tails.0, greater_within a.tails.link b.tails.link x.tails.link y.tails.link one.tails.1 other.tails.1)

pub same_within : (a b x y : Estimate) → AreWords a.bits → AreWords b.bits → AreWords x.bits → AreWords y.bits → x.range.high < 2 ^ 64 → IsWithin a x → IsWithin b y → IsBelow IsWithin (same a b) (same x y)
unfolding same
same_within a b x y aw bw xw yw fits one other =
    same_on a b x y (merged_bits a.bits b.bits) (merged_bits x.bits y.bits) fits one other (merged_words a.bits b.bits aw bw) (merged_words x.bits y.bits xw yw)
    (merged_within a.bits b.bits x.bits y.bits aw bw xw yw one.bits other.bits)
