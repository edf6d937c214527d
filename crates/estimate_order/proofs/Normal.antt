-- The normal form keeps the order.
use Rattle.std.proofs.Common.{◌≡◌, ℕ, ◌-◌, ◌^◌, ◌<◌, ◌≤◌, min, max, nat_le, true, false, Option, Some, None, arith, ⊎_elim}
use Rattle.std.specs.Prelude.{option_map, option_and_then}
use Rattle.std.proofs.lemmas.Bool.Decides.{nat_tests}
use Rattle.std.proofs.lemmas.Bool.{cases_lt}
use Rattle.known_bits.specs.KnownBits.{KnownBits, most_bits, common_bits, merged_bits}
use Rattle.intervals.specs.Interval.{Interval, some_between}
use Rattle.abstract_state.specs.declared.region.Region.TheVariants.{Text, Link}
use Rattle.abstract_state.specs.declared.region.Tails.{Tails}
use Rattle.abstract_state.specs.Lent.{limit_of}
use Rattle.abstract_state.specs.Estimate.{Estimate, under_tail, under_tails, narrowed, settled, normal}
use Rattle.estimate_order.specs.Order.{AreBitsWithin, IsIntervalWithin, IsTailWithin, AreTailsWithin, IsWithin, IsBelow, AreWords, IsRange}
use Rattle.estimate_order.proofs.BitOrder.{ones_within, most_within, common, common_within, merged_within, merged_words, AreWordsIn}

-- ---- intervals
abbrev pub IsRangeIn : Option Interval → Type 0
IsRangeIn None = Unit {0}
IsRangeIn (Some r) = IsRange r

pub between_within : (l h m k : ℕ) → m ≤ l → h ≤ k → IsBelow IsIntervalWithin (some_between l h) (some_between m k)
between_within l h m k low high =
    ⊎_elim
    (λ (less : h < l). let no : nat_le l h ≡ false = grind (arith, nat_tests) in rw no tt)
    (λ (there : l ≤ h).
    let yes : nat_le l h ≡ true = grind (arith, nat_tests) in
    let also : nat_le m k ≡ true = grind (arith, nat_tests) in
    rw (yes, also) (low, high))
    (cases_lt h l)

pub between_range : (l h : ℕ) → h < 2 ^ 64 → IsRangeIn (some_between l h)
between_range l h fits =
    ⊎_elim
    (λ (less : h < l). let no : nat_le l h ≡ false = grind (arith, nat_tests) in rw no tt)
    (λ (there : l ≤ h). let yes : nat_le l h ≡ true = grind (arith, nat_tests) in rw yes (record { order = there; fits = fits }))
    (cases_lt h l)

pub inside : (l h : ℕ) (s : Interval) → s.low ≤ l → h ≤ s.high → IsBelow IsIntervalWithin (some_between l h) (Some s)
inside l h s low high =
    ⊎_elim
    (λ (less : h < l). let no : nat_le l h ≡ false = grind (arith, nat_tests) in rw no tt)
    (λ (there : l ≤ h). let yes : nat_le l h ≡ true = grind (arith, nat_tests) in rw yes (low, high))
    (cases_lt h l)

-- ---- under the tails
tail_within : (limit : ℕ) (t u : Option ℕ) (r s : Interval) → IsTailWithin t u → IsIntervalWithin r s → IsBelow IsIntervalWithin (under_tail limit t r) (under_tail limit u s)
unfolding under_tail
tail_within limit None None r s tail within = within
tail_within limit None (Some u) r s tail within = absurd tail
tail_within limit (Some t) None r s tail within =
    let low = within.0 in
    let high = within.1 in
    ⊎_elim
    (λ (far : limit < t). let no : nat_le t limit ≡ false = grind (arith, nat_tests) in rw no tt)
    (λ (near : t ≤ limit).
    let yes : nat_le t limit ≡ true = grind (arith, nat_tests) in
    rw yes (inside r.low (min r.high (limit - t)) s low (omega arith)))
    (cases_lt limit t)
tail_within limit (Some t) (Some u) r s tail within =
    let low = within.0 in
    let high = within.1 in
    ⊎_elim
    (λ (far : limit < t). let no : nat_le t limit ≡ false = grind (arith, nat_tests) in rw no tt)
    (λ (near : t ≤ limit).
    let yes : nat_le t limit ≡ true = grind (arith, nat_tests) in
    let also : nat_le u limit ≡ true = grind (arith, nat_tests) in
    rw (yes, also) (between_within r.low (min r.high (limit - t)) s.low (min s.high (limit - u)) low (omega arith)))
    (cases_lt limit t)

tail_range : (limit : ℕ) (t : Option ℕ) (r : Interval) → IsRange r → IsRangeIn (under_tail limit t r)
unfolding under_tail
tail_range limit None r range = range
tail_range limit (Some t) r range =
    let fits = range.fits in
    ⊎_elim
    (λ (far : limit < t). let no : nat_le t limit ≡ false = grind (arith, nat_tests) in rw no tt)
    (λ (near : t ≤ limit).
    let yes : nat_le t limit ≡ true = grind (arith, nat_tests) in
    rw yes (between_range r.low (min r.high (limit - t)) (omega arith)))
    (cases_lt limit t)

-- a step that keeps the order, on what may be nothing
next : {A B : Type 0} (within : A → A → Type 0) (later : B → B → Type 0) (f g : A → Option B) (o p : Option A) → IsBelow within o p → ((a x : A) → within a x → IsBelow later (f a) (g x)) → IsBelow later (option_and_then f o) (option_and_then g p)
next within later f g None p below each = tt
next within later f g (Some a) None below each = absurd below
next within later f g (Some a) (Some x) below each = each a x below

next_range : (f : Interval → Option Interval) (o : Option Interval) → IsRangeIn o → ((r : Interval) → IsRange r → IsRangeIn (f r)) → IsRangeIn (option_and_then f o)
next_range f None range each = tt
next_range f (Some r) range each = each r range

tails_within : (t u : Tails) (r s : Interval) → AreTailsWithin t u → IsIntervalWithin r s → IsBelow IsIntervalWithin (under_tails t r) (under_tails u s)
unfolding under_tails
tails_within t u r s tails within =
    next IsIntervalWithin IsIntervalWithin (under_tail (limit_of Link) t.link) (under_tail (limit_of Link) u.link)
    (under_tail (limit_of Text) t.text r) (under_tail (limit_of Text) u.text s) (tail_within (limit_of Text) t.text u.text r s tails.0 within)
    (λ a x below. tail_within (limit_of Link) t.link u.link a x tails.1 below)

tails_range : (t : Tails) (r : Interval) → IsRange r → IsRangeIn (under_tails t r)
unfolding under_tails
tails_range t r range = next_range (under_tail (limit_of Link) t.link) (under_tail (limit_of Text) t.text r) (tail_range (limit_of Text) t.text r range) (tail_range (limit_of Link) t.link)

-- ---- narrowed by bits and tails
pub narrowed_from : (a x : KnownBits) (r s : Interval) (t u : Tails) → max s.low x.ones ≤ max r.low a.ones → min r.high (most_bits a) ≤ min s.high (most_bits x) → AreTailsWithin t u → IsBelow IsIntervalWithin (narrowed a r t) (narrowed x s u)
unfolding narrowed
narrowed_from a x r s t u low high tails =
    next IsIntervalWithin IsIntervalWithin (under_tails t) (under_tails u)
    (some_between (max r.low a.ones) (min r.high (most_bits a))) (some_between (max s.low x.ones) (min s.high (most_bits x)))
    (between_within (max r.low a.ones) (min r.high (most_bits a)) (max s.low x.ones) (min s.high (most_bits x)) low high)
    (λ f g below. tails_within t u f g tails below)

pub narrowed_within : (a x : KnownBits) (r s : Interval) (t u : Tails) → AreWords x → AreBitsWithin a x → IsIntervalWithin r s → AreTailsWithin t u → IsBelow IsIntervalWithin (narrowed a r t) (narrowed x s u)
narrowed_within a x r s t u words bits within tails =
    let low = within.0 in
    let high = within.1 in
    let ones = ones_within a x words bits in
    let most = most_within a x bits in
    narrowed_from a x r s t u (omega arith) (omega arith) tails

pub narrowed_range : (x : KnownBits) (s : Interval) (u : Tails) → s.high < 2 ^ 64 → IsRangeIn (narrowed x s u)
unfolding narrowed
narrowed_range x s u fits = next_range (under_tails u) (some_between (max s.low x.ones) (min s.high (most_bits x))) (between_range (max s.low x.ones) (min s.high (most_bits x)) (omega arith)) (tails_range u)

-- ---- the normal form
abbrev estimate : KnownBits → Tails → Interval → Estimate
estimate bits tails range = record { bits = bits; range = range; tails = tails }

pub settled_within : (a x : KnownBits) (f g : Interval) (t u : Tails) → AreWords x → AreBitsWithin a x → IsIntervalWithin f g → AreTailsWithin t u → IsBelow IsWithin (settled t f a) (settled u g x)
settled_within a x f g t u words bits within tails =
    last (narrowed a f t) (narrowed x g u) (narrowed_within a x f g t u words bits within tails)
  where
    last : (o p : Option Interval) → IsBelow IsIntervalWithin o p → IsBelow IsWithin (option_map (estimate a t) o) (option_map (estimate x u) p)
    last None p below = tt
    last (Some l) None below = absurd below
    last (Some l) (Some m) below = record { bits = bits; range = below; tails = tails }

pub words_of : (r : Interval) → IsRange r → AreWords (common_bits r.low r.high)
words_of r range = (common r.low r.high (omega (arith, range.order, range.fits)) range.fits).words

ends_within : (a x : KnownBits) (t u : Tails) (f g : Interval) → AreWords a → AreWords x → AreBitsWithin a x → AreTailsWithin t u → IsRange f → IsRange g → IsIntervalWithin f g → IsBelow IsWithin (option_and_then (settled t f) (merged_bits a (common_bits f.low f.high))) (option_and_then (settled u g) (merged_bits x (common_bits g.low g.high)))
ends_within a x t u f g aw xw bits tails fr gr within =
    merged_on (merged_bits a (common_bits f.low f.high)) (merged_bits x (common_bits g.low g.high))
    (merged_within a (common_bits f.low f.high) x (common_bits g.low g.high) aw (words_of f fr) xw (words_of g gr) bits (common_within f g fr gr within))
    (merged_words x (common_bits g.low g.high) xw (words_of g gr))
  where
    merged_on : (o p : Option KnownBits) → IsBelow AreBitsWithin o p → AreWordsIn p → IsBelow IsWithin (option_and_then (settled t f) o) (option_and_then (settled u g) p)
    merged_on None p below words = tt
    merged_on (Some c) None below words = absurd below
    merged_on (Some c) (Some d) below words = settled_within c d f g t u words below within tails

-- of bits, an interval and tails that say no less the normal form says no less
pub normal_within : (a x : KnownBits) (r s : Interval) (t u : Tails) → AreWords a → AreWords x → s.high < 2 ^ 64 → AreBitsWithin a x → IsIntervalWithin r s → AreTailsWithin t u → IsBelow IsWithin (normal a r t) (normal x s u)
unfolding normal
normal_within a x r s t u aw xw fits bits within tails =
    let high = within.1 in
    firsts (narrowed a r t) (narrowed x s u) (narrowed_within a x r s t u xw bits within tails) (narrowed_range a r t (omega arith)) (narrowed_range x s u fits)
  where
    firsts : (o p : Option Interval) → IsBelow IsIntervalWithin o p → IsRangeIn o → IsRangeIn p → IsBelow IsWithin (option_and_then (λ f. option_and_then (settled t f) (merged_bits a (common_bits f.low f.high))) o) (option_and_then (λ g. option_and_then (settled u g) (merged_bits x (common_bits g.low g.high))) p)
    firsts None p below fr gr = tt
    firsts (Some f) None below fr gr = absurd below
    firsts (Some f) (Some g) below fr gr = ends_within a x t u f g aw xw bits tails fr gr below
