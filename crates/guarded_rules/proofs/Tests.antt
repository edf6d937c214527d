-- The verifier's tests say of their sides what tests are to say.
use Rattle.std.proofs.Common.{◌≡◌, ℕ, ◌+◌, ◌-◌, ◌^◌, ◌<◌, ◌≤◌, nat_lt, nat_eq, if◌then◌else◌, ◌&&◌, Bool, true, false, Option, Some, None, refl, sym, ap, ◌∙◌, subst, arith, min, max}
use Rattle.std.specs.Prelude.{option_map}
use Rattle.std.specs.Option.{option_map_or}
use Rattle.std.proofs.lemmas.Bool.Decides.{nat_tests}
use Rattle.bpf_words.specs.declared.instruction.Comparison.{Comparison}
use Rattle.bpf_words.specs.declared.instruction.Comparison.TheVariants as test
use Rattle.bpf_words.specs.declared.instruction.Width.{Width}
use Rattle.semantics.specs.Value.{bits_of}
use Rattle.intervals.specs.Interval.{Interval, from_to}
use Rattle.abstract_state.specs.declared.region.Region.{Region}
use Rattle.abstract_state.specs.declared.region.Tails.{Tails}
use Rattle.abstract_state.specs.declared.relation.Relation.{Relation}
use Rattle.abstract_state.specs.declared.relation.Relation.TheVariants as relation
use Rattle.abstract_state.specs.Lent.{tail_of}
use Rattle.abstract_state.specs.Estimate.{Estimate, both_tails, each_tail, raised_tail, greater_tail, only}
use Rattle.abstract_state.specs.Comparing.{Told, told, both_told, below, above, ordered, turned, same, within, without_end, apart, refined, relation_of, reach, told_on}
use Rattle.abstract_state.specs.Edges.{is_order}
use Rattle.guarded_rules.specs.Facts.{Kind, Property, Any, AtLeast, AtMost, Behind}
use Rattle.guarded_rules.specs.Keeps.{Keeps}
use Rattle.guarded_rules.specs.Says.{greatest, HasTail, HasProperty, Says, SaysIn}
use Rattle.guarded_rules.specs.Tests.{Side, Left, Right, other, at_side, IsBefore, less, at_most, at_least, greater, Tells, kept, most, behind, least, alike, past, short, Excludes, order, unlike}
pub use Rattle.guarded_rules.specs.Tests.{told_at, ToldSays}
use Rattle.guarded_rules.proofs.Bounds.{below_keeps, above_keeps, same_keeps, apart_keeps, then_keeps}
use Rattle.guarded_rules.proofs.Kept.{seen, says_kept}
use Rattle.guarded_rules.proofs.Sums.{tails_first, tails_second, tails_raised, same_first, same_second}

-- ---- one side at a time
abbrev lower : ℕ → Estimate → Estimate → Interval
lower n x y = from_to x.range.low (min x.range.high (y.range.high - n))

abbrev tails_below : ℕ → Estimate → Estimate → Tails
tails_below n x y = both_tails greater_tail x.tails (each_tail (raised_tail n) y.tails)

abbrev upper : ℕ → Estimate → Estimate → Interval
upper n y x = from_to (max y.range.low (x.range.low + n)) y.range.high

below_says : (n : ℕ) (x y : Estimate) (k : Kind) (p : Property) → x.range.high ≤ greatest k → HasProperty p (seen (lower n x y) (tails_below n x y)) → SaysIn k p (below n x y)
below_says n x y k p word has = says_kept k p (lower n x y) (tails_below n x y) (below n x y) (omega (arith, word)) (below_keeps n x y) has

above_says : (n : ℕ) (y x : Estimate) (k : Kind) (p : Property) → y.range.high ≤ greatest k → HasProperty p (seen (upper n y x) y.tails) → SaysIn k p (above n y x)
above_says n y x k p word has = says_kept k p (upper n y x) y.tails (above n y x) word (above_keeps n y x) has

lower_property : (n : ℕ) (x y : Estimate) (p : Property) → HasProperty p x → HasProperty p (seen (lower n x y) (tails_below n x y))
lower_property n x y Any h = tt
lower_property n x y (AtLeast m) h = h
lower_property n x y (AtMost m) h = omega (arith, h)
lower_property n x y (Behind r m) h = tails_first r m x.tails (each_tail (raised_tail n) y.tails) h

upper_property : (n : ℕ) (y x : Estimate) (p : Property) → HasProperty p y → HasProperty p (seen (upper n y x) y.tails)
upper_property n y x Any h = tt
upper_property n y x (AtLeast m) h = omega (arith, h)
upper_property n y x (AtMost m) h = h
upper_property n y x (Behind r m) h = h

below_same : (n : ℕ) (x y : Estimate) (k : Kind) (p : Property) → Says k p x → SaysIn k p (below n x y)
below_same n x y k p h = below_says n x y k p h.word (lower_property n x y p h.has)

above_same : (n : ℕ) (y x : Estimate) (k : Kind) (p : Property) → Says k p y → SaysIn k p (above n y x)
above_same n y x k p h = above_says n y x k p h.word (upper_property n y x p h.has)

own_property : (p : Property) (x : Estimate) → HasProperty p x → HasProperty p (seen x.range x.tails)
own_property Any x h = tt
own_property (AtLeast m) x h = h
own_property (AtMost m) x h = h
own_property (Behind r m) x h = h

apart_same : (x y : Estimate) (k : Kind) (p : Property) → Says k p x → SaysIn k p (apart x y)
apart_same x y k p h = says_kept k p x.range x.tails (apart x y) h.word (apart_keeps x y) (own_property p x h.has)

-- ---- what stands on a side
pub side_told : Relation → Side → Estimate → Estimate → Option Estimate
side_told relation.Less Left x y = below 1 x y
side_told relation.Less Right x y = above 1 y x
side_told relation.AtMost Left x y = below 0 x y
side_told relation.AtMost Right x y = above 0 y x
side_told relation.Same Left x y = same x y
side_told relation.Same Right x y = same x y
side_told relation.Apart Left x y = apart x y
side_told relation.Apart Right x y = apart y x
side_told relation.AtLeast Left x y = above 0 x y
side_told relation.AtLeast Right x y = below 0 y x
side_told relation.Greater Left x y = above 1 x y
side_told relation.Greater Right x y = below 1 y x

turned_both : (a b : Option Estimate) → turned (both_told a b) ≡ both_told b a
turned_both None None = refl
turned_both None (Some b) = refl
turned_both (Some a) None = refl
turned_both (Some a) (Some b) = refl

both_same : (o : Option Estimate) → option_map (λ both. told both both) o ≡ both_told o o
both_same None = refl
both_same (Some a) = refl

refined_is : (r : Relation) (x y : Estimate) → refined r x y ≡ both_told (side_told r Left x y) (side_told r Right x y)
unfolding refined ordered side_told
refined_is relation.Less x y = refl
refined_is relation.AtMost x y = refl
refined_is relation.Same x y = both_same (same x y)
refined_is relation.Apart x y = refl
refined_is relation.AtLeast x y = turned_both (below 0 y x) (above 0 x y)
refined_is relation.Greater x y = turned_both (below 1 y x) (above 1 x y)

side_keeps : (r : Relation) (side : Side) (x y : Estimate) (k : Kind) (p : Property) → Says k p (at_side side x y) → SaysIn k p (side_told r side x y)
unfolding side_told
side_keeps relation.Less Left x y k p h = below_same 1 x y k p h
side_keeps relation.Less Right x y k p h = above_same 1 y x k p h
side_keeps relation.AtMost Left x y k p h = below_same 0 x y k p h
side_keeps relation.AtMost Right x y k p h = above_same 0 y x k p h
side_keeps relation.Same Left x y k p h = same_first k p x y h
side_keeps relation.Same Right x y k p h = same_second k p x y h
side_keeps relation.Apart Left x y k p h = apart_same x y k p h
side_keeps relation.Apart Right x y k p h = apart_same y x k p h
side_keeps relation.AtLeast Left x y k p h = above_same 0 x y k p h
side_keeps relation.AtLeast Right x y k p h = below_same 0 y x k p h
side_keeps relation.Greater Left x y k p h = above_same 1 x y k p h
side_keeps relation.Greater Right x y k p h = below_same 1 y x k p h

-- ---- two in order
first_most : (r : Relation) (first : Side) (n : ℕ) (x y : Estimate) (k : Kind) (m : ℕ) → IsBefore r first n → (at_side first x y).range.high ≤ greatest k → (at_side (other first) x y).range.high ≤ m + n → SaysIn k (AtMost m) (side_told r first x y)
unfolding side_told
first_most r first n x y k m less word h = below_says 1 x y k (AtMost m) word (omega (arith, h))
first_most r first n x y k m at_most word h = below_says 0 x y k (AtMost m) word (omega (arith, h))
first_most r first n x y k m at_least word h = below_says 0 y x k (AtMost m) word (omega (arith, h))
first_most r first n x y k m greater word h = below_says 1 y x k (AtMost m) word (omega (arith, h))

tail_before : (n m : ℕ) (region : Region) (x y : Estimate) → HasTail m (tail_of y.tails region) → m + n < 2 ^ 32 → HasTail (m + n) (tail_of (tails_below n x y) region)
tail_before n m region x y h few = tails_second region (m + n) x.tails (each_tail (raised_tail n) y.tails) (tails_raised region n m n y.tails h (omega arith) few)

first_behind : (r : Relation) (first : Side) (n : ℕ) (x y : Estimate) (k : Kind) (m : ℕ) (region : Region) → IsBefore r first n → (at_side first x y).range.high ≤ greatest k → HasTail m (tail_of (at_side (other first) x y).tails region) → m + n < 2 ^ 32 → SaysIn k (Behind region (m + n)) (side_told r first x y)
unfolding side_told
first_behind r first n x y k m region less word h few = below_says 1 x y k (Behind region (m + 1)) word (tail_before 1 m region x y h few)
first_behind r first n x y k m region at_most word h few = below_says 0 x y k (Behind region (m + 0)) word (tail_before 0 m region x y h few)
first_behind r first n x y k m region at_least word h few = below_says 0 y x k (Behind region (m + 0)) word (tail_before 0 m region y x h few)
first_behind r first n x y k m region greater word h few = below_says 1 y x k (Behind region (m + 1)) word (tail_before 1 m region y x h few)

second_least : (r : Relation) (first : Side) (n : ℕ) (x y : Estimate) (k : Kind) (m : ℕ) → IsBefore r first n → (at_side (other first) x y).range.high ≤ greatest k → m ≤ (at_side first x y).range.low → SaysIn k (AtLeast (m + n)) (side_told r (other first) x y)
unfolding side_told
second_least r first n x y k m less word h = above_says 1 y x k (AtLeast (m + 1)) word (omega (arith, h))
second_least r first n x y k m at_most word h = above_says 0 y x k (AtLeast (m + 0)) word (omega (arith, h))
second_least r first n x y k m at_least word h = above_says 0 x y k (AtLeast (m + 0)) word (omega (arith, h))
second_least r first n x y k m greater word h = above_says 1 x y k (AtLeast (m + 1)) word (omega (arith, h))

-- ---- two that are alike
same_other : (side : Side) (x y : Estimate) (k : Kind) (p : Property) → Says k p (at_side (other side) x y) → SaysIn k p (side_told relation.Same side x y)
unfolding side_told
same_other Left x y k p h = same_second k p x y h
same_other Right x y k p h = same_first k p x y h

-- ---- two that differ, of which the other is one number
one_only : (y : Estimate) (n : ℕ) → y.range.low ≤ y.range.high → n ≤ y.range.low → y.range.high ≤ n → only y ≡ Some n
unfolding only
one_only y n proper low high =
    let is : y.range.low ≡ n = omega (arith, proper, low, high) in
    let yes : nat_eq y.range.low y.range.high ≡ true = grind (arith, nat_tests, proper, low, high) in
    rw yes (ap (λ (m : ℕ). Some m) is)

moved : Estimate → ℕ → Interval
moved x n = from_to (if nat_eq x.range.low n then x.range.low + 1 else x.range.low) (if nat_eq x.range.high n then x.range.high - 1 else x.range.high)

moved_keeps : (x y : Estimate) (n : ℕ) → only y ≡ Some n → Keeps (moved x n) x.tails (apart x y)
unfolding apart moved
moved_keeps x y n is =
    subst (λ (o : Option ℕ). Keeps (moved x n) x.tails (within x (option_map_or (without_end x.range) o (Some x.range)))) (sym is)
    (then_keeps x.bits x.tails (if nat_eq x.range.low n then x.range.low + 1 else x.range.low) (if nat_eq x.range.high n then x.range.high - 1 else x.range.high))

low_by : (low n : ℕ) (b : Bool) → nat_eq low n ≡ b → n ≤ low → n + 1 ≤ (if b then low + 1 else low)
low_by low n true is h = omega (arith, h)
low_by low n false is h = grind (arith, nat_tests, is, h)

low_moves : (x : Estimate) (n : ℕ) → n ≤ x.range.low → n + 1 ≤ (moved x n).low
unfolding moved
low_moves x n h = low_by x.range.low n (nat_eq x.range.low n) refl h

high_by : (high n : ℕ) (b : Bool) → nat_eq high (n + 1) ≡ b → high ≤ n + 1 → (if b then high - 1 else high) ≤ n
high_by high n true is h = omega (arith, h)
high_by high n false is h = grind (arith, nat_tests, is, h)

high_moves : (x : Estimate) (n : ℕ) → x.range.high ≤ n + 1 → (moved x (n + 1)).high ≤ n
unfolding moved
high_moves x n h = high_by x.range.high n (nat_eq x.range.high (n + 1)) refl h

high_stays : (high n : ℕ) (b : Bool) → (if b then high - 1 else high) ≤ high
high_stays high n true = omega arith
high_stays high n false = omega arith

moved_top : (x : Estimate) (n : ℕ) (k : Kind) → x.range.high ≤ greatest k → (moved x n).high ≤ greatest k
unfolding moved
moved_top x n k word = let less = high_stays x.range.high n (nat_eq x.range.high n) in omega (arith, less, word)

apart_past : (x y : Estimate) (k : Kind) (n : ℕ) → x.range.high ≤ greatest k → y.range.low ≤ y.range.high → n ≤ x.range.low → n ≤ y.range.low → y.range.high ≤ n → SaysIn k (AtLeast (n + 1)) (apart x y)
apart_past x y k n word proper h low high =
    says_kept k (AtLeast (n + 1)) (moved x n) x.tails (apart x y) (moved_top x n k word) (moved_keeps x y n (one_only y n proper low high)) (low_moves x n h)

apart_short : (x y : Estimate) (k : Kind) (n : ℕ) → x.range.high ≤ greatest k → y.range.low ≤ y.range.high → x.range.high ≤ n + 1 → n + 1 ≤ y.range.low → y.range.high ≤ n + 1 → SaysIn k (AtMost n) (apart x y)
apart_short x y k n word proper h low high =
    says_kept k (AtMost n) (moved x (n + 1)) x.tails (apart x y) (moved_top x (n + 1) k word) (moved_keeps x y (n + 1) (one_only y (n + 1) proper low high)) (high_moves x n h)

side_past : (side : Side) (x y : Estimate) (k : Kind) (n : ℕ) → Says k Any (at_side side x y) → Says k Any (at_side (other side) x y) → n ≤ (at_side side x y).range.low → n ≤ (at_side (other side) x y).range.low → (at_side (other side) x y).range.high ≤ n → SaysIn k (AtLeast (n + 1)) (side_told relation.Apart side x y)
unfolding side_told
side_past Left x y k n one two h low high = apart_past x y k n one.word two.proper h low high
side_past Right x y k n one two h low high = apart_past y x k n one.word two.proper h low high

side_short : (side : Side) (x y : Estimate) (k : Kind) (n : ℕ) → Says k Any (at_side side x y) → Says k Any (at_side (other side) x y) → (at_side side x y).range.high ≤ n + 1 → n + 1 ≤ (at_side (other side) x y).range.low → (at_side (other side) x y).range.high ≤ n + 1 → SaysIn k (AtMost n) (side_told relation.Apart side x y)
unfolding side_told
side_short Left x y k n one two h low high = apart_short x y k n one.word two.proper h low high
side_short Right x y k n one two h low high = apart_short y x k n one.word two.proper h low high

-- ---- all that a test tells
set_side : (side : Side) (x y : Estimate) (k : Kind) → Says k Any x → Says k Any y → Says k Any (at_side side x y)
set_side Left x y k h j = h
set_side Right x y k h j = j

with_property : (k : Kind) (p : Property) (a : Estimate) → Says k Any a → HasProperty p a → Says k p a
with_property k p a h has = record { proper = h.proper; word = h.word; has = has }

pub tells_say : (r : Relation) (x y : Estimate) (k : Kind) (side : Side) (p : Property) → Says k Any x → Says k Any y → Tells r (λ s q. HasProperty q (at_side s x y)) side p → SaysIn k p (side_told r side x y)
tells_say r x y k side p one two (kept s h) = side_keeps r s x y k p (with_property k p (at_side s x y) (set_side s x y k one two) h)
tells_say r x y k side p one two (most first m n before h) = first_most r first n x y k m before (set_side first x y k one two).word h
tells_say r x y k side p one two (behind first m n region before h few) = first_behind r first n x y k m region before (set_side first x y k one two).word h few
tells_say r x y k side p one two (least first m n before h) = second_least r first n x y k m before (set_side (other first) x y k one two).word h
tells_say r x y k side p one two (alike s is h) =
    subst (λ (q : Relation). SaysIn k p (side_told q s x y)) (sym is)
    (same_other s x y k p (with_property k p (at_side (other s) x y) (set_side (other s) x y k one two) h))
tells_say r x y k side p one two (past s n is h low high) =
    subst (λ (q : Relation). SaysIn k (AtLeast (n + 1)) (side_told q s x y)) (sym is)
    (side_past s x y k n (set_side s x y k one two) (set_side (other s) x y k one two) h low high)
tells_say r x y k side p one two (short s n is h low high) =
    subst (λ (q : Relation). SaysIn k (AtMost n) (side_told q s x y)) (sym is)
    (side_short s x y k n (set_side s x y k one two) (set_side (other s) x y k one two) h low high)

-- ---- where the test doesn't come out so, no number is left
abbrev IsNothing : Option Estimate → Type 0
IsNothing None = Unit {0}
IsNothing (Some a) = ⊥

nothing_kept : (a : Interval) (tails : Tails) (o : Option Estimate) → a.high < a.low → Keeps a tails o → IsNothing o
nothing_kept a tails None few h = tt
nothing_kept a tails (Some e) few h = absurd (omega (arith, few, h.low, h.proper, h.high))

nothing_left : (a b : Option Estimate) → IsNothing a → both_told a b ≡ None
nothing_left None b h = refl
nothing_left (Some a) b h = absurd h

nothing_right : (a b : Option Estimate) → IsNothing b → both_told a b ≡ None
nothing_right None b h = refl
nothing_right (Some a) None h = refl
nothing_right (Some a) (Some b) h = absurd h

above_nothing : (n : ℕ) (y x : Estimate) → y.range.high < x.range.low + n → IsNothing (above n y x)
above_nothing n y x few = nothing_kept (upper n y x) y.tails (above n y x) (omega (arith, few)) (above_keeps n y x)

order_excludes : (r : Relation) (first : Side) (n : ℕ) (x y : Estimate) → IsBefore r first n → (at_side (other first) x y).range.high < (at_side first x y).range.low + n → both_told (side_told r Left x y) (side_told r Right x y) ≡ None
unfolding side_told
order_excludes r first n x y less few = nothing_right (below 1 x y) (above 1 y x) (above_nothing 1 y x few)
order_excludes r first n x y at_most few = nothing_right (below 0 x y) (above 0 y x) (above_nothing 0 y x few)
order_excludes r first n x y at_least few = nothing_left (above 0 x y) (below 0 y x) (above_nothing 0 x y few)
order_excludes r first n x y greater few = nothing_left (above 1 x y) (below 1 y x) (above_nothing 1 x y few)

same_nothing : (x y : Estimate) → min x.range.high y.range.high < max x.range.low y.range.low → IsNothing (same x y)
same_nothing x y few = nothing_kept (from_to (max x.range.low y.range.low) (min x.range.high y.range.high)) (both_tails greater_tail x.tails y.tails) (same x y) few (same_keeps x y)

unlike_sides : (side : Side) (x y : Estimate) → (at_side (other side) x y).range.high < (at_side side x y).range.low → min x.range.high y.range.high < max x.range.low y.range.low
unlike_sides Left x y few = omega (arith, few)
unlike_sides Right x y few = omega (arith, few)

same_excludes : (x y : Estimate) → min x.range.high y.range.high < max x.range.low y.range.low → refined relation.Same x y ≡ None
unfolding refined
same_excludes x y few = both_same (same x y) ∙ nothing_left (same x y) (same x y) (same_nothing x y few)

pub excludes_all : (r : Relation) (x y : Estimate) → Excludes r (λ s q. HasProperty q (at_side s x y)) → refined r x y ≡ None
excludes_all r x y (order first m l n before low high few) =
    refined_is r x y ∙ order_excludes r first n x y before (omega (arith, low, high, few))
excludes_all r x y (unlike side m l is low high few) =
    subst (λ (q : Relation). refined q x y ≡ None) (sym is) (same_excludes x y (unlike_sides side x y (omega (arith, low, high, few))))

-- ---- on an edge
left_says : (k : Kind) (p : Property) (a b : Option Estimate) → SaysIn k p a → ToldSays k Left p (both_told a b)
left_says k p None b h = tt
left_says k p (Some a) None h = tt
left_says k p (Some a) (Some b) h = h

right_says : (k : Kind) (p : Property) (a b : Option Estimate) → SaysIn k p b → ToldSays k Right p (both_told a b)
right_says k p None b h = tt
right_says k p (Some a) None h = tt
right_says k p (Some a) (Some b) h = h

refined_says : (r : Relation) (x y : Estimate) (k : Kind) (side : Side) (p : Property) → SaysIn k p (side_told r side x y) → ToldSays k side p (refined r x y)
refined_says r x y k Left p h =
    subst (λ (o : Option Told). ToldSays k Left p o) (sym (refined_is r x y))
    (left_says k p (side_told r Left x y) (side_told r Right x y) h)
refined_says r x y k Right p h =
    subst (λ (o : Option Told). ToldSays k Right p o) (sym (refined_is r x y))
    (right_says k p (side_told r Left x y) (side_told r Right x y) h)

told_same : (x y : Estimate) (k : Kind) (side : Side) (p : Property) → Says k p (at_side side x y) → ToldSays k side p (Some (told x y))
told_same x y k Left p h = h
told_same x y k Right p h = h

by_relation : (x y : Estimate) (k : Kind) (side : Side) (p : Property) (o : Option Relation) → Says k p (at_side side x y) → ToldSays k side p (option_map_or (λ r. refined r x y) o (Some (told x y)))
by_relation x y k side p None h = told_same x y k side p h
by_relation x y k side p (Some r) h = refined_says r x y k side p (side_keeps r side x y k p h)

if_told : (k : Kind) (side : Side) (p : Property) (b : Bool) (x y : Option Told) → ToldSays k side p x → ToldSays k side p y → ToldSays k side p (if b then x else y)
if_told k side p true x y h j = h
if_told k side p false x y h j = j

pub told_keeps : (width : Width) (c : Comparison) (taken : Bool) (x y : Estimate) (k : Kind) (side : Side) (p : Property) → Says k p (at_side side x y) → ToldSays k side p (told_on width c taken x y)
unfolding told_on
told_keeps width c taken x y k side p h =
    if_told k side p (nat_lt x.range.high (reach width c) && nat_lt y.range.high (reach width c)) (option_map_or (λ r. refined r x y) (relation_of c taken) (Some (told x y))) (Some (told x y))
    (by_relation x y k side p (relation_of c taken) h) (told_same x y k side p h)

-- an order without sign, or a test for equality, reads all numbers of its width
pub order_reach : (width : Width) (c : Comparison) → is_order c ≡ true → reach width c ≡ 2 ^ bits_of width
unfolding reach
order_reach width test.Equal is = refl
order_reach width test.Greater is = refl
order_reach width test.GreaterOrEqual is = refl
order_reach width test.AnyBit is = refl
order_reach width test.NotEqual is = refl
order_reach width test.SignedGreater is = absurd (cc)
order_reach width test.SignedGreaterOrEqual is = absurd (cc)
order_reach width test.Less is = refl
order_reach width test.LessOrEqual is = refl
order_reach width test.SignedLess is = absurd (cc)
order_reach width test.SignedLessOrEqual is = absurd (cc)

pub told_is : (width : Width) (c : Comparison) (taken : Bool) (x y : Estimate) (r : Relation) → is_order c ≡ true → relation_of c taken ≡ Some r → x.range.high < 2 ^ bits_of width → y.range.high < 2 ^ bits_of width → told_on width c taken x y ≡ refined r x y
unfolding told_on
told_is width c taken x y r plain is one two =
    let few : nat_lt x.range.high (2 ^ bits_of width) ≡ true = grind (arith, nat_tests, one) in
    let also : nat_lt y.range.high (2 ^ bits_of width) ≡ true = grind (arith, nat_tests, two) in
    rw (order_reach width c plain) (rw few (rw also (ap (λ (o : Option Relation). option_map_or (λ q. refined q x y) o (Some (told x y))) is)))

pub told_tells : (width : Width) (c : Comparison) (taken : Bool) (x y : Estimate) (r : Relation) (k : Kind) (side : Side) (p : Property) → is_order c ≡ true → relation_of c taken ≡ Some r → x.range.high < 2 ^ bits_of width → y.range.high < 2 ^ bits_of width → Says k Any x → Says k Any y → Tells r (λ s q. HasProperty q (at_side s x y)) side p → ToldSays k side p (told_on width c taken x y)
told_tells width c taken x y r k side p plain is one two set also tells =
    subst (λ (o : Option Told). ToldSays k side p o) (sym (told_is width c taken x y r plain is one two))
    (refined_says r x y k side p (tells_say r x y k side p set also tells))

pub told_never : (width : Width) (c : Comparison) (taken : Bool) (x y : Estimate) (r : Relation) → is_order c ≡ true → relation_of c taken ≡ Some r → x.range.high < 2 ^ bits_of width → y.range.high < 2 ^ bits_of width → Excludes r (λ s q. HasProperty q (at_side s x y)) → told_on width c taken x y ≡ None
told_never width c taken x y r plain is one two excludes = told_is width c taken x y r plain is one two ∙ excludes_all r x y excludes
