-- The verifier's sums say what sums are to say.
use Rattle.std.proofs.Common.{◌≡◌, ℕ, ◌+◌, ◌-◌, ◌*◌, ◌^◌, ◌<◌, ◌≤◌, nat_le, nat_lt, nat_eq, if◌then◌else◌, ◌&&◌, Bool, true, false, Option, Some, None, refl, sym, subst, arith, min, max}
use Rattle.std.specs.Prelude.{option_and_then}
use Rattle.std.specs.Option.{option_map_or, option_or}
use Rattle.std.proofs.lemmas.Bool.Decides.{nat_tests}
use Rattle.span_context.specs.declared.profile.Profile.{Profile}
use Rattle.span_context.specs.Profile.{has_more_rules}
use Rattle.bpf_words.specs.declared.instruction.Width.{Width}
use Rattle.bpf_words.specs.declared.instruction.Width.TheVariants.{Narrow, Full}
use Rattle.semantics.specs.Value.{bits_of}
use Rattle.intervals.specs.Interval.{Interval, from_to}
use Rattle.abstract_state.specs.declared.region.Region.{Region}
use Rattle.abstract_state.specs.declared.region.Region.TheVariants.{Text, Link}
use Rattle.abstract_state.specs.declared.region.Tails.{Tails}
use Rattle.abstract_state.specs.Lent.{tail_of}
use Rattle.abstract_state.specs.Exact.{tail_after}
use Rattle.abstract_state.specs.Estimate.{Estimate, both_tails, each_tail, raised_tail, greater_tail, constant, only}
use Rattle.abstract_state.specs.Comparing.{same}
use Rattle.abstract_state.specs.Transfer.{sum, sum_tail, difference, complement, in_both, by_both, added}
use Rattle.guarded_rules.specs.Facts.{Kind, Number, Property, Any, AtLeast, AtMost, Behind}
use Rattle.guarded_rules.specs.Says.{HasTail, HasProperty, Says, SaysIn}
use Rattle.guarded_rules.specs.Sums.{Exactly, Adds, adds_word, adds_least, adds_most, adds_behind, adds_second, Takes, takes_least, takes_most, takes_behind, Sums, adds, takes}
use Rattle.guarded_rules.proofs.Bounds.{same_keeps, sum_keeps, sum_any, tails_of_sum, difference_keeps, fits_word}
use Rattle.guarded_rules.proofs.Kept.{seen, says_kept}

-- ---- tails
tail_first : (n most added : ℕ) (t : Option ℕ) → HasTail (n + most) t → added ≤ most → HasTail n (tail_after t added)
tail_first n most added None h few = absurd h
tail_first n most added (Some t) h few = let yes : nat_le added t ≡ true = grind (arith, nat_tests, h, few) in rw yes (omega (arith, h, few))

or_first : (n : ℕ) (t u : Option ℕ) → HasTail n t → HasTail n (option_or t u)
or_first n None u h = absurd h
or_first n (Some t) u h = h

greater_first : (n : ℕ) (t u : Option ℕ) → HasTail n t → HasTail n (greater_tail t u)
greater_first n None u h = absurd h
greater_first n (Some t) None h = h
greater_first n (Some t) (Some u) h = omega (arith, h)

greater_second : (n : ℕ) (t u : Option ℕ) → HasTail n u → HasTail n (greater_tail t u)
greater_second n None u h = h
greater_second n (Some t) None h = absurd h
greater_second n (Some t) (Some u) h = omega (arith, h)

if_tail : (n : ℕ) (b : Bool) (t u : Option ℕ) → HasTail n t → HasTail n u → HasTail n (if b then t else u)
if_tail n true t u h j = h
if_tail n false t u h j = j

first_says : (profile : Profile) (n most high added : ℕ) (t u : Option ℕ) → HasTail (n + most) t → added ≤ most → HasTail n (sum_tail profile high added t u)
unfolding sum_tail
first_says profile n most high added t u h few =
    let there = tail_first n most added t h few in
    if_tail n (has_more_rules profile) (greater_tail (tail_after t added) (tail_after u high)) (option_or (tail_after t added) (tail_after u high))
    (greater_first n (tail_after t added) (tail_after u high) there) (or_first n (tail_after t added) (tail_after u high) there)

second_says : (profile : Profile) (n most high added : ℕ) (t u : Option ℕ) → has_more_rules profile ≡ true → HasTail (n + most) u → high ≤ most → HasTail n (sum_tail profile high added t u)
unfolding sum_tail
second_says profile n most high added t u more h few = rw more (greater_second n (tail_after t added) (tail_after u high) (tail_first n most high u h few))

sum_first : (profile : Profile) (r : Region) (n most : ℕ) (u v : Estimate) → HasTail (n + most) (tail_of u.tails r) → v.range.high ≤ most → HasTail n (tail_of (tails_of_sum profile u v) r)
sum_first profile Text n most u v h few = first_says profile n most u.range.high v.range.high u.tails.text v.tails.text h few
sum_first profile Link n most u v h few = first_says profile n most u.range.high v.range.high u.tails.link v.tails.link h few

sum_second : (profile : Profile) (r : Region) (n most : ℕ) (u v : Estimate) → has_more_rules profile ≡ true → HasTail (n + most) (tail_of v.tails r) → u.range.high ≤ most → HasTail n (tail_of (tails_of_sum profile u v) r)
sum_second profile Text n most u v more h few = second_says profile n most u.range.high v.range.high u.tails.text v.tails.text more h few
sum_second profile Link n most u v more h few = second_says profile n most u.range.high v.range.high u.tails.link v.tails.link more h few

pub tail_raised : (n t : ℕ) (by : ℕ) (o : Option ℕ) → HasTail t o → n ≤ by → t + n < 2 ^ 32 → HasTail (t + n) (raised_tail by o)
tail_raised n t by None h few fits = absurd h
tail_raised n t by (Some u) h few fits = omega (arith, h, few, fits)

pub tails_raised : (r : Region) (n t by : ℕ) (tails : Tails) → HasTail t (tail_of tails r) → n ≤ by → t + n < 2 ^ 32 → HasTail (t + n) (tail_of (each_tail (raised_tail by) tails) r)
tails_raised Text n t by tails h few fits = tail_raised n t by tails.text h few fits
tails_raised Link n t by tails h few fits = tail_raised n t by tails.link h few fits

-- ---- sums that fit, and differences
word_top : (width : Width) (n : ℕ) → n < 2 ^ bits_of width → n ≤ 2 ^ 64 - 1
word_top width n few = let word = fits_word width n few in omega (arith, word)

pub words_top : (width : Width) → 2 ^ bits_of width - 1 ≤ 2 ^ 64 - 1
words_top Full = omega arith
words_top Narrow = omega arith

pub adds_say : (profile : Profile) (width : Width) (p : Property) (u v : Estimate) → Adds profile width (λ q. HasProperty q u) (λ q. HasProperty q v) p → SaysIn Number p (sum profile width u v)
adds_say profile width p u v adds_word =
    says_kept Number p (from_to 0 (2 ^ bits_of width - 1)) (tails_of_sum profile u v) (sum profile width u v) (words_top width) (sum_any profile width u v) (omega arith)
adds_say profile width p u v (adds_least m n high more one other top bound few) =
    let fits : u.range.high + v.range.high < 2 ^ bits_of width = omega (arith, top, bound, few) in
    says_kept Number (AtLeast (m + n)) (from_to (u.range.low + v.range.low) (u.range.high + v.range.high)) (tails_of_sum profile u v) (sum profile width u v)
    (word_top width (u.range.high + v.range.high) fits) (sum_keeps profile width u v fits) (omega (arith, one, other))
adds_say profile width p u v (adds_most m n one other few) =
    let fits : u.range.high + v.range.high < 2 ^ bits_of width = omega (arith, one, other, few) in
    says_kept Number (AtMost (m + n)) (from_to (u.range.low + v.range.low) (u.range.high + v.range.high)) (tails_of_sum profile u v) (sum profile width u v)
    (word_top width (u.range.high + v.range.high) fits) (sum_keeps profile width u v fits) (omega (arith, one, other))
adds_say profile width p u v (adds_behind r n most tail few) =
    says_kept Number (Behind r n) (from_to 0 (2 ^ bits_of width - 1)) (tails_of_sum profile u v) (sum profile width u v) (words_top width) (sum_any profile width u v)
    (sum_first profile r n most u v tail few)
adds_say profile width p u v (adds_second r n most more tail few) =
    says_kept Number (Behind r n) (from_to 0 (2 ^ bits_of width - 1)) (tails_of_sum profile u v) (sum profile width u v) (words_top width) (sum_any profile width u v)
    (sum_second profile r n most u v more tail few)

difference_says : (width : Width) (p : Property) (u v : Estimate) → v.range.high ≤ u.range.low → u.range.high < 2 ^ bits_of width → HasProperty p (seen (from_to (u.range.low - v.range.high) (u.range.high - v.range.low)) (each_tail (raised_tail v.range.low) u.tails)) → SaysIn Number p (difference width u v)
difference_says width p u v less few has =
    let word = word_top width u.range.high few in
    says_kept Number p (from_to (u.range.low - v.range.high) (u.range.high - v.range.low)) (each_tail (raised_tail v.range.low) u.tails) (difference width u v)
    (omega (arith, word)) (difference_keeps width u v less few) has

pub takes_say : (width : Width) (p : Property) (u v : Estimate) → u.range.high < 2 ^ bits_of width → Takes (λ q. HasProperty q u) (λ q. HasProperty q v) p → SaysIn Number p (difference width u v)
takes_say width p u v few (takes_least m more one other less) =
    difference_says width (AtLeast (m - more)) u v (omega (arith, one, other, less)) few (omega (arith, one, other, less))
takes_say width p u v few (takes_most m more high n one other less top least) =
    difference_says width (AtMost (high - n)) u v (omega (arith, one, other, less)) few (omega (arith, top, least))
takes_say width p u v few (takes_behind m more n r t one other less tail least fits) =
    difference_says width (Behind r (t + n)) u v (omega (arith, one, other, less)) few (tails_raised r n t v.range.low u.tails tail least fits)

takes_exactly : (p : Property) (n : ℕ) (u : Estimate) → Takes (λ q. HasProperty q u) (Exactly n) p → Takes (λ q. HasProperty q u) (λ q. HasProperty q (constant n)) p
takes_exactly p n u (takes_least m more one other less) = takes_least m more one other less
takes_exactly p n u (takes_most m more high k one other less top least) = takes_most m more high k one other less top least
takes_exactly p n u (takes_behind m more k r t one other less tail least fits) = takes_behind m more k r t one other less tail least fits

-- ---- what both forms of one number say, the first says
pub tails_first : (r : Region) (n : ℕ) (t u : Tails) → HasTail n (tail_of t r) → HasTail n (tail_of (both_tails greater_tail t u) r)
tails_first Text n t u h = greater_first n t.text u.text h
tails_first Link n t u h = greater_first n t.link u.link h

pub tails_second : (r : Region) (n : ℕ) (t u : Tails) → HasTail n (tail_of u r) → HasTail n (tail_of (both_tails greater_tail t u) r)
tails_second Text n t u h = greater_second n t.text u.text h
tails_second Link n t u h = greater_second n t.link u.link h

abbrev meet : Estimate → Estimate → Interval
meet x y = from_to (max x.range.low y.range.low) (min x.range.high y.range.high)

first_property : (p : Property) (x y : Estimate) → HasProperty p x → HasProperty p (seen (meet x y) (both_tails greater_tail x.tails y.tails))
first_property Any x y h = tt
first_property (AtLeast n) x y h = omega (arith, h)
first_property (AtMost n) x y h = omega (arith, h)
first_property (Behind r n) x y h = tails_first r n x.tails y.tails h

second_property : (p : Property) (x y : Estimate) → HasProperty p y → HasProperty p (seen (meet x y) (both_tails greater_tail x.tails y.tails))
second_property Any x y h = tt
second_property (AtLeast n) x y h = omega (arith, h)
second_property (AtMost n) x y h = omega (arith, h)
second_property (Behind r n) x y h = tails_second r n x.tails y.tails h

pub same_first : (k : Kind) (p : Property) (x y : Estimate) → Says k p x → SaysIn k p (same x y)
same_first k p x y h =
    says_kept k p (meet x y) (both_tails greater_tail x.tails y.tails) (same x y) (omega (arith, h.word)) (same_keeps x y) (first_property p x y h.has)

pub same_second : (k : Kind) (p : Property) (x y : Estimate) → Says k p y → SaysIn k p (same x y)
same_second k p x y h =
    says_kept k p (meet x y) (both_tails greater_tail x.tails y.tails) (same x y) (omega (arith, h.word)) (same_keeps x y) (second_property p x y h.has)

pub in_both_says : (k : Kind) (p : Property) (first second : Option Estimate) → SaysIn k p first → SaysIn k p (in_both first second)
in_both_says k p None second h = tt
in_both_says k p (Some a) None h = tt
in_both_says k p (Some a) (Some b) h = same_first k p a b h

pub says_by : (k : Kind) (p : Property) (b : Bool) (first second : Option Estimate) → SaysIn k p first → SaysIn k p (if b then in_both first second else first)
says_by k p true first second h = in_both_says k p first second h
says_by k p false first second h = h

-- ---- what a constant lacks
abbrev lacking : Width → ℕ → Option ℕ
lacking width n = if nat_le (2 ^ bits_of width) (2 * n) && nat_lt n (2 ^ bits_of width) then Some (2 ^ bits_of width - n) else None

lacks_none : (width : Width) (n : ℕ) → n < 2 ^ (bits_of width - 1) → lacking width n ≡ None
lacks_none Narrow n few = let no : nat_le (2 ^ 32) (2 * n) ≡ false = grind (arith, nat_tests, few) in rw no refl
lacks_none Full n few = let no : nat_le (2 ^ 64) (2 * n) ≡ false = grind (arith, nat_tests, few) in rw no refl

lacks_some : (width : Width) (n : ℕ) → 2 ^ (bits_of width - 1) ≤ n → n < 2 ^ bits_of width → lacking width n ≡ Some (2 ^ bits_of width - n)
lacks_some Narrow n many few =
    let yes : nat_le (2 ^ 32) (2 * n) ≡ true = grind (arith, nat_tests, many) in
    let also : nat_lt n (2 ^ 32) ≡ true = grind (arith, nat_tests, few) in
    rw yes (rw also refl)
lacks_some Full n many few =
    let yes : nat_le (2 ^ 64) (2 * n) ≡ true = grind (arith, nat_tests, many) in
    let also : nat_lt n (2 ^ 64) ≡ true = grind (arith, nat_tests, few) in
    rw yes (rw also refl)

only_none : (f : ℕ → Option ℕ) (b : Bool) (n : ℕ) → f n ≡ None → option_and_then f (if b then Some n else None) ≡ None
only_none f true n h = h
only_none f false n h = refl

pub no_complement : (width : Width) (b : Estimate) → b.range.low < 2 ^ (bits_of width - 1) → complement width b ≡ None
unfolding complement only
no_complement width b few = only_none (lacking width) (nat_eq b.range.low b.range.high) b.range.low (lacks_none width b.range.low few)

one_complement : (width : Width) (b : Estimate) → b.range.low ≡ b.range.high → 2 ^ (bits_of width - 1) ≤ b.range.low → b.range.low < 2 ^ bits_of width → complement width b ≡ Some (2 ^ bits_of width - b.range.low)
unfolding complement only
one_complement width b one many few =
    let yes : nat_eq b.range.low b.range.high ≡ true = grind (arith, nat_tests, one) in
    rw yes (lacks_some width b.range.low many few)

-- ---- the sum, by whether its second operand is a great constant
abbrev added_by : Profile → Width → Estimate → Estimate → Option ℕ → Option Estimate
added_by profile width u v o = option_map_or (λ n. by_both profile (difference width u (constant n)) (sum profile width u v)) o (sum profile width u v)

pub added_says : (profile : Profile) (width : Width) (p : Property) (u v : Estimate) → v.range.low ≤ v.range.high → u.range.high < 2 ^ bits_of width → Sums profile width (λ q. HasProperty q u) (λ q. HasProperty q v) p → SaysIn Number p (added profile width u v)
unfolding added
added_says profile width p u v proper few (adds most top half sums) =
    let no : complement width v ≡ None = no_complement width v (omega (arith, proper, top, half)) in
    subst (λ (o : Option ℕ). SaysIn Number p (added_by profile width u v o)) (sym no) (adds_say profile width p u v sums)
added_says profile width p u v proper few (takes n least most half fits sums) =
    let is : v.range.low ≡ n = omega (arith, least, most, proper) in
    let one : v.range.low ≡ v.range.high = omega (arith, least, most, proper) in
    let lacks : complement width v ≡ Some (2 ^ bits_of width - v.range.low) = one_complement width v one (omega (arith, half, is)) (omega (arith, fits, is)) in
    let there : Takes (λ q. HasProperty q u) (Exactly (2 ^ bits_of width - v.range.low)) p = subst (λ (m : ℕ). Takes (λ q. HasProperty q u) (Exactly (2 ^ bits_of width - m)) p) (sym is) sums in
    let less = constant (2 ^ bits_of width - v.range.low) in
    subst (λ (o : Option ℕ). SaysIn Number p (added_by profile width u v o)) (sym lacks)
    (says_by Number p (has_more_rules profile) (difference width u less) (sum profile width u v)
    (takes_say width p u less few (takes_exactly p (2 ^ bits_of width - v.range.low) u there)))
