-- The normal form, sums, differences, tests and joins stay in their intervals and have their tails, whatever is known
-- of bits.
use Rattle.std.proofs.Common.{◌≡◌, ℕ, ◌+◌, ◌-◌, ◌^◌, ◌<◌, ◌≤◌, nat_le, nat_lt, nat_eq, if◌then◌else◌, Bool, true, false, Option, Some, None, refl, min, max, arith}
use Rattle.std.specs.Prelude.{option_map, option_and_then}
use Rattle.std.specs.Option.{option_map_or}
use Rattle.std.proofs.lemmas.Bool.Decides.{nat_tests}
use Rattle.span_context.specs.declared.profile.Profile.{Profile}
use Rattle.bpf_words.specs.declared.instruction.Width.{Width}
use Rattle.bpf_words.specs.declared.instruction.Width.TheVariants.{Narrow, Full}
use Rattle.semantics.specs.Value.{bits_of}
use Rattle.known_bits.specs.KnownBits.{KnownBits, most_bits, common_bits, merged_bits, low_bits, agreed_bits}
use Rattle.intervals.specs.Interval.{Interval, from_to, some_between, in_word, every_word, sum_between, difference_between, low_between, hull_of}
use Rattle.abstract_state.specs.declared.region.Region.TheVariants.{Text, Link}
use Rattle.abstract_state.specs.declared.region.Tails.{Tails}
use Rattle.abstract_state.specs.Lent.{limit_of}
use Rattle.abstract_state.specs.Estimate.{Estimate, under_tail, under_tails, narrowed, settled, normal, normal_cut, operand_cut, joined, both_tails, each_tail, raised_tail, greater_tail, lesser_tail, only}
use Rattle.abstract_state.specs.Comparing.{within, without_end, below, above, apart, same}
use Rattle.abstract_state.specs.Transfer.{sum, sum_bits, sum_tail, difference, difference_bits, difference_tails}
use Rattle.guarded_rules.specs.Keeps.{Inside, Keeps}

-- ---- intervals that lie in another
inside_if : (a : Interval) (low high : ℕ) (b : Bool) → nat_le low high ≡ b → a.low ≤ low → high ≤ a.high → Inside a (if b then Some (from_to low high) else None)
inside_if a low high true is l h = (l, grind (arith, nat_tests), h)
inside_if a low high false is l h = tt

between_inside : (a : Interval) (low high : ℕ) → a.low ≤ low → high ≤ a.high → Inside a (some_between low high)
between_inside a low high l h = inside_if a low high (nat_le low high) refl l h

inside_guard : (a : Interval) (b : Bool) (o : Option Interval) → Inside a o → Inside a (if b then o else None)
inside_guard a true o h = h
inside_guard a false o h = tt

tail_inside : (a r : Interval) (limit : ℕ) (t : Option ℕ) → Inside a (Some r) → Inside a (under_tail limit t r)
unfolding under_tail
tail_inside a r limit None h = h
tail_inside a r limit (Some t) (low, proper, high) = inside_guard a (nat_le t limit) (some_between r.low (min r.high (limit - t))) (between_inside a r.low (min r.high (limit - t)) low (omega (arith, high)))

then_inside : (a : Interval) (o : Option Interval) (f : Interval → Option Interval) → Inside a o → ((r : Interval) → Inside a (Some r) → Inside a (f r)) → Inside a (option_and_then f o)
then_inside a None f h next = tt
then_inside a (Some r) f h next = next r h

tails_inside : (a r : Interval) (tails : Tails) → Inside a (Some r) → Inside a (under_tails tails r)
unfolding under_tails
tails_inside a r tails h =
    then_inside a (under_tail (limit_of Text) tails.text r) (under_tail (limit_of Link) tails.link)
    (tail_inside a r (limit_of Text) tails.text h) (λ q inside. tail_inside a q (limit_of Link) tails.link inside)

narrowed_inside : (a r : Interval) (bits : KnownBits) (tails : Tails) → a.low ≤ max r.low bits.ones → min r.high (most_bits bits) ≤ a.high → Inside a (narrowed bits r tails)
unfolding narrowed
narrowed_inside a r bits tails low high =
    then_inside a (some_between (max r.low bits.ones) (min r.high (most_bits bits))) (under_tails tails)
    (between_inside a (max r.low bits.ones) (min r.high (most_bits bits)) low high)
    (λ q inside. tails_inside a q tails inside)

-- ---- the normal form
settled_keeps : (a : Interval) (tails : Tails) (bits : KnownBits) (o : Option Interval) → Inside a o → Keeps a tails (option_map (λ last. record { bits = bits; range = last; tails = tails }) o)
settled_keeps a tails bits None h = tt
settled_keeps a tails bits (Some r) h = record { low = h.0; proper = h.1; high = h.2; tails = refl }

merged_keeps : (a r : Interval) (tails : Tails) (o : Option KnownBits) → Inside a (Some r) → Keeps a tails (option_and_then (settled tails r) o)
merged_keeps a r tails None h = tt
merged_keeps a r tails (Some bits) (low, proper, high) = settled_keeps a tails bits (narrowed bits r tails) (narrowed_inside a r bits tails (omega (arith, low)) (omega (arith, high)))

first_keeps : (a : Interval) (bits : KnownBits) (tails : Tails) (o : Option Interval) → Inside a o → Keeps a tails (option_and_then (λ first. option_and_then (settled tails first) (merged_bits bits (common_bits first.low first.high))) o)
first_keeps a bits tails None h = tt
first_keeps a bits tails (Some r) h = merged_keeps a r tails (merged_bits bits (common_bits r.low r.high)) h

-- by the interval, or by the bits
pub normal_within : (bits : KnownBits) (a r : Interval) (tails : Tails) → a.low ≤ max r.low bits.ones → min r.high (most_bits bits) ≤ a.high → Keeps a tails (normal bits r tails)
unfolding normal
normal_within bits a r tails low high = first_keeps a bits tails (narrowed bits r tails) (narrowed_inside a r bits tails low high)

pub normal_keeps : (bits : KnownBits) (a r : Interval) (tails : Tails) → a.low ≤ r.low → r.high ≤ a.high → Keeps a tails (normal bits r tails)
normal_keeps bits a r tails low high = normal_within bits a r tails (omega (arith, low)) (omega (arith, high))

pub own_normal : (bits : KnownBits) (r : Interval) (tails : Tails) → Keeps r tails (normal bits r tails)
own_normal bits r tails = normal_keeps bits r r tails (omega arith) (omega arith)

keeps_if : (bits : KnownBits) (tails : Tails) (b : Bool) (r : Interval) → Keeps r tails (option_and_then (λ q. normal bits q tails) (if b then Some r else None))
keeps_if bits tails true r = own_normal bits r tails
keeps_if bits tails false r = tt

pub then_keeps : (bits : KnownBits) (tails : Tails) (low high : ℕ) → Keeps (from_to low high) tails (option_and_then (λ q. normal bits q tails) (some_between low high))
then_keeps bits tails low high = keeps_if bits tails (nat_le low high) (from_to low high)

pub bind_keeps : {A : Type 0} (a : Interval) (tails : Tails) (o : Option A) (f : A → Option Estimate) → ((x : A) → Keeps a tails (f x)) → Keeps a tails (option_and_then f o)
bind_keeps a tails None f h = tt
bind_keeps a tails (Some x) f h = h x

guard_keeps : (a : Interval) (tails : Tails) (b : Bool) (o : Option Estimate) → Keeps a tails o → Keeps a tails (if b then None else o)
guard_keeps a tails true o h = tt
guard_keeps a tails false o h = h

-- ---- the normal form of a width
low_is : (r : Interval) → r.high < 2 ^ 32 → low_between r ≡ r
unfolding low_between
low_is r few = let yes : nat_lt r.high (2 ^ 32) ≡ true = grind (arith, nat_tests) in rw yes refl

low_few : (r : Interval) (b : Bool) → nat_lt r.high (2 ^ 32) ≡ b → (if b then r else from_to 0 (2 ^ 32 - 1)).high ≤ 2 ^ 32 - 1
low_few r true is = grind (arith, nat_tests)
low_few r false is = omega arith

low_below : (r : Interval) → (low_between r).high ≤ 2 ^ 32 - 1
unfolding low_between
low_below r = low_few r (nat_lt r.high (2 ^ 32)) refl

pub cut_keeps : (width : Width) (bits : KnownBits) (r : Interval) (tails : Tails) → r.high < 2 ^ bits_of width → Keeps r tails (normal_cut width bits r tails)
unfolding normal_cut
cut_keeps Full bits r tails few = own_normal bits r tails
cut_keeps Narrow bits r tails few = rw (low_is r few) (own_normal (low_bits bits) r tails)

pub cut_any : (width : Width) (bits : KnownBits) (r : Interval) (tails : Tails) → r.high < 2 ^ 64 → Keeps (from_to 0 (2 ^ bits_of width - 1)) tails (normal_cut width bits r tails)
unfolding normal_cut
cut_any Full bits r tails few = normal_keeps bits (from_to 0 (2 ^ 64 - 1)) r tails (omega arith) (omega (arith, few))
cut_any Narrow bits r tails few = normal_keeps (low_bits bits) (from_to 0 (2 ^ 32 - 1)) (low_between r) tails (omega arith) (low_below r)

pub operand_keeps : (width : Width) (a : Estimate) → a.range.low ≤ a.range.high → a.range.high < 2 ^ bits_of width → Keeps a.range a.tails (operand_cut width a)
unfolding operand_cut
operand_keeps Full a proper few = record { low = omega arith; proper = proper; high = omega arith; tails = refl }
operand_keeps Narrow a proper few = cut_keeps Narrow a.bits a.range a.tails few

pub operand_any : (width : Width) (a : Estimate) → a.range.low ≤ a.range.high → a.range.high < 2 ^ 64 → Keeps (from_to 0 (2 ^ bits_of width - 1)) a.tails (operand_cut width a)
unfolding operand_cut
operand_any Full a proper few = record { low = omega arith; proper = proper; high = omega (arith, few); tails = refl }
operand_any Narrow a proper few = cut_any Narrow a.bits a.range a.tails few

-- ---- what a test teaches
pub below_keeps : (n : ℕ) (x y : Estimate) → Keeps (from_to x.range.low (min x.range.high (y.range.high - n))) (both_tails greater_tail x.tails (each_tail (raised_tail n) y.tails)) (below n x y)
unfolding below
below_keeps n x y =
    let a = from_to x.range.low (min x.range.high (y.range.high - n)) in
    let tails = both_tails greater_tail x.tails (each_tail (raised_tail n) y.tails) in
    guard_keeps a tails (nat_lt y.range.high n) (option_and_then (λ r. normal x.bits r tails) (some_between x.range.low (min x.range.high (y.range.high - n))))
    (then_keeps x.bits tails x.range.low (min x.range.high (y.range.high - n)))

pub above_keeps : (n : ℕ) (y x : Estimate) → Keeps (from_to (max y.range.low (x.range.low + n)) y.range.high) y.tails (above n y x)
unfolding above
above_keeps n y x = then_keeps y.bits y.tails (max y.range.low (x.range.low + n)) y.range.high

pub same_keeps : (x y : Estimate) → Keeps (from_to (max x.range.low y.range.low) (min x.range.high y.range.high)) (both_tails greater_tail x.tails y.tails) (same x y)
unfolding same
same_keeps x y =
    let a = from_to (max x.range.low y.range.low) (min x.range.high y.range.high) in
    let tails = both_tails greater_tail x.tails y.tails in
    bind_keeps a tails (merged_bits x.bits y.bits) (λ bits. option_and_then (λ r. normal bits r tails) (some_between (max x.range.low y.range.low) (min x.range.high y.range.high)))
    (λ bits. then_keeps bits tails (max x.range.low y.range.low) (min x.range.high y.range.high))

-- ---- an end that is the other's one number moves inward
wider : (a b : Interval) (tails : Tails) (o : Option Estimate) → a.low ≤ b.low → b.high ≤ a.high → Keeps b tails o → Keeps a tails o
wider a b tails None low high h = tt
wider a b tails (Some e) low high h = record { low = omega (arith, low, h.low); proper = h.proper; high = omega (arith, high, h.high); tails = h.tails }

pub wider_keeps : (a b : Interval) (tails : Tails) (o : Option Estimate) → a.low ≤ b.low → b.high ≤ a.high → Keeps b tails o → Keeps a tails o
wider_keeps a b tails o low high h = wider a b tails o low high h

low_moved : (low n : ℕ) (b : Bool) → low ≤ (if b then low + 1 else low)
low_moved low n true = omega arith
low_moved low n false = omega arith

high_moved : (high n : ℕ) (b : Bool) → (if b then high - 1 else high) ≤ high
high_moved high n true = omega arith
high_moved high n false = omega arith

end_keeps : (x : Estimate) (n : ℕ) → Keeps x.range x.tails (within x (without_end x.range n))
end_keeps x n =
    let low = if nat_eq x.range.low n then x.range.low + 1 else x.range.low in
    let high = if nat_eq x.range.high n then x.range.high - 1 else x.range.high in
    wider x.range (from_to low high) x.tails (within x (without_end x.range n)) (low_moved x.range.low n (nat_eq x.range.low n)) (high_moved x.range.high n (nat_eq x.range.high n)) (then_keeps x.bits x.tails low high)

apart_on : (x : Estimate) (o : Option ℕ) → Keeps x.range x.tails (within x (option_map_or (without_end x.range) o (Some x.range)))
apart_on x None = own_normal x.bits x.range x.tails
apart_on x (Some n) = end_keeps x n

pub apart_keeps : (x y : Estimate) → Keeps x.range x.tails (apart x y)
unfolding apart
apart_keeps x y = apart_on x (only y)

-- ---- sums and differences that fit their width
sum_is : (a b : Interval) → a.high + b.high < 2 ^ 64 → sum_between a b ≡ from_to (a.low + b.low) (a.high + b.high)
unfolding sum_between
sum_is a b few = let yes : nat_lt (a.high + b.high) (2 ^ 64) ≡ true = grind (arith, nat_tests) in rw yes refl

word_few : (a : Interval) (b : Bool) → nat_lt a.high (2 ^ 64) ≡ b → (if b then a else every_word).high < 2 ^ 64
word_few a true is = grind (arith, nat_tests)
word_few a false is = omega arith

pub word_below : (a : Interval) → (in_word a).high < 2 ^ 64
word_below a = word_few a (nat_lt a.high (2 ^ 64)) refl

sum_below : (a b : Interval) → (sum_between a b).high < 2 ^ 64
unfolding sum_between
sum_below a b = word_below (from_to (a.low + b.low) (a.high + b.high))

pub fits_word : (width : Width) (n : ℕ) → n < 2 ^ bits_of width → n < 2 ^ 64
fits_word Full n few = few
fits_word Narrow n few = omega (arith, few)

abbrev pub tails_of_sum : Profile → Estimate → Estimate → Tails
tails_of_sum profile x y = both_tails (sum_tail profile x.range.high y.range.high) x.tails y.tails

pub sum_keeps : (profile : Profile) (width : Width) (x y : Estimate) → x.range.high + y.range.high < 2 ^ bits_of width → Keeps (from_to (x.range.low + y.range.low) (x.range.high + y.range.high)) (tails_of_sum profile x y) (sum profile width x y)
unfolding sum
sum_keeps profile width x y few =
    rw (sum_is x.range y.range (fits_word width (x.range.high + y.range.high) few))
    (cut_keeps width (sum_bits x y) (from_to (x.range.low + y.range.low) (x.range.high + y.range.high)) (tails_of_sum profile x y) few)

pub sum_any : (profile : Profile) (width : Width) (x y : Estimate) → Keeps (from_to 0 (2 ^ bits_of width - 1)) (tails_of_sum profile x y) (sum profile width x y)
unfolding sum
sum_any profile width x y = cut_any width (sum_bits x y) (sum_between x.range y.range) (tails_of_sum profile x y) (sum_below x.range y.range)

pub difference_keeps : (width : Width) (x y : Estimate) → y.range.high ≤ x.range.low → x.range.high < 2 ^ bits_of width → Keeps (from_to (x.range.low - y.range.high) (x.range.high - y.range.low)) (each_tail (raised_tail y.range.low) x.tails) (difference width x y)
unfolding difference difference_between difference_tails
difference_keeps width x y less few =
    let yes : nat_le y.range.high x.range.low ≡ true = grind (arith, nat_tests) in
    rw yes (cut_keeps width (difference_bits x y) (from_to (x.range.low - y.range.high) (x.range.high - y.range.low)) (each_tail (raised_tail y.range.low) x.tails) (omega (arith, few)))

-- ---- joins
pub join_keeps : (x y : Estimate) → Keeps (hull_of x.range y.range) (both_tails lesser_tail x.tails y.tails) (joined x y)
unfolding joined
join_keeps x y = own_normal (agreed_bits x.bits y.bits) (hull_of x.range y.range) (both_tails lesser_tail x.tails y.tails)
