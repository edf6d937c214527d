-- What is told of a number is no wider than it was.
use Rattle.std.proofs.Common.{ℕ, ◌-◌, ◌^◌, Bool, true, false, cond, nat_le, nat_lt, ◌&&◌, min, max, Option, Some, None, option_map, arith}
use Rattle.std.specs.Option.{IfSome, option_and_then}
use Rattle.intervals.specs.Interval.{Interval, from_to, some_between}
use Rattle.known_bits.specs.KnownBits.{KnownBits, most_bits, merged_bits, common_bits}
use Rattle.bpf_words.specs.declared.instruction.Width.{Width}
use Rattle.bpf_words.specs.declared.instruction.Width.TheVariants.{Full}
use Rattle.bpf_words.specs.declared.instruction.Comparison.TheVariants.{Equal}
use Rattle.semantics.specs.Value.{bits_of}
use Rattle.span_context.specs.declared.profile.Profile.TheVariants.{Three}
use Rattle.abstract_state.specs.declared.region.Region.TheVariants.{Text, Link}
use Rattle.abstract_state.specs.declared.region.Tails.{Tails}
use Rattle.abstract_state.specs.Lent.{limit_of}
use Rattle.abstract_state.specs.Estimate.{Estimate, constant, under_tail, under_tails, narrowed, settled, normal, both_tails, greater_tail}
use Rattle.abstract_state.specs.Comparing.{Told, told, same, refined, relation_of, reach, told_on}
use Rattle.abstract_state.specs.Transfer.{added}
use Rattle.value_marks.specs.Telling as telling
use Rattle.value_marks.specs.Telling.{left_of}
use Rattle.tracked_state.specs.Learning.{IsPart}

-- ---- what may be there
pub if_then : {A B : Type 0} (f : A → Option B) (o : Option A) (P : A → Type 0) (Q : B → Type 0) → IfSome o P → ((a : A) → P a → IfSome (f a) Q) → IfSome (option_and_then f o) Q
if_then f None P Q h on = tt
if_then f (Some a) P Q h on = on a h

pub if_map : {A B : Type 0} (f : A → B) (o : Option A) (P : A → Type 0) (Q : B → Type 0) → IfSome o P → ((a : A) → P a → Q (f a)) → IfSome (option_map f o) Q
if_map f None P Q h on = tt
if_map f (Some a) P Q h on = on a h

pub if_any : {A : Type 0} (o : Option A) → IfSome o (λ a. Unit {0})
if_any None = tt
if_any (Some a) = tt

pub if_cond : {A : Type 0} (b : Bool) (o : Option A) (P : A → Type 0) → IfSome o P → IfSome (cond b o None) P
if_cond true o P h = h
if_cond false o P h = tt

pub if_else : {A : Type 0} (b : Bool) (o p : Option A) (P : A → Type 0) → IfSome o P → IfSome p P → IfSome (cond b o p) P
if_else true o p P h k = h
if_else false o p P h k = k

-- ---- intervals
pub part_self : (a : Interval) → IsPart a a
part_self a = (omega arith, omega arith)

pub part_trans : (a b c : Interval) → IsPart b a → IsPart c b → IsPart c a
part_trans a b c (low, high) (more, less) = (omega (arith, low, more), omega (arith, high, less))

if_between : (low high : ℕ) (P : Interval → Type 0) → P (from_to low high) → IfSome (some_between low high) P
if_between low high P h = if_cond (nat_le low high) (Some (from_to low high)) P h

under_tail_part : (limit : ℕ) (t : Option ℕ) (range : Interval) → IfSome (under_tail limit t range) (λ r. IsPart r range)
unfolding under_tail
under_tail_part limit None range = part_self range
under_tail_part limit (Some t) range =
    if_cond (nat_le t limit) (some_between range.low (min range.high (limit - t))) (λ r. IsPart r range)
    (if_between range.low (min range.high (limit - t)) (λ r. IsPart r range) (omega arith, omega arith))

if_narrower : (o : Option Interval) (range r : Interval) → IsPart r range → IfSome o (λ s. IsPart s r) → IfSome o (λ s. IsPart s range)
if_narrower None range r part h = tt
if_narrower (Some s) range r part h = part_trans range r s part h

under_tails_part : (tails : Tails) (range : Interval) → IfSome (under_tails tails range) (λ r. IsPart r range)
unfolding under_tails
under_tails_part tails range =
    if_then (under_tail (limit_of Link) tails.link) (under_tail (limit_of Text) tails.text range) (λ r. IsPart r range) (λ r. IsPart r range) (under_tail_part (limit_of Text) tails.text range)
    (λ r part. if_narrower (under_tail (limit_of Link) tails.link r) range r part (under_tail_part (limit_of Link) tails.link r))

narrowed_part : (bits : KnownBits) (range : Interval) (tails : Tails) → IfSome (narrowed bits range tails) (λ r. IsPart r range)
unfolding narrowed
narrowed_part bits range tails =
    if_then (under_tails tails) (some_between (max range.low bits.ones) (min range.high (most_bits bits))) (λ r. IsPart r range) (λ r. IsPart r range)
    (if_between (max range.low bits.ones) (min range.high (most_bits bits)) (λ r. IsPart r range) (omega arith, omega arith))
    (λ r part. if_narrower (under_tails tails r) range r part (under_tails_part tails r))

-- ---- estimates
abbrev pub PartOf : Interval → Estimate → Type 0
PartOf range a = IsPart a.range range

abbrev settled_as : Tails → KnownBits → Interval → Estimate
settled_as tails bits last = record { bits = bits; range = last; tails = tails }

settled_part : (tails : Tails) (range first : Interval) (bits : KnownBits) → IsPart first range → IfSome (settled tails first bits) (PartOf range)
settled_part tails range first bits part =
    if_map (settled_as tails bits) (narrowed bits first tails) (λ r. IsPart r first) (PartOf range) (narrowed_part bits first tails) (λ r more. part_trans range first r part more)

pub normal_part : (bits : KnownBits) (range : Interval) (tails : Tails) → IfSome (normal bits range tails) (PartOf range)
unfolding normal
normal_part bits range tails =
    if_then (λ first. option_and_then (settled tails first) (merged_bits bits (common_bits first.low first.high))) (narrowed bits range tails) (λ r. IsPart r range) (PartOf range) (narrowed_part bits range tails)
    (λ first part. if_then (settled tails first) (merged_bits bits (common_bits first.low first.high)) (λ b. Unit {0}) (PartOf range) (if_any (merged_bits bits (common_bits first.low first.high)))
    (λ more u. settled_part tails range first more part))

if_part : (o : Option Estimate) (range r : Interval) → IsPart r range → IfSome o (PartOf r) → IfSome o (PartOf range)
if_part None range r part h = tt
if_part (Some a) range r part h = part_trans range r a.range part h

same_part : (x y : Estimate) → IfSome (same x y) (PartOf x.range)
unfolding same
same_part x y =
    if_then (λ bits. option_and_then (λ r. normal bits r (both_tails greater_tail x.tails y.tails)) (some_between (max x.range.low y.range.low) (min x.range.high y.range.high))) (merged_bits x.bits y.bits) (λ b. Unit {0}) (PartOf x.range) (if_any (merged_bits x.bits y.bits))
    (λ bits u. if_then (λ r. normal bits r (both_tails greater_tail x.tails y.tails)) (some_between (max x.range.low y.range.low) (min x.range.high y.range.high)) (λ r. IsPart r x.range) (PartOf x.range)
    (if_between (max x.range.low y.range.low) (min x.range.high y.range.high) (λ r. IsPart r x.range) (omega arith, omega arith))
    (λ r part. if_part (normal bits r (both_tails greater_tail x.tails y.tails)) x.range r part (normal_part bits r (both_tails greater_tail x.tails y.tails))))

abbrev LeftPart : Interval → Told → Type 0
LeftPart range t = IsPart t.left.range range

equal_part : (x y : Estimate) → IfSome (told_on Full Equal true x y) (LeftPart x.range)
unfolding told_on relation_of refined
equal_part x y =
    if_else (nat_lt x.range.high (reach Full Equal) && nat_lt y.range.high (reach Full Equal)) (option_map (λ both. told both both) (same x y)) (Some (told x y)) (LeftPart x.range)
    (if_map (λ both. told both both) (same x y) (PartOf x.range) (LeftPart x.range) (same_part x y) (λ both part. part))
    (part_self x.range)

pub told_part : (width : Width) (ahead : ℕ) (x y : Estimate) → IfSome (telling.told width ahead x y) (PartOf y.range)
unfolding telling.told
told_part width ahead x y =
    if_else (nat_lt x.range.high (2 ^ bits_of width) && nat_lt y.range.high (2 ^ bits_of width)) (option_and_then (λ sum. option_map left_of (told_on Full Equal true y sum)) (added Three width x (constant ahead))) (Some y) (PartOf y.range)
    (if_then (λ sum. option_map left_of (told_on Full Equal true y sum)) (added Three width x (constant ahead)) (λ sum. Unit {0}) (PartOf y.range) (if_any (added Three width x (constant ahead)))
    (λ sum u. if_map left_of (told_on Full Equal true y sum) (LeftPart y.range) (PartOf y.range) (equal_part y sum) (λ t part. part)))
    (part_self y.range)
