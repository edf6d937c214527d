-- What sums, moves and loads give to the register that they write.
use Rattle.std.proofs.Common.{◌≡◌, ℕ, ◌+◌, ◌-◌, ◌%◌, ◌^◌, ◌<◌, ◌≤◌, nat_le, if◌then◌else◌, Bool, true, false, Option, Some, None, Ok, Err, refl, sym, ap, ◌∙◌, subst, arith, min, max}
use Rattle.std.specs.Prelude.{option_map, option_and_then}
use Rattle.std.specs.Option.{option_map_or}
use Rattle.std.proofs.lemmas.Bool.Decides.{nat_tests}
use Rattle.span_context.specs.declared.profile.Profile.{Profile}
use Rattle.span_context.specs.declared.profile.Profile.TheVariants.{One, Two, Three}
use Rattle.span_context.specs.declared.size.Size.{Size}
use Rattle.span_context.specs.declared.size.Size.TheVariants.{Byte, Half, Word, Double}
use Rattle.span_context.specs.declared.context_field.ContextField.{ContextField}
use Rattle.span_context.specs.declared.context_field.ContextField.TheVariants as field
use Rattle.span_context.specs.ContextField.{offset_of, size_of, bytes_of}
use Rattle.bpf_words.specs.declared.instruction.Arithmetic.{Arithmetic}
use Rattle.bpf_words.specs.declared.instruction.Arithmetic.TheVariants as is
use Rattle.bpf_words.specs.declared.instruction.Width.{Width}
use Rattle.bpf_words.specs.declared.instruction.Width.TheVariants.{Full}
use Rattle.semantics.specs.Value.{bits_of}
use Rattle.semantics.specs.Memory.{bytes_in}
use Rattle.known_bits.specs.KnownBits.{KnownBits, common_bits, merged_bits, most_bits}
use Rattle.intervals.specs.Interval.{Interval, from_to, some_between}
use Rattle.abstract_state.specs.declared.region.Region.{Region}
use Rattle.abstract_state.specs.declared.region.Region.TheVariants.{Text, Link}
use Rattle.abstract_state.specs.declared.region.Tails.{Tails}
use Rattle.abstract_state.specs.declared.refusal.Refusal.TheVariants.{TextOffset, ContextField as ContextRefused}
use Rattle.abstract_state.specs.Lent.{limit_of, tail_of}
use Rattle.abstract_state.specs.Estimate.{Estimate, under_tail, under_tails, narrowed, settled, normal, normal_cut, operand_cut, constant, up_to_end, tails_ending}
use Rattle.abstract_state.specs.Transfer.{added, applied, transferred}
use Rattle.abstract_state.specs.Addresses.{Content, ANumber, InContext, InStack, InRegion, near, from_region, onto_region, computed, moved}
use Rattle.abstract_state.specs.Loading as loading
use Rattle.abstract_state.specs.Loading.{any_of, plain_field, text_field, link_field, lent_field, field_at, part_at, context_at, place, context_field, a_number}
use Rattle.guarded_rules.specs.Facts.{Kind, Number, AddressIn, Property, Any, AtLeast, AtMost, Behind, Value, Of, ContextAt, StackAt}
use Rattle.guarded_rules.specs.Says.{of_kind, HasTail, HasProperty, Says, SaysIn, Has, OnAnswer}
use Rattle.guarded_rules.specs.Sums.{Exactly}
use Rattle.guarded_rules.specs.Values.{Adding, numbers, onto_address, onto_number, begin_of, end_of, length_of, IsLent, IsPlain, characters, flags, color, comments, index, count, version, Fields, begin_most, begin_behind, end_most, end_behind, length_most, length_behind, plain}
use Rattle.guarded_rules.proofs.Bounds.{own_normal}
use Rattle.guarded_rules.proofs.Kept.{seen, says_kept}
use Rattle.guarded_rules.proofs.Numbers.{transferred_word}

-- ---- answers
pub number_on : (p : Property) (o : Option Estimate) → SaysIn Number p o → OnAnswer (Of Number p) (Ok (option_map ANumber o))
number_on p None h = tt
number_on p (Some a) h = record { estimate = a; is = refl; says = h }

near_if : (r : Region) (p : Property) (a : Estimate) (b : Bool) → nat_le a.range.high (2 ^ 20) ≡ b → Says Number p a → OnAnswer (Of (AddressIn r) p) (if b then Ok (Some (InRegion r a)) else Err TextOffset)
near_if r p a true is h = record { estimate = a; is = refl; says = record { proper = h.proper; word = grind (arith, nat_tests, is); has = h.has } }
near_if r p a false is h = tt

pub near_on : (r : Region) (p : Property) (o : Option Estimate) → SaysIn Number p o → OnAnswer (Of (AddressIn r) p) (near r o)
unfolding near
near_on r p None h = tt
near_on r p (Some a) h = near_if r p a (nat_le a.range.high (2 ^ 20)) refl h

-- ---- sums
pub adds_on : (profile : Profile) (k l m : Kind) (p : Property) (x y : Estimate) → Adding k l m → SaysIn Number p (added profile Full x y) → OnAnswer (Of m p) (computed profile is.Add Full (of_kind k x) (of_kind l y))
unfolding computed from_region onto_region transferred operand_cut applied
adds_on profile k l m p x y numbers h = number_on p (added profile Full x y) h
adds_on profile k l m p x y (onto_address r) h = near_on r p (added profile Full x y) h
adds_on profile k l m p x y (onto_number r) h = near_on r p (added profile Full x y) h

pub numbers_on : (profile : Profile) (operation : Arithmetic) (width : Width) (x y : Estimate) → Says Number Any x → Says Number Any y → OnAnswer (Of Number (AtMost (2 ^ bits_of width - 1))) (computed profile operation width (ANumber x) (ANumber y))
unfolding computed
numbers_on profile operation width x y h j = number_on (AtMost (2 ^ bits_of width - 1)) (transferred profile operation width x y) (transferred_word profile operation width x y h j)

-- ---- moves
pub own_property : (p : Property) (x : Estimate) → HasProperty p x → HasProperty p (seen x.range x.tails)
own_property Any x h = tt
own_property (AtLeast m) x h = h
own_property (AtMost m) x h = h
own_property (Behind r m) x h = h

pub normal_says : (k : Kind) (p : Property) (x : Estimate) → Says k p x → x.range.high ≤ 2 ^ 64 - 1 → SaysIn Number p (normal x.bits x.range x.tails)
normal_says k p x h few = says_kept Number p x.range x.tails (normal x.bits x.range x.tails) few (own_normal x.bits x.range x.tails) (own_property p x h.has)

kind_moved : (k : Kind) (p : Property) (x : Estimate) → Says k p x → OnAnswer (Of k p) (moved Full (of_kind k x))
unfolding moved normal_cut
kind_moved Number p x h = number_on p (normal x.bits x.range x.tails) (normal_says Number p x h h.word)
kind_moved (AddressIn r) p x h = let word = h.word in near_on r p (normal x.bits x.range x.tails) (normal_says (AddressIn r) p x h (omega (arith, word)))

one_some : (x y : Content) → Some x ≡ Some y → x ≡ y
one_some x y e = cc

context_moved : (n : ℕ) → OnAnswer (ContextAt n) (moved Full (InContext n))
unfolding moved
context_moved n = refl

stack_moved : (n : ℕ) → OnAnswer (StackAt n) (moved Full (InStack n))
unfolding moved
stack_moved n = refl

pub moved_on : (v : Value) (c : Content) → Has v (Some c) → OnAnswer v (moved Full c)
moved_on (Of k p) c h =
    subst (λ (d : Content). OnAnswer (Of k p) (moved Full d)) (sym (one_some c (of_kind k h.estimate) h.is)) (kind_moved k p h.estimate h.says)
moved_on (ContextAt n) c h = subst (λ (d : Content). OnAnswer (ContextAt n) (moved Full d)) (sym (one_some c (InContext n) h)) (context_moved n)
moved_on (StackAt n) c h = subst (λ (d : Content). OnAnswer (StackAt n) (moved Full d)) (sym (one_some c (InStack n) h)) (stack_moved n)

-- ---- constants
exact_property : (p : Property) (n : ℕ) → Exactly n p → HasProperty p (constant n)
exact_property Any n h = tt
exact_property (AtLeast m) n h = h
exact_property (AtMost m) n h = h
exact_property (Behind r m) n h = absurd h

pub constant_says : (p : Property) (n : ℕ) → n < 2 ^ 64 → Exactly n p → Says Number p (constant n)
constant_says p n few h = record { proper = omega arith; word = omega (arith, few); has = exact_property p n h }

-- ---- the end of a region
abbrev Ends : ℕ → Option Interval → Type 0
Ends n None = Unit {0}
Ends n (Some r) = r.high ≤ n

ends_if : (n low high : ℕ) (b : Bool) → high ≤ n → Ends n (if b then Some (from_to low high) else None)
ends_if n low high true h = h
ends_if n low high false h = tt

ends_guard : (n : ℕ) (b : Bool) (o : Option Interval) → Ends n o → Ends n (if b then o else None)
ends_guard n true o h = h
ends_guard n false o h = tt

tail_ends : (limit t : ℕ) (r : Interval) → Ends limit (under_tail limit (Some t) r)
unfolding under_tail
tail_ends limit t r =
    ends_guard limit (nat_le t limit) (some_between r.low (min r.high (limit - t)))
    (ends_if limit r.low (min r.high (limit - t)) (nat_le r.low (min r.high (limit - t))) (omega arith))

none_ends : (n limit : ℕ) (o : Option Interval) → Ends n o → Ends n (option_and_then (under_tail limit None) o)
unfolding under_tail
none_ends n limit None h = tt
none_ends n limit (Some r) h = h

some_ends : (region : Region) (r : Interval) (o : Option Interval) → Ends (limit_of Link) (option_and_then (under_tail (limit_of Link) (Some 0)) o)
some_ends region r None = tt
some_ends region r (Some q) = tail_ends (limit_of Link) 0 q

tails_end : (region : Region) (r : Interval) → Ends (limit_of region) (under_tails (tails_ending region) r)
unfolding under_tails
tails_end Text r = none_ends (limit_of Text) (limit_of Link) (under_tail (limit_of Text) (Some 0) r) (tail_ends (limit_of Text) 0 r)
tails_end Link r = some_ends Link r (under_tail (limit_of Text) None r)

each_ends : (n : ℕ) (o : Option Interval) (f : Interval → Option Interval) → ((r : Interval) → Ends n (f r)) → Ends n (option_and_then f o)
each_ends n None f h = tt
each_ends n (Some r) f h = h r

narrowed_ends : (region : Region) (bits : KnownBits) (r : Interval) → Ends (limit_of region) (narrowed bits r (tails_ending region))
unfolding narrowed
narrowed_ends region bits r = each_ends (limit_of region) (some_between (max r.low bits.ones) (min r.high (most_bits bits))) (under_tails (tails_ending region)) (tails_end region)

abbrev EndsAt : ℕ → Option Estimate → Type 0
EndsAt n None = Unit {0}
EndsAt n (Some e) = e.range.high ≤ n

settled_ends : (n : ℕ) (tails : Tails) (bits : KnownBits) (o : Option Interval) → Ends n o → EndsAt n (option_map (λ last. record { bits = bits; range = last; tails = tails }) o)
settled_ends n tails bits None h = tt
settled_ends n tails bits (Some r) h = h

bits_end : (region : Region) (first : Interval) (o : Option KnownBits) → EndsAt (limit_of region) (option_and_then (settled (tails_ending region) first) o)
bits_end region first None = tt
bits_end region first (Some bits) = settled_ends (limit_of region) (tails_ending region) bits (narrowed bits first (tails_ending region)) (narrowed_ends region bits first)

first_ends : (region : Region) (bits : KnownBits) (o : Option Interval) → EndsAt (limit_of region) (option_and_then (λ first. option_and_then (settled (tails_ending region) first) (merged_bits bits (common_bits first.low first.high))) o)
first_ends region bits None = tt
first_ends region bits (Some first) = bits_end region first (merged_bits bits (common_bits first.low first.high))

normal_ends : (region : Region) (bits : KnownBits) (r : Interval) → EndsAt (limit_of region) (normal bits r (tails_ending region))
unfolding normal
normal_ends region bits r = first_ends region bits (narrowed bits r (tails_ending region))

most_says : (n m : ℕ) (o : Option Estimate) → SaysIn Number Any o → EndsAt n o → SaysIn Number (AtMost n) o
most_says n m None h j = tt
most_says n m (Some e) h j = record { proper = h.proper; word = h.word; has = j }

end_tail : (r : Region) → HasTail 0 (tail_of (tails_ending r) r)
end_tail Text = omega arith
end_tail Link = omega arith

pub end_most_says : (r : Region) (n : ℕ) → n ≤ 2 ^ 64 - 1 → SaysIn Number (AtMost (limit_of r)) (up_to_end r n)
end_most_says r n few =
    most_says (limit_of r) n (up_to_end r n)
    (says_kept Number Any (from_to 0 n) (tails_ending r) (up_to_end r n) few (own_normal (common_bits 0 n) (from_to 0 n) (tails_ending r)) tt)
    (normal_ends r (common_bits 0 n) (from_to 0 n))

end_behind_says : (r : Region) (n : ℕ) → n ≤ 2 ^ 64 - 1 → SaysIn Number (Behind r 0) (up_to_end r n)
end_behind_says r n few =
    says_kept Number (Behind r 0) (from_to 0 n) (tails_ending r) (up_to_end r n) few (own_normal (common_bits 0 n) (from_to 0 n) (tails_ending r)) (end_tail r)

-- ---- fields
abbrev Gives : Profile → ContextField → Kind → Property → Type 0
Gives profile f k p = OnAnswer (Of k p) (lent_field profile f)

pub any_says : (size : Size) → Says Number (AtMost (256 ^ bytes_in size - 1)) (any_of size)
any_says Byte = record { proper = omega arith; word = omega arith; has = omega arith }
any_says Half = record { proper = omega arith; word = omega arith; has = omega arith }
any_says Word = record { proper = omega arith; word = omega arith; has = omega arith }
any_says Double = record { proper = omega arith; word = omega arith; has = omega arith }

begin_says : (r : Region) (p : Property) → HasProperty p (record (constant 0) { tails = tails_ending r }) → Has (Of (AddressIn r) p) (Some (loading.begin_of r))
begin_says r p h = record { estimate = record (constant 0) { tails = tails_ending r }; is = refl; says = record { proper = omega arith; word = omega arith; has = h } }

begin_on : (profile : Profile) (r : Region) (p : Property) → IsLent profile r → HasProperty p (record (constant 0) { tails = tails_ending r }) → Gives profile (begin_of r) (AddressIn r) p
unfolding lent_field link_field text_field
begin_on One Text p lent h = begin_says Text p h
begin_on Two Text p lent h = begin_says Text p h
begin_on Three Text p lent h = begin_says Text p h
begin_on One Link p lent h = absurd (cc)
begin_on Two Link p lent h = begin_says Link p h
begin_on Three Link p lent h = begin_says Link p h

end_on : (profile : Profile) (r : Region) (p : Property) → IsLent profile r → SaysIn Number p (up_to_end r (2 ^ 64 - 1)) → Gives profile (end_of r) (AddressIn r) p
unfolding lent_field link_field text_field
end_on One Text p lent h = near_on Text p (up_to_end Text (2 ^ 64 - 1)) h
end_on Two Text p lent h = near_on Text p (up_to_end Text (2 ^ 64 - 1)) h
end_on Three Text p lent h = near_on Text p (up_to_end Text (2 ^ 64 - 1)) h
end_on One Link p lent h = absurd (cc)
end_on Two Link p lent h = near_on Link p (up_to_end Link (2 ^ 64 - 1)) h
end_on Three Link p lent h = near_on Link p (up_to_end Link (2 ^ 64 - 1)) h

length_on : (profile : Profile) (r : Region) (p : Property) → IsLent profile r → SaysIn Number p (up_to_end r (2 ^ 32 - 1)) → Gives profile (length_of r) Number p
unfolding lent_field link_field text_field
length_on One Text p lent h = number_on p (up_to_end Text (2 ^ 32 - 1)) h
length_on Two Text p lent h = number_on p (up_to_end Text (2 ^ 32 - 1)) h
length_on Three Text p lent h = number_on p (up_to_end Text (2 ^ 32 - 1)) h
length_on One Link p lent h = absurd (cc)
length_on Two Link p lent h = number_on p (up_to_end Link (2 ^ 32 - 1)) h
length_on Three Link p lent h = number_on p (up_to_end Link (2 ^ 32 - 1)) h

pub number_kind : (p : Property) (a : Estimate) → Says Number p a → Has (Of Number p) (Some (ANumber a))
number_kind p a h = record { estimate = a; is = refl; says = h }

plain_on : (profile : Profile) (f : ContextField) → IsPlain f → Gives profile f Number (AtMost (256 ^ bytes_of f - 1))
unfolding lent_field link_field text_field
plain_on One f characters = number_kind _ (any_of Word) (any_says Word)
plain_on One f flags = number_kind _ (any_of Word) (any_says Word)
plain_on One f color = number_kind _ (any_of Word) (any_says Word)
plain_on One f comments = number_kind _ (any_of Word) (any_says Word)
plain_on One f index = number_kind _ (any_of Word) (any_says Word)
plain_on One f count = number_kind _ (any_of Word) (any_says Word)
plain_on One f version = number_kind _ (any_of Double) (any_says Double)
plain_on Two f characters = number_kind _ (any_of Word) (any_says Word)
plain_on Two f flags = number_kind _ (any_of Word) (any_says Word)
plain_on Two f color = number_kind _ (any_of Word) (any_says Word)
plain_on Two f comments = number_kind _ (any_of Word) (any_says Word)
plain_on Two f index = number_kind _ (any_of Word) (any_says Word)
plain_on Two f count = number_kind _ (any_of Word) (any_says Word)
plain_on Two f version = number_kind _ (any_of Double) (any_says Double)
plain_on Three f characters = number_kind _ (any_of Word) (any_says Word)
plain_on Three f flags = number_kind _ (any_of Word) (any_says Word)
plain_on Three f color = number_kind _ (any_of Word) (any_says Word)
plain_on Three f comments = number_kind _ (any_of Word) (any_says Word)
plain_on Three f index = number_kind _ (any_of Word) (any_says Word)
plain_on Three f count = number_kind _ (any_of Word) (any_says Word)
plain_on Three f version = number_kind _ (any_of Double) (any_says Double)

pub fields_on : (profile : Profile) (f : ContextField) (k : Kind) (p : Property) → Fields profile f k p → OnAnswer (Of k p) (lent_field profile f)
fields_on profile f k p (begin_most r lent) = begin_on profile r (AtMost 0) lent (omega arith)
fields_on profile f k p (begin_behind r lent) = begin_on profile r (Behind r 0) lent (end_tail r)
fields_on profile f k p (end_most r lent) = end_on profile r (AtMost (limit_of r)) lent (end_most_says r (2 ^ 64 - 1) (omega arith))
fields_on profile f k p (end_behind r lent) = end_on profile r (Behind r 0) lent (end_behind_says r (2 ^ 64 - 1) (omega arith))
fields_on profile f k p (length_most r lent) = length_on profile r (AtMost (limit_of r)) lent (end_most_says r (2 ^ 32 - 1) (omega arith))
fields_on profile f k p (length_behind r lent) = length_on profile r (Behind r 0) lent (end_behind_says r (2 ^ 32 - 1) (omega arith))
fields_on profile f k p (plain f2 is) = plain_on profile f2 is

-- a field stands where it stands
pub field_there : (f : ContextField) → field_at (offset_of f) (size_of f) ≡ Some f
unfolding field_at
field_there field.Text = refl
field_there field.End = refl
field_there field.Length = refl
field_there field.Characters = refl
field_there field.Flags = refl
field_there field.Color = refl
field_there field.LinkLength = refl
field_there field.Comments = refl
field_there field.Index = refl
field_there field.Count = refl
field_there field.Version = refl
field_there field.Link = refl
field_there field.LinkEnd = refl

place_is : (start offset n : ℕ) → (start + offset) % 2 ^ 64 ≡ n → n ≤ start + 2 ^ 16 → place start offset ≡ Some n
unfolding place
place_is start offset n at few =
    let yes : nat_le ((start + offset) % 2 ^ 64) (start + 2 ^ 16) ≡ true = grind (arith, nat_tests, at, few) in
    rw yes (ap (λ (m : ℕ). Some m) at)

pub field_is : (profile : Profile) (start offset : ℕ) (f : ContextField) → (start + offset) % 2 ^ 64 ≡ offset_of f → offset_of f ≤ start + 2 ^ 16 → context_field profile start offset (size_of f) ≡ lent_field profile f
unfolding context_field context_at
field_is profile start offset f at few =
    ap (λ (o : Option ℕ). option_map_or (λ n. context_at profile n (size_of f)) o (Err ContextRefused)) (place_is start offset (offset_of f) at few)
    ∙ ap (λ (o : Option ContextField). option_map_or (lent_field profile) o (part_at profile (offset_of f) (size_of f))) (field_there f)
