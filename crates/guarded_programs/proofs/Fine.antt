-- An instruction that has what it needs isn't refused.
use Rattle.std.proofs.Common.{◌≡◌, ℕ, ℤ, ◌+◌, ◌-◌, ◌%◌, ◌/◌, ◌^◌, ◌≤◌, nat_le, nat_eq, if◌then◌else◌, Bool, true, false, Option, Some, None, Result, Ok, Err, List, refl, sym, ap, subst, arith}
use Rattle.std.specs.Prelude.{option_map, ⊤}
use Rattle.std.specs.Option.{option_map_or}
use Rattle.std.specs.List.{Contains}
use Rattle.std.specs.Int.{cast_unsigned, w64}
use Rattle.std.proofs.lemmas.Bool.Decides.{nat_tests}
use Rattle.span_context.specs.declared.profile.Profile.{Profile}
use Rattle.span_context.specs.declared.profile.Profile.TheVariants.{One, Two, Three}
use Rattle.span_context.specs.declared.size.Size.{Size}
use Rattle.span_context.specs.declared.size.Size.TheVariants.{Byte, Half, Word, Double}
use Rattle.span_context.specs.declared.context_field.ContextField.{ContextField}
use Rattle.span_context.specs.ContextField.{offset_of, size_of}
use Rattle.bpf_words.specs.declared.instruction.Insn.{Insn}
use Rattle.bpf_words.specs.declared.instruction.Insn.TheVariants.{Compute, Negate, Extend, Convert, Branch, Load, LoadSigned, Store}
use Rattle.bpf_words.specs.declared.instruction.Arithmetic.{Arithmetic}
use Rattle.bpf_words.specs.declared.instruction.Arithmetic.TheVariants as operation
use Rattle.bpf_words.specs.declared.instruction.Comparison.{Comparison}
use Rattle.bpf_words.specs.declared.instruction.ConvertedBits.{ConvertedBits}
use Rattle.bpf_words.specs.declared.instruction.Operand.{Operand}
use Rattle.bpf_words.specs.declared.instruction.Operand.TheVariants.{Immediate}
use Rattle.bpf_words.specs.declared.instruction.Width.{Width}
use Rattle.bpf_words.specs.declared.instruction.Width.TheVariants.{Full}
use Rattle.semantics.specs.Memory.{bytes_in, bytes_in_signed}
use Rattle.abstract_state.specs.declared.region.Region.{Region}
use Rattle.abstract_state.specs.declared.region.Region.TheVariants.{Text, Link}
use Rattle.abstract_state.specs.declared.refusal.Refusal.{Refusal}
use Rattle.abstract_state.specs.declared.refusal.Refusal.TheVariants as refusal
use Rattle.abstract_state.specs.Lent.{limit_of}
use Rattle.abstract_state.specs.Estimate.{Estimate, constant, normal, normal_cut, up_to_end, unknown}
use Rattle.abstract_state.specs.Transfer.{added, taken_away}
use Rattle.abstract_state.specs.Addresses.{Content, ANumber, InContext, InStack, InRegion, answer_of, then_answer, near, from_region, onto_region, computed, moved, replaced, converted, width_of}
use Rattle.abstract_state.specs.Loading.{any_of, a_number, text_field, link_field, lent_field, reaches, readable, filled, loaded, stack_place, is_whole, stored_at, written}
use Rattle.abstract_state.specs.Stacks.{Slots, whole_in, spilled, stored}
use Rattle.abstract_state.specs.Situation.{Situation, Least, least_at, read, operand_of}
use Rattle.abstract_state.specs.Stepping.{into, made, compute, arithmetic, with_slots, store, returned, exit}
use Rattle.abstract_state.specs.Stepping as steps
use Rattle.abstract_state.specs.Edges as edges
use Rattle.abstract_state.specs.Edges.{Both, is_order, is_register, two, unless, sides_on, right_side, refined, edge}
use Rattle.value_marks.specs.Marking.{Marking}
use Rattle.tracked_state.specs.Tracked.{TrackedSituation, tracked}
use Rattle.tracked_state.specs.Rules.{followed_marking, told_ways}
use Rattle.verifier.specs.Decides.{ways, led}
use Rattle.guarded_rules.specs.Facts.{Register, Slot, Kind, Number, AddressIn, Property, Any, AtMost, Value, Of, ContextAt, StackAt, Fact, Holds, Long, Stored}
use Rattle.guarded_rules.specs.Says.{of_kind, HasProperty, Says, SaysIn, Has}
use Rattle.guarded_rules.specs.Values.{IsRead, Adding, onto_address, onto_number, begin_of, end_of, length_of, IsLent, IsPlain, characters, flags, color, comments, index, count, version, Fields, begin_most, begin_behind, end_most, end_behind, length_most, length_behind, plain}
use Rattle.guarded_rules.specs.Steps.{Reaches}
use Rattle.guarded_rules.proofs.Sums.{added_says}
use Rattle.guarded_rules.proofs.Values.{normal_says, end_most_says, field_is}
use Rattle.guarded_rules.proofs.Steps.{kind_word, reaches_say}
use Rattle.guarded_rules.proofs.Offsets.{stack_moved, context_moved}
use Rattle.guarded_rules.proofs.Stack.{stack_at, whole_is, stored_readable}
use Rattle.guarded_rules.proofs.Kept.{none_has}
use Rattle.guarded_rules.proofs.Differences.{taken_says}
use Rattle.guarded_rules.proofs.Maps.{takes_both, sums_map, reaches_map}
use Rattle.guarded_programs.specs.Gives.{At, Reads}
use Rattle.guarded_programs.specs.Allows as need
use Rattle.guarded_programs.specs.Allows.{Allows}
use Rattle.guarded_programs.proofs.Known.{AllHold, one_at, at_says, reads_hold, one_read, read_says, right_holds}

abbrev pub IsFine : {A : Type 0} → Result A Refusal → Type 0
IsFine (Ok a) = Unit {0}
IsFine (Err fault) = ⊥

-- ---- answers
map_fine : {A B : Type 0} (f : A → B) (r : Result A Refusal) → IsFine r → IsFine (answer_of f r)
map_fine f (Ok a) h = tt
map_fine f (Err fault) h = absurd h

then_fine : {A B : Type 0} (f : A → Result B Refusal) (r : Result A Refusal) (a : A) → r ≡ Ok a → IsFine (f a) → IsFine (then_answer f r)
then_fine f r a is h = subst (λ q. IsFine (then_answer f q)) (sym is) h

read_is : (o : Option Content) (a : Content) → o ≡ Some a → read o ≡ Ok a
read_is o a is = ap read is

made_fine : (d : ℕ) (s : Situation) (f : Content → Result (Option Content) Refusal) (r : Result Content Refusal) (a : Content) → r ≡ Ok a → IsFine (f a) → IsFine (made d s f r)
unfolding made
made_fine d s f r a is h = map_fine (into d s) (then_answer f r) (then_fine f r a is h)

-- ---- moves
near_if : (r : Region) (a : Estimate) (b : Bool) → nat_le a.range.high (2 ^ 20) ≡ b → a.range.high ≤ 2 ^ 20 → IsFine (if b then Ok (Some (InRegion r a)) else Err refusal.TextOffset)
near_if r a true is few = tt
near_if r a false is few = absurd (grind (arith, nat_tests, is, few))

near_fine : (r : Region) (n : ℕ) (o : Option Estimate) → n ≤ 2 ^ 20 → SaysIn Number (AtMost n) o → IsFine (near r o)
unfolding near
near_fine r n None few h = tt
near_fine r n (Some a) few h = let has = h.has in near_if r a (nat_le a.range.high (2 ^ 20)) refl (omega (arith, few, has))

number_moved : (width : Width) (x : Estimate) → IsFine (moved width (ANumber x))
unfolding moved
number_moved width x = tt

kind_moved : (k : Kind) (x : Estimate) → Says k Any x → IsFine (moved Full (of_kind k x))
unfolding moved normal_cut
kind_moved Number x h = tt
kind_moved (AddressIn r) x h =
    let word = h.word in
    near_fine r (2 ^ 20) (normal x.bits x.range x.tails) (omega arith)
    (normal_says (AddressIn r) (AtMost (2 ^ 20)) x (record { proper = h.proper; word = h.word; has = h.word }) (omega (arith, word)))

address_moved : (n : ℕ) → IsFine (moved Full (InContext n))
unfolding moved
address_moved n = tt

frame_moved : (n : ℕ) → IsFine (moved Full (InStack n))
unfolding moved
frame_moved n = tt

one_some : (x y : Content) → Some x ≡ Some y → x ≡ y
one_some x y e = cc

value_moved : (v : Value) (c : Content) → Has v (Some c) → IsFine (moved Full c)
value_moved (Of k p) c h =
    let says : Says k Any h.estimate = record { proper = h.says.proper; word = h.says.word; has = tt } in
    subst (λ (d : Content). IsFine (moved Full d)) (sym (one_some c (of_kind k h.estimate) h.is)) (kind_moved k h.estimate says)
value_moved (ContextAt n) c h = subst (λ (d : Content). IsFine (moved Full d)) (sym (one_some c (InContext n) h)) (address_moved n)
value_moved (StackAt n) c h = subst (λ (d : Content). IsFine (moved Full d)) (sym (one_some c (InStack n) h)) (frame_moved n)

read_moved : (d : ℕ) (s : Situation) (v : Value) (r : Result Content Refusal) → IsRead v r → IsFine (made d s (moved Full) r)
read_moved d s v (Ok c) h = made_fine d s (moved Full) (Ok c) c refl (value_moved v c h)
read_moved d s v (Err fault) h = absurd h

-- ---- arithmetic
compute_fine : (profile : Profile) (width : Width) (op : Arithmetic) (d : ℕ) (operand : Operand) (s : Situation) (a b : Content) → s.registers d ≡ Some a → operand_of s.registers operand ≡ Ok b → IsFine (computed profile op width a b) → IsFine (compute profile width op d operand s)
unfolding compute
compute_fine profile width op d operand s a b ea eb h =
    then_fine (λ x. made d s (computed profile op width x) (operand_of s.registers operand)) (read (s.registers d)) a (read_is (s.registers d) a ea)
    (made_fine d s (computed profile op width a) (operand_of s.registers operand) b eb h)

no_move : (profile : Profile) (width : Width) (op : Arithmetic) (d : ℕ) (operand : Operand) (s : Situation) → (op ≡ operation.Mov → ⊥) → IsFine (compute profile width op d operand s) → IsFine (arithmetic profile width op d operand s)
unfolding arithmetic
no_move profile width operation.Mov d operand s differs h = absurd (differs refl)
no_move profile width op d operand s differs h = h

numbers_fine : (profile : Profile) (op : Arithmetic) (width : Width) (x y : Estimate) → IsFine (computed profile op width (ANumber x) (ANumber y))
unfolding computed
numbers_fine profile op width x y = tt

sum_fine : (profile : Profile) (k l : Kind) (region : Region) (x y : Estimate) (most : ℕ) → Adding k l (AddressIn region) → SaysIn Number (AtMost most) (added profile Full x y) → most ≤ 2 ^ 20 → IsFine (computed profile operation.Add Full (of_kind k x) (of_kind l y))
unfolding computed from_region onto_region
sum_fine profile k l region x y most (onto_address r) h few = near_fine r most (added profile Full x y) few h
sum_fine profile k l region x y most (onto_number r) h few = near_fine r most (added profile Full x y) few h

difference_fine : (profile : Profile) (region : Region) (x y : Estimate) (n : ℕ) → SaysIn Number (AtMost n) (taken_away profile Full x y) → n ≤ 2 ^ 20 → IsFine (computed profile operation.Sub Full (InRegion region x) (ANumber y))
unfolding computed from_region
difference_fine profile region x y n h few = near_fine region n (taken_away profile Full x y) few h

replaced_fine : (width : Width) (x : Estimate) → IsFine (replaced width (ANumber x))
unfolding replaced
replaced_fine width x = tt

converted_fine : (bits : ConvertedBits) (x : Estimate) → IsFine (answer_of Some (converted bits (ANumber x)))
unfolding converted
converted_fine bits x = tt

answer_fine : (r : Result (Option Content) Refusal) (c : Content) → r ≡ Ok (Some c) → IsFine r
answer_fine r c is = subst (λ (q : Result (Option Content) Refusal). IsFine q) (sym is) tt

-- ---- fields
limit_few : (r : Region) → limit_of r ≤ 2 ^ 20
limit_few Text = omega arith
limit_few Link = omega arith

end_near : (r : Region) → IsFine (near r (up_to_end r (2 ^ 64 - 1)))
end_near r = near_fine r (limit_of r) (up_to_end r (2 ^ 64 - 1)) (limit_few r) (end_most_says r (2 ^ 64 - 1) (omega arith))

begin_fine : (profile : Profile) (r : Region) → IsLent profile r → IsFine (lent_field profile (begin_of r))
unfolding lent_field link_field text_field
begin_fine One Text lent = tt
begin_fine Two Text lent = tt
begin_fine Three Text lent = tt
begin_fine One Link lent = absurd (cc)
begin_fine Two Link lent = tt
begin_fine Three Link lent = tt

end_fine : (profile : Profile) (r : Region) → IsLent profile r → IsFine (lent_field profile (end_of r))
unfolding lent_field link_field text_field
end_fine One Text lent = end_near Text
end_fine Two Text lent = end_near Text
end_fine Three Text lent = end_near Text
end_fine One Link lent = absurd (cc)
end_fine Two Link lent = end_near Link
end_fine Three Link lent = end_near Link

length_fine : (profile : Profile) (r : Region) → IsLent profile r → IsFine (lent_field profile (length_of r))
unfolding lent_field link_field text_field
length_fine One Text lent = tt
length_fine Two Text lent = tt
length_fine Three Text lent = tt
length_fine One Link lent = absurd (cc)
length_fine Two Link lent = tt
length_fine Three Link lent = tt

plain_fine : (profile : Profile) (f : ContextField) → IsPlain f → IsFine (lent_field profile f)
unfolding lent_field link_field text_field
plain_fine One f characters = tt
plain_fine One f flags = tt
plain_fine One f color = tt
plain_fine One f comments = tt
plain_fine One f index = tt
plain_fine One f count = tt
plain_fine One f version = tt
plain_fine Two f characters = tt
plain_fine Two f flags = tt
plain_fine Two f color = tt
plain_fine Two f comments = tt
plain_fine Two f index = tt
plain_fine Two f count = tt
plain_fine Two f version = tt
plain_fine Three f characters = tt
plain_fine Three f flags = tt
plain_fine Three f color = tt
plain_fine Three f comments = tt
plain_fine Three f index = tt
plain_fine Three f count = tt
plain_fine Three f version = tt

fields_fine : (profile : Profile) (f : ContextField) (k : Kind) (p : Property) → Fields profile f k p → IsFine (lent_field profile f)
fields_fine profile f k p (begin_most r lent) = begin_fine profile r lent
fields_fine profile f k p (begin_behind r lent) = begin_fine profile r lent
fields_fine profile f k p (end_most r lent) = end_fine profile r lent
fields_fine profile f k p (end_behind r lent) = end_fine profile r lent
fields_fine profile f k p (length_most r lent) = length_fine profile r lent
fields_fine profile f k p (length_behind r lent) = length_fine profile r lent
fields_fine profile f k p (plain g is) = plain_fine profile g is

field_fine : (profile : Profile) (slots : Slots) (least : Least) (start offset : ℕ) (f : ContextField) (k : Kind) (p : Property) → (start + offset) % 2 ^ 64 ≡ offset_of f → offset_of f ≤ start + 2 ^ 16 → Fields profile f k p → IsFine (loaded profile slots least (InContext start) offset (size_of f))
unfolding loaded
field_fine profile slots least start offset f k p at few fields =
    subst (λ (r : Result (Option Content) Refusal). IsFine r) (sym (field_is profile start offset f at few)) (fields_fine profile f k p fields)

-- ---- loads of a lent region
abbrev let_through : Bool → Result ⊤ Refusal
let_through b = if b then Ok tt else Err refusal.TextBounds

if_fine : (b : Bool) → b ≡ true → IsFine (let_through b)
if_fine true is = tt
if_fine false is = absurd (cc)

readable_fine : (profile : Profile) (slots : Slots) (least : Least) (region : Region) (a : Estimate) (offset many : ℕ) → reaches (least_at least region) region a offset many ≡ true → IsFine (readable profile slots least (InRegion region a) offset many)
unfolding readable
readable_fine profile slots least region a offset many h = if_fine (reaches (least_at least region) region a offset many) h

bytes_fine : (profile : Profile) (slots : Slots) (least : Least) (region : Region) (a : Estimate) (offset : ℕ) (size : Size) → reaches (least_at least region) region a offset (bytes_in size) ≡ true → IsFine (loaded profile slots least (InRegion region a) offset size)
unfolding loaded filled
bytes_fine profile slots least region a offset size h =
    map_fine (a_number (any_of size)) (readable profile slots least (InRegion region a) offset (bytes_in size)) (readable_fine profile slots least region a offset (bytes_in size) h)

reached : (before : List Fact) (s : Situation) (base : ℕ) (region : Region) (a : Estimate) (offset many : ℕ) → AllHold before s → s.registers base ≡ Some (InRegion region a) → Says (AddressIn region) Any a → Reaches region (At before base (AddressIn region)) (λ n. Contains before (Long region n)) offset many → reaches (least_at s.least region) region a offset many ≡ true
reached before s base region a offset many holds is says reach =
    reaches_say (least_at s.least region) region a offset many says.proper says.word
    (reaches_map region (At before base (AddressIn region)) (λ q. HasProperty q a) (λ n. Contains before (Long region n)) (λ n. n ≤ least_at s.least region) offset many
    (λ q there. at_says before s base (AddressIn region) a q holds is there) (λ n there. holds (Long region n) there) reach)

-- ---- comparisons
told_fine : (f : Option Both → Option Situation) (r : Result (Option Both) Refusal) → IsFine r → IsFine (then_answer (λ told. Ok (f told)) r)
told_fine f (Ok o) h = tt
told_fine f (Err fault) h = absurd h

edge_fine : (width : Width) (c : Comparison) (left : ℕ) (right : Operand) (taken : Bool) (s : Situation) (a b : Content) → s.registers left ≡ Some a → right_side width s.registers right ≡ Ok b → IsFine (sides_on width c taken a b) → IsFine (edge width c left right taken s)
unfolding edge
edge_fine width c left right taken s a b ea eb h =
    then_fine (λ x. then_answer (λ y. then_answer (λ told. Ok (refined left right (unless (is_register left right) (two x y) told) s)) (sides_on width c taken x y)) (right_side width s.registers right)) (read (s.registers left)) a (read_is (s.registers left) a ea)
    (then_fine (λ y. then_answer (λ told. Ok (refined left right (unless (is_register left right) (two a y) told) s)) (sides_on width c taken a y)) (right_side width s.registers right) b eb
    (told_fine (λ told. refined left right (unless (is_register left right) (two a b) told) s) (sides_on width c taken a b) h))

sides_numbers : (width : Width) (c : Comparison) (taken : Bool) (x y : Estimate) → IsFine (sides_on width c taken (ANumber x) (ANumber y))
unfolding sides_on
sides_numbers width c taken x y = tt

ordered_fine : (b : Bool) (o : Option Both) → b ≡ true → IsFine (if b then Ok o else Err refusal.PointerCompare)
ordered_fine true o is = tt
ordered_fine false o is = absurd (cc)

sides_addresses : (c : Comparison) (taken : Bool) (region : Region) (x y : Estimate) → is_order c ≡ true → IsFine (sides_on Full c taken (InRegion region x) (InRegion region y))
unfolding sides_on
sides_addresses c taken Text x y is = ordered_fine (is_order c) _ is
sides_addresses c taken Link x y is = ordered_fine (is_order c) _ is

both_fine : (left : ℕ) (right : Operand) (m : Option Marking) (jumping falling : Result (Option Situation) Refusal) → IsFine jumping → IsFine falling → IsFine (answer_of (told_ways left right m) (then_answer (λ taken. then_answer (λ untaken. Ok (edges.ways taken untaken)) falling) jumping))
both_fine left right m (Ok a) (Ok b) h j = tt
both_fine left right m (Ok a) (Err fault) h j = absurd j
both_fine left right m (Err fault) falling h j = absurd h

branch_fine : (profile : Profile) (slot : ℕ) (width : Width) (c : Comparison) (left : ℕ) (right : Operand) (distance : ℤ) (t : TrackedSituation) (a b : Content) → t.situation.registers left ≡ Some a → right_side width t.situation.registers right ≡ Ok b → ((taken : Bool) → IsFine (sides_on width c taken a b)) → IsFine (led profile slot (Branch width c left right distance) t)
unfolding led edges.branched
branch_fine profile slot width c left right distance t a b ea eb sides =
    both_fine left right t.marking (edge width c left right true t.situation) (edge width c left right false t.situation)
    (edge_fine width c left right true t.situation a b ea eb (sides true)) (edge_fine width c left right false t.situation a b ea eb (sides false))

-- ---- the stack
abbrev ok_if : Bool → Slots → Slots → Result Slots Refusal
ok_if b x y = if b then Ok x else Ok y

either_fine : (b : Bool) (x y : Slots) → IsFine (ok_if b x y)
either_fine true x y = tt
either_fine false x y = tt

stored_fine : (slots : Slots) (n many : ℕ) (a : Estimate) → IsFine (stored_at slots many (ANumber a) n)
stored_fine slots n many a = either_fine (is_whole n many) (spilled (n / 8) (ANumber a) slots) (stored n many slots)

whole_fine : (slots : Slots) (n : ℕ) (value : Content) → n % 8 ≡ 0 → IsFine (stored_at slots 8 value n)
whole_fine slots n value is = let yes : nat_eq (n % 8) 0 ≡ true = grind (arith, nat_tests, is) in rw yes tt

store_fine : (size : Size) (base : ℕ) (offset : ℤ) (operand : Operand) (s : Situation) (p n : ℕ) (value : Content) → s.registers base ≡ Some (InStack p) → (p + cast_unsigned w64 offset) % 2 ^ 64 ≡ n → n + bytes_in size ≤ 512 → operand_of s.registers operand ≡ Ok value → IsFine (stored_at s.slots (bytes_in size) value n) → IsFine (store size base offset operand s)
unfolding store written
store_fine size base offset operand s p n value eb at few ev h =
    then_fine (λ a. then_answer (λ c. answer_of (with_slots s) (written s.slots a (cast_unsigned w64 offset) (bytes_in size) c)) (operand_of s.registers operand)) (read (s.registers base)) (InStack p) (read_is (s.registers base) (InStack p) eb)
    (then_fine (λ c. answer_of (with_slots s) (written s.slots (InStack p) (cast_unsigned w64 offset) (bytes_in size) c)) (operand_of s.registers operand) value ev
    (map_fine (with_slots s) (then_answer (stored_at s.slots (bytes_in size) value) (stack_place p (cast_unsigned w64 offset) (bytes_in size)))
    (then_fine (stored_at s.slots (bytes_in size) value) (stack_place p (cast_unsigned w64 offset) (bytes_in size)) n (stack_at p (cast_unsigned w64 offset) (bytes_in size) n at few) h)))

there_fine : (v : Value) (o : Option Content) (unfilled : Result (Option Content) Refusal) → Has v o → IsFine (option_map_or (λ whole. Ok (Some whole)) o unfilled)
there_fine v None unfilled h = absurd (none_has v h)
there_fine v (Some c) unfilled h = tt

fill_fine : (profile : Profile) (slots : Slots) (least : Least) (p offset n : ℕ) (v : Value) → (p + offset) % 2 ^ 64 ≡ n → n + 8 ≤ 512 → n % 8 ≡ 0 → Has v (whole_in (slots (n / 8))) → IsFine (loaded profile slots least (InStack p) offset Double)
unfolding loaded
fill_fine profile slots least p offset n v at few is h =
    there_fine v (filled slots (InStack p) offset Double) (answer_of (a_number (any_of Double)) (readable profile slots least (InStack p) offset (bytes_in Double)))
    (subst (λ (o : Option Content). Has v o) (sym (whole_is slots p offset n at few is)) h)

read_fine : (size : Size) (r : Result ⊤ Refusal) → r ≡ Ok tt → IsFine (answer_of (a_number (any_of size)) r)
read_fine size r is = map_fine (a_number (any_of size)) r (subst (λ (q : Result ⊤ Refusal). IsFine q) (sym is) tt)

part_fine : (profile : Profile) (slots : Slots) (least : Least) (p offset : ℕ) (size : Size) → (size ≡ Double → ⊥) → readable profile slots least (InStack p) offset (bytes_in size) ≡ Ok tt → IsFine (loaded profile slots least (InStack p) offset size)
unfolding loaded filled
part_fine profile slots least p offset Byte differs is = read_fine Byte (readable profile slots least (InStack p) offset (bytes_in Byte)) is
part_fine profile slots least p offset Half differs is = read_fine Half (readable profile slots least (InStack p) offset (bytes_in Half)) is
part_fine profile slots least p offset Word differs is = read_fine Word (readable profile slots least (InStack p) offset (bytes_in Word)) is
part_fine profile slots least p offset Double differs is = absurd (differs refl)

-- ---- an end
exit_fine : (s : Situation) (x : Estimate) → s.registers 0 ≡ Some (ANumber x) → IsFine (exit s)
unfolding exit
exit_fine s x is = then_fine returned (read (s.registers 0)) (ANumber x) (read_is (s.registers 0) (ANumber x) is) tt

-- what an operand is
record IsAnyRead (r : Result Content Refusal) : Type 0 where
  content : Content
  is : r ≡ Ok content

any_read : (v : Value) (r : Result Content Refusal) → IsRead v r → IsAnyRead r
any_read v (Ok c) h = record { content = c; is = refl }
any_read v (Err fault) h = absurd h

-- ---- all of them
stepped_fine : (m : Option Marking) (r : Result (Option Situation) Refusal) → IsFine r → IsFine (answer_of (ways None) (answer_of (option_map (tracked m)) r))
stepped_fine m (Ok o) h = tt
stepped_fine m (Err fault) h = absurd h

abbrev mark_after : ℕ → Insn → TrackedSituation → Option Marking
mark_after slot insn t = followed_marking slot insn t

pub allowed_fine : (profile : Profile) (before : List Fact) (insn : Insn) (slot : ℕ) (t : TrackedSituation) → AllHold before t.situation → Allows profile before insn → IsFine (led profile slot insn t)
unfolding led steps.stepped arithmetic
allowed_fine profile before insn slot t holds (need.moves d operand v there) =
    stepped_fine (mark_after slot (Compute Full operation.Mov d operand) t) (made d t.situation (moved Full) (operand_of t.situation.registers operand))
    (read_moved d t.situation v (operand_of t.situation.registers operand) (reads_hold before t.situation operand v holds there))
allowed_fine profile before insn slot t holds (need.moves_number width d operand there) =
    let x = one_read Number (operand_of t.situation.registers operand) (reads_hold before t.situation operand (Of Number Any) holds there) in
    stepped_fine (mark_after slot (Compute width operation.Mov d operand) t) (made d t.situation (moved width) (operand_of t.situation.registers operand))
    (made_fine d t.situation (moved width) (operand_of t.situation.registers operand) (ANumber x.estimate) x.is (number_moved width x.estimate))
allowed_fine profile before insn slot t holds (need.computes width op d operand differs one other) =
    let x = one_at before t.situation d Number holds one in
    let y = one_read Number (operand_of t.situation.registers operand) (reads_hold before t.situation operand (Of Number Any) holds other) in
    stepped_fine (mark_after slot (Compute width op d operand) t) (arithmetic profile width op d operand t.situation)
    (no_move profile width op d operand t.situation differs
    (compute_fine profile width op d operand t.situation (ANumber x.estimate) (ANumber y.estimate) x.is y.is (numbers_fine profile op width x.estimate y.estimate)))
allowed_fine profile before insn slot t holds (need.sums {k = k} {l = l} d operand region most kinds one other sums few) =
    let x = one_at before t.situation d k holds one in
    let y = one_read l (operand_of t.situation.registers operand) (reads_hold before t.situation operand (Of l Any) holds other) in
    stepped_fine (mark_after slot (Compute Full operation.Add d operand) t) (compute profile Full operation.Add d operand t.situation)
    (compute_fine profile Full operation.Add d operand t.situation (of_kind k x.estimate) (of_kind l y.estimate) x.is y.is
    (sum_fine profile k l region x.estimate y.estimate most kinds
    (added_says profile Full (AtMost most) x.estimate y.estimate y.says.proper (kind_word k x.estimate.range.high x.says.word)
    (sums_map profile Full (At before d k) (λ q. Reads before operand (Of l q)) (λ q. HasProperty q x.estimate) (λ q. HasProperty q y.estimate) (AtMost most)
    (λ q there. at_says before t.situation d k x.estimate q holds x.is there)
    (λ q there. read_says l q y.estimate (operand_of t.situation.registers operand) y.is (reads_hold before t.situation operand (Of l q) holds there)) sums))
    few))
allowed_fine profile before insn slot t holds (need.takes d operand region most n one other top half takes few) =
    let k = AddressIn region in
    let x = one_at before t.situation d k holds one in
    let y = one_read Number (operand_of t.situation.registers operand) (reads_hold before t.situation operand (Of Number Any) holds other) in
    let First : (q : Property) → At before d k q → HasProperty q x.estimate = λ q there. at_says before t.situation d k x.estimate q holds x.is there in
    let Second : (q : Property) → Reads before operand (Of Number q) → HasProperty q y.estimate = λ q there. read_says Number q y.estimate (operand_of t.situation.registers operand) y.is (reads_hold before t.situation operand (Of Number q) holds there) in
    let high = Second (AtMost most) top in
    stepped_fine (mark_after slot (Compute Full operation.Sub d operand) t) (compute profile Full operation.Sub d operand t.situation)
    (compute_fine profile Full operation.Sub d operand t.situation (InRegion region x.estimate) (ANumber y.estimate) x.is y.is
    (difference_fine profile region x.estimate y.estimate n
    (taken_says profile Full (AtMost n) x.estimate y.estimate y.says.proper (kind_word k x.estimate.range.high x.says.word) (omega (arith, high, half))
    (takes_both (At before d k) (λ q. Reads before operand (Of Number q)) (λ q. HasProperty q x.estimate) (λ q. HasProperty q y.estimate) (AtMost n) First Second takes))
    few))
allowed_fine profile before insn slot t holds (need.displaces_stack d value begin n there is few) =
    stepped_fine (mark_after slot (Compute Full operation.Add d (Immediate value)) t) (compute profile Full operation.Add d (Immediate value) t.situation)
    (compute_fine profile Full operation.Add d (Immediate value) t.situation (InStack begin) (ANumber (constant (cast_unsigned w64 value))) (holds (Holds (Register d) (StackAt begin)) there) refl
    (answer_fine (computed profile operation.Add Full (InStack begin) (ANumber (constant (cast_unsigned w64 value)))) (InStack n) (stack_moved profile begin (cast_unsigned w64 value) n is few)))
allowed_fine profile before insn slot t holds (need.displaces_context d value begin n there is few) =
    stepped_fine (mark_after slot (Compute Full operation.Add d (Immediate value)) t) (compute profile Full operation.Add d (Immediate value) t.situation)
    (compute_fine profile Full operation.Add d (Immediate value) t.situation (InContext begin) (ANumber (constant (cast_unsigned w64 value))) (holds (Holds (Register d) (ContextAt begin)) there) refl
    (answer_fine (computed profile operation.Add Full (InContext begin) (ANumber (constant (cast_unsigned w64 value)))) (InContext n) (context_moved profile begin (cast_unsigned w64 value) n is few)))
allowed_fine profile before insn slot t holds (need.negates width d there) =
    let x = one_at before t.situation d Number holds there in
    stepped_fine (mark_after slot (Negate width d) t) (made d t.situation (replaced width) (read (t.situation.registers d)))
    (made_fine d t.situation (replaced width) (read (t.situation.registers d)) (ANumber x.estimate) (read_is (t.situation.registers d) (ANumber x.estimate) x.is) (replaced_fine width x.estimate))
allowed_fine profile before insn slot t holds (need.extends extension d source there) =
    let x = one_at before t.situation source Number holds there in
    stepped_fine (mark_after slot (Extend extension d source) t) (made d t.situation (replaced (width_of extension)) (read (t.situation.registers source)))
    (made_fine d t.situation (replaced (width_of extension)) (read (t.situation.registers source)) (ANumber x.estimate) (read_is (t.situation.registers source) (ANumber x.estimate) x.is) (replaced_fine (width_of extension) x.estimate))
allowed_fine profile before insn slot t holds (need.converts conversion bits d there) =
    let x = one_at before t.situation d Number holds there in
    stepped_fine (mark_after slot (Convert conversion bits d) t) (made d t.situation (λ a. answer_of Some (converted bits a)) (read (t.situation.registers d)))
    (made_fine d t.situation (λ a. answer_of Some (converted bits a)) (read (t.situation.registers d)) (ANumber x.estimate) (read_is (t.situation.registers d) (ANumber x.estimate) x.is) (converted_fine bits x.estimate))
allowed_fine profile before insn slot t holds (need.jumps distance) = tt
allowed_fine profile before insn slot t holds (need.jumps_long distance) = tt
allowed_fine profile before insn slot t holds (need.tests_numbers width c left right distance one other) =
    let x = one_at before t.situation left Number holds one in
    let y = one_read Number (right_side width t.situation.registers right) (right_holds before t.situation width Number right Any holds other) in
    branch_fine profile slot width c left right distance t (ANumber x.estimate) (ANumber y.estimate) x.is y.is (λ taken. sides_numbers width c taken x.estimate y.estimate)
allowed_fine profile before insn slot t holds (need.tests_addresses c left right distance region order one other) =
    let x = one_at before t.situation left (AddressIn region) holds one in
    let y = one_read (AddressIn region) (right_side Full t.situation.registers right) (right_holds before t.situation Full (AddressIn region) right Any holds other) in
    branch_fine profile slot Full c left right distance t (InRegion region x.estimate) (InRegion region y.estimate) x.is y.is (λ taken. sides_addresses c taken region x.estimate y.estimate order)
allowed_fine profile before insn slot t holds (need.field d base offset start f k p there at few fields) =
    let is : t.situation.registers base ≡ Some (InContext start) = holds (Holds (Register base) (ContextAt start)) there in
    stepped_fine (mark_after slot (Load (size_of f) d base offset) t) (made d t.situation (λ a. loaded profile t.situation.slots t.situation.least a (cast_unsigned w64 offset) (size_of f)) (read (t.situation.registers base)))
    (made_fine d t.situation (λ a. loaded profile t.situation.slots t.situation.least a (cast_unsigned w64 offset) (size_of f)) (read (t.situation.registers base)) (InContext start) (read_is (t.situation.registers base) (InContext start) is)
    (field_fine profile t.situation.slots t.situation.least start (cast_unsigned w64 offset) f k p at few fields))
allowed_fine profile before insn slot t holds (need.loads size d base offset region one reach) =
    let a = one_at before t.situation base (AddressIn region) holds one in
    stepped_fine (mark_after slot (Load size d base offset) t) (made d t.situation (λ x. loaded profile t.situation.slots t.situation.least x (cast_unsigned w64 offset) size) (read (t.situation.registers base)))
    (made_fine d t.situation (λ x. loaded profile t.situation.slots t.situation.least x (cast_unsigned w64 offset) size) (read (t.situation.registers base)) (InRegion region a.estimate) (read_is (t.situation.registers base) (InRegion region a.estimate) a.is)
    (bytes_fine profile t.situation.slots t.situation.least region a.estimate (cast_unsigned w64 offset) size
    (reached before t.situation base region a.estimate (cast_unsigned w64 offset) (bytes_in size) holds a.is a.says reach)))
allowed_fine profile before insn slot t holds (need.loads_signed size d base offset region one reach) =
    let a = one_at before t.situation base (AddressIn region) holds one in
    stepped_fine (mark_after slot (LoadSigned size d base offset) t) (made d t.situation (λ x. answer_of (a_number (unknown Full)) (readable profile t.situation.slots t.situation.least x (cast_unsigned w64 offset) (bytes_in_signed size))) (read (t.situation.registers base)))
    (made_fine d t.situation (λ x. answer_of (a_number (unknown Full)) (readable profile t.situation.slots t.situation.least x (cast_unsigned w64 offset) (bytes_in_signed size))) (read (t.situation.registers base)) (InRegion region a.estimate) (read_is (t.situation.registers base) (InRegion region a.estimate) a.is)
    (map_fine (a_number (unknown Full)) (readable profile t.situation.slots t.situation.least (InRegion region a.estimate) (cast_unsigned w64 offset) (bytes_in_signed size))
    (readable_fine profile t.situation.slots t.situation.least region a.estimate (cast_unsigned w64 offset) (bytes_in_signed size)
    (reached before t.situation base region a.estimate (cast_unsigned w64 offset) (bytes_in_signed size) holds a.is a.says reach))))
allowed_fine profile before insn slot t holds (need.stores size base offset operand n place there) =
    let y = one_read Number (operand_of t.situation.registers operand) (reads_hold before t.situation operand (Of Number Any) holds there) in
    stepped_fine (mark_after slot (Store size base offset operand) t) (store size base offset operand t.situation)
    (store_fine size base offset operand t.situation place.begin n (ANumber y.estimate) (holds (Holds (Register base) (StackAt place.begin)) place.holds) place.at place.few y.is
    (stored_fine t.situation.slots n (bytes_in size) y.estimate))
allowed_fine profile before insn slot t holds (need.spills base offset operand n v place whole there) =
    let y = any_read v (operand_of t.situation.registers operand) (reads_hold before t.situation operand v holds there) in
    stepped_fine (mark_after slot (Store Double base offset operand) t) (store Double base offset operand t.situation)
    (store_fine Double base offset operand t.situation place.begin n y.content (holds (Holds (Register base) (StackAt place.begin)) place.holds) place.at place.few y.is
    (whole_fine t.situation.slots n y.content whole))
allowed_fine profile before insn slot t holds (need.fills d base offset n v place whole there) =
    let is : t.situation.registers base ≡ Some (InStack place.begin) = holds (Holds (Register base) (StackAt place.begin)) place.holds in
    stepped_fine (mark_after slot (Load Double d base offset) t) (made d t.situation (λ a. loaded profile t.situation.slots t.situation.least a (cast_unsigned w64 offset) Double) (read (t.situation.registers base)))
    (made_fine d t.situation (λ a. loaded profile t.situation.slots t.situation.least a (cast_unsigned w64 offset) Double) (read (t.situation.registers base)) (InStack place.begin) (read_is (t.situation.registers base) (InStack place.begin) is)
    (fill_fine profile t.situation.slots t.situation.least place.begin (cast_unsigned w64 offset) n v place.at place.few whole (holds (Holds (Slot (n / 8)) v) there)))
allowed_fine profile before insn slot t holds (need.loads_stored size d base offset n differs place each) =
    let is : t.situation.registers base ≡ Some (InStack place.begin) = holds (Holds (Register base) (StackAt place.begin)) place.holds in
    stepped_fine (mark_after slot (Load size d base offset) t) (made d t.situation (λ a. loaded profile t.situation.slots t.situation.least a (cast_unsigned w64 offset) size) (read (t.situation.registers base)))
    (made_fine d t.situation (λ a. loaded profile t.situation.slots t.situation.least a (cast_unsigned w64 offset) size) (read (t.situation.registers base)) (InStack place.begin) (read_is (t.situation.registers base) (InStack place.begin) is)
    (part_fine profile t.situation.slots t.situation.least place.begin (cast_unsigned w64 offset) size differs
    (stored_readable profile t.situation.slots t.situation.least place.begin (cast_unsigned w64 offset) (bytes_in size) n place.at place.few (λ j less. holds (Stored (n + j)) (each j less)))))
allowed_fine profile before insn slot t holds (need.wide d value) = tt
allowed_fine profile before insn slot t holds (need.ends there) =
    let x = one_at before t.situation 0 Number holds there in
    map_fine (λ done. ways None None) (exit t.situation) (exit_fine t.situation x.estimate x.is)
