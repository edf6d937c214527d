-- Facts of the stack: what a store leaves there, and what a load takes from it.
use Rattle.std.proofs.Common.{◌≡◌, ◌≢◌, ℕ, ℤ, zero, suc, ◌+◌, ◌-◌, ◌*◌, ◌%◌, ◌/◌, ◌^◌, ◌<◌, ◌≤◌, nat_le, nat_lt, nat_eq, if◌then◌else◌, ◌&&◌, ◌||◌, Bool, true, false, Option, Some, None, Result, Ok, Err, List, refl, sym, ap, ◌∙◌, subst, arith, ⊎_elim}
use Rattle.std.specs.Prelude.{⊤}
use Rattle.std.specs.Option.{option_map_or}
use Rattle.std.specs.Int.{cast_unsigned, w64}
use Rattle.std.proofs.lemmas.Bool.Decides.{nat_tests}
use Rattle.span_context.specs.declared.profile.Profile.{Profile}
use Rattle.span_context.specs.declared.size.Size.{Size}
use Rattle.span_context.specs.declared.size.Size.TheVariants.{Byte, Half, Word, Double}
use Rattle.bpf_words.specs.declared.instruction.Insn.TheVariants.{Load, Store}
use Rattle.bpf_words.specs.declared.instruction.Operand.{Operand}
use Rattle.semantics.specs.Memory.{bytes_in}
use Rattle.abstract_state.specs.declared.refusal.Refusal.{Refusal}
use Rattle.abstract_state.specs.declared.refusal.Refusal.TheVariants.{StackBounds, StackUnset}
use Rattle.abstract_state.specs.Estimate.{Estimate}
use Rattle.abstract_state.specs.Addresses.{Content, ANumber, InStack, answer_of, then_answer}
use Rattle.abstract_state.specs.Stacks.{Eight, Marked, Whole, Slots, mark, marks_of, marks_stored, stored_eight, stored, spilled, whole_in, is_set, are_set}
use Rattle.abstract_state.specs.Loading.{any_of, a_number, place, within_stack, stack_place, set_there, readable, whole_at, filled, loaded, is_whole, bytes_stored, stored_at, written}
use Rattle.abstract_state.specs.Situation.{Situation, Least, read, operand_of}
use Rattle.abstract_state.specs.Stepping.{with_slots, store, stepped}
use Rattle.guarded_rules.specs.Facts.{Register, Slot, Number, AtMost, Value, Of, Fact, Holds, Long, Stored}
use Rattle.guarded_rules.specs.Says.{Has, Entails, OnAnswer, OnSituation}
use Rattle.guarded_rules.specs.Stack.{IsBeside, IsOutside, IsSpared}
use Rattle.guarded_rules.proofs.Kept.{none_has}
use Rattle.guarded_rules.proofs.Joins.{mark_by}
use Rattle.guarded_rules.proofs.Steps.{load_gives, number_read, read_content, one_read, then_keeps}

-- ---- places
place_at : (start offset n : ℕ) → (start + offset) % 2 ^ 64 ≡ n → n ≤ start + 2 ^ 16 → place start offset ≡ Some n
unfolding place
place_at start offset n at few =
    let yes : nat_le ((start + offset) % 2 ^ 64) (start + 2 ^ 16) ≡ true = grind (arith, nat_tests, at, few) in
    rw yes (ap (λ (m : ℕ). Some m) at)

within : (count n : ℕ) → n + count ≤ 512 → within_stack count n ≡ Ok n
within count n few = let yes : nat_le (n + count) 512 ≡ true = grind (arith, nat_tests, few) in rw yes refl

pub stack_at : (start offset count n : ℕ) → (start + offset) % 2 ^ 64 ≡ n → n + count ≤ 512 → stack_place start offset count ≡ Ok n
unfolding stack_place
stack_at start offset count n at few =
    ap (λ (o : Option ℕ). option_map_or (within_stack count) o (Err StackBounds)) (place_at start offset n at (omega (arith, few)))
    ∙ within count n few

-- ---- a slot
by_eight : (P : Eight → Type 0) (b : Bool) (x y : Eight) → (b ≡ true → P x) → (b ≡ false → P y) → P (if b then x else y)
by_eight P true x y here there = here refl
by_eight P false x y here there = there refl

at_place : (i j : ℕ) → nat_eq i j ≡ true → i ≡ j
at_place i j e = grind (arith, nat_tests, e)

off_place : (i j : ℕ) → nat_eq i j ≡ false → i ≢ j
off_place i j e = grind (arith, nat_tests, e)

few_eighth : (at : ℕ) → at % 8 < 8
few_eighth at = omega arith

-- ---- all of a slot is stored at once
abbrev after : Situation → Slots → Situation
after s slots = record s { slots = slots }

spill_here : (v : Value) (i : ℕ) (c : Content) (s : Situation) → Has v (Some c) → Has v (whole_in (spilled i c s.slots i))
spill_here v i c s h = by_eight (λ (e : Eight). Has v (whole_in e)) (nat_eq i i) (Whole c) (s.slots i) (λ is. h) (λ differ. absurd (off_place i i differ refl))

spill_beside : (f : Fact) (i : ℕ) (c : Content) (s : Situation) → IsBeside i f → Entails s f → Entails (after s (spilled i c s.slots)) f
unfolding is_set
spill_beside (Holds (Register r) v) i c s beside h = h
spill_beside (Holds (Slot j) v) i c s beside h =
    by_eight (λ (e : Eight). Has v (whole_in e)) (nat_eq j i) (Whole c) (s.slots j) (λ is. absurd (beside (at_place j i is))) (λ differ. h)
spill_beside (Long region n) i c s beside h = h
spill_beside (Stored at) i c s beside h =
    by_eight (λ (e : Eight). mark (marks_of e) (at % 8) ≡ true) (nat_eq (at / 8) i) (Whole c) (s.slots (at / 8)) (λ is. absurd (beside (at_place (at / 8) i is))) (λ differ. h)

number_marks : (a : Estimate) (j : ℕ) → j < 8 → mark (marks_of (Whole (ANumber a))) j ≡ true
unfolding marks_of
number_marks a j few = mark_by (λ i. true) j few

spill_number : (at i : ℕ) (a : Estimate) (s : Situation) → (at / 8 ≢ i → is_set s.slots at ≡ true) → is_set (spilled i (ANumber a) s.slots) at ≡ true
unfolding is_set
spill_number at i a s h =
    by_eight (λ (e : Eight). mark (marks_of e) (at % 8) ≡ true) (nat_eq (at / 8) i) (Whole (ANumber a)) (s.slots (at / 8))
    (λ is. number_marks a (at % 8) (few_eighth at)) (λ differ. h (off_place (at / 8) i differ))

-- ---- bytes of a number are stored
or_left : (a b : Bool) → a ≡ true → (a || b) ≡ true
or_left a b h = cc

or_right : (a b : Bool) → b ≡ true → (a || b) ≡ true
or_right true b h = refl
or_right false b h = h

and_true : (a b : Bool) → a ≡ true → b ≡ true → (a && b) ≡ true
and_true a b h j = cc

abbrev marked_by : ℕ → ℕ → ℕ → List Bool → ℕ → Bool
marked_by first offset count marks j = mark marks j || (nat_le offset (first + j) && nat_lt (first + j) (offset + count))

stored_mark : (first offset count j : ℕ) (marks : List Bool) → j < 8 → marked_by first offset count marks j ≡ true → mark (marks_stored first offset count marks) j ≡ true
unfolding marks_stored
stored_mark first offset count j marks few h = mark_by (marked_by first offset count marks) j few ∙ h

marked_before : (first offset count j : ℕ) (marks : List Bool) → mark marks j ≡ true → marked_by first offset count marks j ≡ true
marked_before first offset count j marks h = or_left (mark marks j) (nat_le offset (first + j) && nat_lt (first + j) (offset + count)) h

marked_now : (first offset count j : ℕ) (marks : List Bool) → offset ≤ first + j → first + j < offset + count → marked_by first offset count marks j ≡ true
marked_now first offset count j marks low high =
    or_right (mark marks j) (nat_le offset (first + j) && nat_lt (first + j) (offset + count))
    (and_true (nat_le offset (first + j)) (nat_lt (first + j) (offset + count)) (grind (arith, nat_tests, low)) (grind (arith, nat_tests, high)))

marked_eight : (marks : List Bool) (j : ℕ) → mark marks j ≡ true → mark (marks_of (Marked marks)) j ≡ true
unfolding marks_of
marked_eight marks j h = h

byte_stays : (first offset count j : ℕ) (e : Eight) → j < 8 → mark (marks_of e) j ≡ true → mark (marks_of (stored_eight first offset count e)) j ≡ true
unfolding stored_eight
byte_stays first offset count j e few h =
    by_eight (λ (x : Eight). mark (marks_of x) j ≡ true) (nat_lt offset (first + 8) && nat_lt first (offset + count)) (Marked (marks_stored first offset count (marks_of e))) e
    (λ is. marked_eight (marks_stored first offset count (marks_of e)) j (stored_mark first offset count j (marks_of e) few (marked_before first offset count j (marks_of e) h)))
    (λ differ. h)

both_false : (a b : Bool) → (a && b) ≡ false → a ≡ true → b ≡ true → ⊥
both_false a b h j k = cc

byte_now : (first offset count j : ℕ) (e : Eight) → j < 8 → offset ≤ first + j → first + j < offset + count → mark (marks_of (stored_eight first offset count e)) j ≡ true
unfolding stored_eight
byte_now first offset count j e few low high =
    by_eight (λ (x : Eight). mark (marks_of x) j ≡ true) (nat_lt offset (first + 8) && nat_lt first (offset + count)) (Marked (marks_stored first offset count (marks_of e))) e
    (λ is. marked_eight (marks_stored first offset count (marks_of e)) j (stored_mark first offset count j (marks_of e) few (marked_now first offset count j (marks_of e) low high)))
    (λ differ. absurd (both_false (nat_lt offset (first + 8)) (nat_lt first (offset + count)) differ (grind (arith, nat_tests, few, low)) (grind (arith, nat_tests, high))))

and_first : (a b : Bool) → (a && b) ≡ true → a ≡ true
and_first true b h = refl
and_first false b h = h

and_second : (a b : Bool) → (a && b) ≡ true → b ≡ true
and_second true b h = h
and_second false b h = absurd (cc)

not_before : (i offset : ℕ) → 8 * i + 8 ≤ offset → nat_lt offset (8 * i + 8) ≡ true → ⊥
not_before i offset less is = grind (arith, nat_tests, less, is)

not_behind : (i offset count : ℕ) → offset + count ≤ 8 * i → nat_lt (8 * i) (offset + count) ≡ true → ⊥
not_behind i offset count less is = grind (arith, nat_tests, less, is)

outside_false : (i offset count : ℕ) → IsOutside i offset count → (nat_lt offset (8 * i + 8) && nat_lt (8 * i) (offset + count)) ≡ true → ⊥
outside_false i offset count out is =
    ⊎_elim
    (λ (less : 8 * i + 8 ≤ offset). not_before i offset less (and_first (nat_lt offset (8 * i + 8)) (nat_lt (8 * i) (offset + count)) is))
    (λ (less : offset + count ≤ 8 * i). not_behind i offset count less (and_second (nat_lt offset (8 * i + 8)) (nat_lt (8 * i) (offset + count)) is))
    out

slot_outside : (v : Value) (i offset count : ℕ) (e : Eight) → IsOutside i offset count → Has v (whole_in e) → Has v (whole_in (stored_eight (8 * i) offset count e))
unfolding stored_eight
slot_outside v i offset count e out h =
    by_eight (λ (x : Eight). Has v (whole_in x)) (nat_lt offset (8 * i + 8) && nat_lt (8 * i) (offset + count)) (Marked (marks_stored (8 * i) offset count (marks_of e))) e
    (λ is. absurd (outside_false i offset count out is)) (λ differ. h)

store_spares : (f : Fact) (offset count : ℕ) (s : Situation) → IsSpared offset count f → Entails s f → Entails (after s (stored offset count s.slots)) f
unfolding is_set
store_spares (Holds (Register r) v) offset count s spared h = h
store_spares (Holds (Slot j) v) offset count s spared h = slot_outside v j offset count (s.slots j) spared h
store_spares (Long region n) offset count s spared h = h
store_spares (Stored at) offset count s spared h = byte_stays (8 * (at / 8)) offset count (at % 8) (s.slots (at / 8)) (few_eighth at) h

store_sets : (at offset count : ℕ) (s : Situation) → offset ≤ at → at < offset + count → is_set (stored offset count s.slots) at ≡ true
unfolding is_set
store_sets at offset count s low high = byte_now (8 * (at / 8)) offset count (at % 8) (s.slots (at / 8)) (few_eighth at) (omega (arith, low)) (omega (arith, high))

-- ---- stores
store_on : (profile : Profile) (f : Fact) (size : Size) (base : ℕ) (offset : ℤ) (operand : Operand) (s : Situation) (p n : ℕ) → s.registers base ≡ Some (InStack p) → (p + cast_unsigned w64 offset) % 2 ^ 64 ≡ n → n + bytes_in size ≤ 512 → ((value : Content) → operand_of s.registers operand ≡ Ok value → OnSituation f (answer_of (with_slots s) (stored_at s.slots (bytes_in size) value n))) → OnSituation f (stepped profile (Store size base offset operand) s)
unfolding stepped store written
store_on profile f size base offset operand s p n eb at few each =
    then_keeps f (read (s.registers base))
    (λ a. then_answer (λ value. answer_of (with_slots s) (written s.slots a (cast_unsigned w64 offset) (bytes_in size) value)) (operand_of s.registers operand))
    (λ a ea. then_keeps f (operand_of s.registers operand) (λ value. answer_of (with_slots s) (written s.slots a (cast_unsigned w64 offset) (bytes_in size) value))
    (λ value ev. subst (λ (z : Content). OnSituation f (answer_of (with_slots s) (written s.slots z (cast_unsigned w64 offset) (bytes_in size) value))) (sym (read_content (s.registers base) (InStack p) a eb ea))
    (subst (λ (r : Result ℕ Refusal). OnSituation f (answer_of (with_slots s) (then_answer (stored_at s.slots (bytes_in size) value) r))) (sym (stack_at p (cast_unsigned w64 offset) (bytes_in size) n at few))
    (each value ev))))

whole_true : (n : ℕ) → n % 8 ≡ 0 → is_whole n 8 ≡ true
whole_true n is = let yes : nat_eq (n % 8) 0 ≡ true = grind (arith, nat_tests, is) in yes

abbrev stored_if : Bool → Slots → ℕ → ℕ → Content → Result Slots Refusal
stored_if b slots n count value = if b then Ok (spilled (n / 8) value slots) else bytes_stored slots n count value

spill_on : (f : Fact) (s : Situation) (n : ℕ) (value : Content) → n % 8 ≡ 0 → Entails (after s (spilled (n / 8) value s.slots)) f → OnSituation f (answer_of (with_slots s) (stored_at s.slots 8 value n))
spill_on f s n value is h = subst (λ (b : Bool). OnSituation f (answer_of (with_slots s) (stored_if b s.slots n 8 value))) (sym (whole_true n is)) h

bytes_on : (f : Fact) (s : Situation) (n count : ℕ) (a : Estimate) → is_whole n count ≡ false → Entails (after s (stored n count s.slots)) f → OnSituation f (answer_of (with_slots s) (stored_at s.slots count (ANumber a) n))
bytes_on f s n count a is h = subst (λ (b : Bool). OnSituation f (answer_of (with_slots s) (stored_if b s.slots n count (ANumber a)))) (sym is) h

number_on : (f : Fact) (r : Result Content Refusal) (x : Estimate) (value : Content) (P : Content → Type 0) → r ≡ Ok (ANumber x) → r ≡ Ok value → P (ANumber x) → P value
number_on f r x value P ex ev h = subst P (sym (one_read r (ANumber x) value ex ev)) h

pub spill_gives : (profile : Profile) (base : ℕ) (offset : ℤ) (operand : Operand) (s : Situation) (p n : ℕ) (v : Value) → s.registers base ≡ Some (InStack p) → (p + cast_unsigned w64 offset) % 2 ^ 64 ≡ n → n + 8 ≤ 512 → n % 8 ≡ 0 → ((value : Content) → operand_of s.registers operand ≡ Ok value → Has v (Some value)) → OnSituation (Holds (Slot (n / 8)) v) (stepped profile (Store Double base offset operand) s)
spill_gives profile base offset operand s p n v eb at few is has =
    store_on profile (Holds (Slot (n / 8)) v) Double base offset operand s p n eb at few
    (λ value ev. spill_on (Holds (Slot (n / 8)) v) s n value is (spill_here v (n / 8) value s (has value ev)))

pub spill_keeps : (profile : Profile) (f : Fact) (base : ℕ) (offset : ℤ) (operand : Operand) (s : Situation) (p n : ℕ) → s.registers base ≡ Some (InStack p) → (p + cast_unsigned w64 offset) % 2 ^ 64 ≡ n → n + 8 ≤ 512 → n % 8 ≡ 0 → IsBeside (n / 8) f → Entails s f → OnSituation f (stepped profile (Store Double base offset operand) s)
spill_keeps profile f base offset operand s p n eb at few is beside h =
    store_on profile f Double base offset operand s p n eb at few (λ value ev. spill_on f s n value is (spill_beside f (n / 8) value s beside h))

pub spill_sets : (profile : Profile) (base : ℕ) (offset : ℤ) (operand : Operand) (s : Situation) (p n byte : ℕ) (x : Estimate) → s.registers base ≡ Some (InStack p) → (p + cast_unsigned w64 offset) % 2 ^ 64 ≡ n → n + 8 ≤ 512 → n % 8 ≡ 0 → operand_of s.registers operand ≡ Ok (ANumber x) → (byte / 8 ≢ n / 8 → Entails s (Stored byte)) → OnSituation (Stored byte) (stepped profile (Store Double base offset operand) s)
spill_sets profile base offset operand s p n byte x eb at few is ex h =
    store_on profile (Stored byte) Double base offset operand s p n eb at few
    (λ value ev. number_on (Stored byte) (operand_of s.registers operand) x value (λ z. OnSituation (Stored byte) (answer_of (with_slots s) (stored_at s.slots 8 z n))) ex ev
    (spill_on (Stored byte) s n (ANumber x) is (spill_number byte (n / 8) x s h)))

pub bytes_keep : (profile : Profile) (f : Fact) (size : Size) (base : ℕ) (offset : ℤ) (operand : Operand) (s : Situation) (p n : ℕ) (x : Estimate) → s.registers base ≡ Some (InStack p) → (p + cast_unsigned w64 offset) % 2 ^ 64 ≡ n → n + bytes_in size ≤ 512 → is_whole n (bytes_in size) ≡ false → operand_of s.registers operand ≡ Ok (ANumber x) → IsSpared n (bytes_in size) f → Entails s f → OnSituation f (stepped profile (Store size base offset operand) s)
bytes_keep profile f size base offset operand s p n x eb at few is ex spared h =
    store_on profile f size base offset operand s p n eb at few
    (λ value ev. number_on f (operand_of s.registers operand) x value (λ z. OnSituation f (answer_of (with_slots s) (stored_at s.slots (bytes_in size) z n))) ex ev
    (bytes_on f s n (bytes_in size) x is (store_spares f n (bytes_in size) s spared h)))

pub bytes_set : (profile : Profile) (size : Size) (base : ℕ) (offset : ℤ) (operand : Operand) (s : Situation) (p n byte : ℕ) (x : Estimate) → s.registers base ≡ Some (InStack p) → (p + cast_unsigned w64 offset) % 2 ^ 64 ≡ n → n + bytes_in size ≤ 512 → is_whole n (bytes_in size) ≡ false → operand_of s.registers operand ≡ Ok (ANumber x) → n ≤ byte → byte < n + bytes_in size → OnSituation (Stored byte) (stepped profile (Store size base offset operand) s)
bytes_set profile size base offset operand s p n byte x eb at few is ex low high =
    store_on profile (Stored byte) size base offset operand s p n eb at few
    (λ value ev. number_on (Stored byte) (operand_of s.registers operand) x value (λ z. OnSituation (Stored byte) (answer_of (with_slots s) (stored_at s.slots (bytes_in size) z n))) ex ev
    (bytes_on (Stored byte) s n (bytes_in size) x is (store_sets byte n (bytes_in size) s low high)))

-- ---- loads
filled_gives : (v : Value) (o : Option Content) (unfilled : Result (Option Content) Refusal) → Has v o → OnAnswer v (option_map_or (λ whole. Ok (Some whole)) o unfilled)
filled_gives v None unfilled h = absurd (none_has v h)
filled_gives v (Some c) unfilled h = h

whole_taken : (slots : Slots) (n : ℕ) → n % 8 ≡ 0 → whole_at slots (Ok n) ≡ whole_in (slots (n / 8))
whole_taken slots n is = let yes : nat_eq (n % 8) 0 ≡ true = grind (arith, nat_tests, is) in rw yes refl

pub whole_is : (slots : Slots) (p offset n : ℕ) → (p + offset) % 2 ^ 64 ≡ n → n + 8 ≤ 512 → n % 8 ≡ 0 → filled slots (InStack p) offset Double ≡ whole_in (slots (n / 8))
unfolding filled
whole_is slots p offset n at few is =
    ap (λ (r : Result ℕ Refusal). whole_at slots r) (stack_at p offset 8 n at few) ∙ whole_taken slots n is

fill_loaded : (profile : Profile) (slots : Slots) (least : Least) (p offset n : ℕ) (v : Value) → (p + offset) % 2 ^ 64 ≡ n → n + 8 ≤ 512 → n % 8 ≡ 0 → Has v (whole_in (slots (n / 8))) → OnAnswer v (loaded profile slots least (InStack p) offset Double)
unfolding loaded
fill_loaded profile slots least p offset n v at few is h =
    filled_gives v (filled slots (InStack p) offset Double) (answer_of (a_number (any_of Double)) (readable profile slots least (InStack p) offset (bytes_in Double)))
    (subst (λ (o : Option Content). Has v o) (sym (whole_is slots p offset n at few is)) h)

pub fill_gives : (profile : Profile) (d base : ℕ) (offset : ℤ) (s : Situation) (p n : ℕ) (v : Value) → s.registers base ≡ Some (InStack p) → (p + cast_unsigned w64 offset) % 2 ^ 64 ≡ n → n + 8 ≤ 512 → n % 8 ≡ 0 → Has v (whole_in (s.slots (n / 8))) → OnSituation (Holds (Register d) v) (stepped profile (Load Double d base offset) s)
fill_gives profile d base offset s p n v eb at few is h =
    load_gives profile Double d base offset s v (InStack p) eb (fill_loaded profile s.slots s.least p (cast_unsigned w64 offset) n v at few is h)

-- fewer than eight bytes are a number
part_loaded : (profile : Profile) (slots : Slots) (least : Least) (p offset : ℕ) (size : Size) → (size ≡ Double → ⊥) → OnAnswer (Of Number (AtMost (256 ^ bytes_in size - 1))) (loaded profile slots least (InStack p) offset size)
unfolding loaded filled
part_loaded profile slots least p offset Byte differs = number_read Byte (readable profile slots least (InStack p) offset (bytes_in Byte))
part_loaded profile slots least p offset Half differs = number_read Half (readable profile slots least (InStack p) offset (bytes_in Half))
part_loaded profile slots least p offset Word differs = number_read Word (readable profile slots least (InStack p) offset (bytes_in Word))
part_loaded profile slots least p offset Double differs = absurd (differs refl)

pub part_gives : (profile : Profile) (size : Size) (d base : ℕ) (offset : ℤ) (s : Situation) (p : ℕ) → (size ≡ Double → ⊥) → s.registers base ≡ Some (InStack p) → OnSituation (Holds (Register d) (Of Number (AtMost (256 ^ bytes_in size - 1)))) (stepped profile (Load size d base offset) s)
part_gives profile size d base offset s p differs eb =
    load_gives profile size d base offset s (Of Number (AtMost (256 ^ bytes_in size - 1))) (InStack p) eb (part_loaded profile s.slots s.least p (cast_unsigned w64 offset) size differs)

-- bytes that were stored may be loaded
all_stored : (slots : Slots) (p count : ℕ) → ((j : ℕ) → j < count → is_set slots (p + j) ≡ true) → are_set slots p count ≡ true
unfolding are_set
all_stored slots p zero each = refl
all_stored slots p (suc count) each =
    and_true (are_set slots p count) (is_set slots (p + count)) (all_stored slots p count (λ j less. each j (omega (arith, less)))) (each count (omega arith))

abbrev let_through : Bool → Result ⊤ Refusal
let_through b = if b then Ok tt else Err StackUnset

pub stored_readable : (profile : Profile) (slots : Slots) (least : Least) (p offset count n : ℕ) → (p + offset) % 2 ^ 64 ≡ n → n + count ≤ 512 → ((j : ℕ) → j < count → is_set slots (n + j) ≡ true) → readable profile slots least (InStack p) offset count ≡ Ok tt
unfolding readable
stored_readable profile slots least p offset count n at few each =
    ap (λ (r : Result ℕ Refusal). then_answer (set_there slots count) r) (stack_at p offset count n at few)
    ∙ ap let_through (all_stored slots n count each)
