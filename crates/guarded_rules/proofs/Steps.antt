-- Facts past an instruction that is no comparison.
use Rattle.std.proofs.Common.{◌≡◌, ℕ, ℤ, ◌+◌, ◌-◌, ◌%◌, ◌^◌, ◌<◌, ◌≤◌, nat_le, ◌||◌, Bool, true, false, Option, Some, None, Result, Ok, Err, refl, sym, ap, ◌∙◌, subst, arith}
use Rattle.std.specs.Prelude.{⊤}
use Rattle.std.specs.Option.{option_map_or}
use Rattle.std.specs.Int.{cast_unsigned, w64}
use Rattle.std.proofs.lemmas.Bool.Decides.{nat_tests}
use Rattle.span_context.specs.declared.profile.Profile.{Profile}
use Rattle.span_context.specs.declared.size.Size.{Size}
use Rattle.span_context.specs.declared.context_field.ContextField.{ContextField}
use Rattle.span_context.specs.ContextField.{offset_of, size_of}
use Rattle.bpf_words.specs.declared.instruction.Insn.{Insn}
use Rattle.bpf_words.specs.declared.instruction.Insn.TheVariants.{Compute, Negate, Extend, Convert, Jump, JumpLong, Branch, Load, LoadSigned, Store, LoadWide, Exit}
use Rattle.bpf_words.specs.declared.instruction.Arithmetic.{Arithmetic}
use Rattle.bpf_words.specs.declared.instruction.Arithmetic.TheVariants as is
use Rattle.bpf_words.specs.declared.instruction.Operand.{Operand}
use Rattle.bpf_words.specs.declared.instruction.Width.{Width}
use Rattle.bpf_words.specs.declared.instruction.Width.TheVariants.{Full}
use Rattle.semantics.specs.Value.{bits_of}
use Rattle.semantics.specs.Memory.{bytes_in, bytes_in_signed}
use Rattle.abstract_state.specs.declared.region.Region.{Region}
use Rattle.abstract_state.specs.declared.refusal.Refusal.{Refusal}
use Rattle.abstract_state.specs.Lent.{tail_of}
use Rattle.abstract_state.specs.Estimate.{Estimate, constant, unknown}
use Rattle.abstract_state.specs.Addresses.{Content, ANumber, InContext, InRegion, answer_of, then_answer, computed, moved, replaced, converted, width_of}
use Rattle.abstract_state.specs.Stacks.{Slots}
use Rattle.abstract_state.specs.Loading.{any_of, a_number, place, ends_by_tail, reaches, readable, filled, loaded, written}
use Rattle.abstract_state.specs.Situation.{Situation, Least, read, operand_of}
use Rattle.abstract_state.specs.Stepping.{into, made, compute, arithmetic, with_slots, store, exit, stepped}
use Rattle.guarded_rules.specs.Facts.{Register, Slot, Kind, Number, AddressIn, Property, Any, AtMost, Value, Of, Fact, Holds, Long, Stored}
use Rattle.guarded_rules.specs.Says.{of_kind, greatest, HasTail, HasProperty, Says, Has, Entails, EntailsIn, OnAnswer, OnSituation}
use Rattle.guarded_rules.specs.Sums.{Sums}
use Rattle.guarded_rules.specs.Values.{IsRead, Adding, Fields}
use Rattle.guarded_rules.specs.Steps.{IsElsewhere, IsOffStack, Spares, Reaches, ahead_by_tail, ahead_by_length, back_by_tail, back_by_length}
use Rattle.guarded_rules.proofs.Sums.{added_says}
use Rattle.guarded_rules.proofs.Places.{put_elsewhere, put_here}
use Rattle.guarded_rules.proofs.Values.{adds_on, numbers_on, moved_on, fields_on, field_is, number_kind, any_says}

-- ---- a register is written
answer_keeps : (f : Fact) (d : ℕ) (s : Situation) (a : Result (Option Content) Refusal) → IsElsewhere d f → Entails s f → OnSituation f (answer_of (into d s) a)
answer_keeps f d s (Ok None) apart h = tt
answer_keeps f d s (Ok (Some c)) apart h = put_elsewhere f d c s apart h
answer_keeps f d s (Err fault) apart h = tt

answer_gives : (v : Value) (d : ℕ) (s : Situation) (a : Result (Option Content) Refusal) → OnAnswer v a → OnSituation (Holds (Register d) v) (answer_of (into d s) a)
answer_gives v d s (Ok None) h = tt
answer_gives v d s (Ok (Some c)) h = put_here v d c s h
answer_gives v d s (Err fault) h = tt

made_keeps : (f : Fact) (d : ℕ) (s : Situation) (g : Content → Result (Option Content) Refusal) (r : Result Content Refusal) → IsElsewhere d f → Entails s f → OnSituation f (made d s g r)
unfolding made
made_keeps f d s g r apart h = answer_keeps f d s (then_answer g r) apart h

pub made_gives : (v : Value) (d : ℕ) (s : Situation) (g : Content → Result (Option Content) Refusal) (r : Result Content Refusal) → ((c : Content) → r ≡ Ok c → OnAnswer v (g c)) → OnSituation (Holds (Register d) v) (made d s g r)
unfolding made
made_gives v d s g (Ok c) each = answer_gives v d s (g c) (each c refl)
made_gives v d s g (Err fault) each = tt

pub then_keeps : (f : Fact) (r : Result Content Refusal) (g : Content → Result (Option Situation) Refusal) → ((c : Content) → r ≡ Ok c → OnSituation f (g c)) → OnSituation f (then_answer g r)
then_keeps f (Ok c) g each = each c refl
then_keeps f (Err fault) g each = tt

-- ---- what an instruction spares stays
compute_keeps : (profile : Profile) (width : Width) (operation : Arithmetic) (d : ℕ) (operand : Operand) (s : Situation) (f : Fact) → IsElsewhere d f → Entails s f → OnSituation f (compute profile width operation d operand s)
unfolding compute
compute_keeps profile width operation d operand s f apart h =
    then_keeps f (read (s.registers d)) (λ a. made d s (computed profile operation width a) (operand_of s.registers operand))
    (λ c is. made_keeps f d s (computed profile operation width c) (operand_of s.registers operand) apart h)

arithmetic_keeps : (profile : Profile) (width : Width) (operation : Arithmetic) (d : ℕ) (operand : Operand) (s : Situation) (f : Fact) → IsElsewhere d f → Entails s f → OnSituation f (arithmetic profile width operation d operand s)
unfolding arithmetic
arithmetic_keeps profile width is.Mov d operand s f apart h = made_keeps f d s (moved width) (operand_of s.registers operand) apart h
arithmetic_keeps profile width operation d operand s f apart h = compute_keeps profile width operation d operand s f apart h

slots_keep : (f : Fact) (s : Situation) (slots : Slots) → IsOffStack f → Entails s f → EntailsIn (with_slots s slots) f
slots_keep (Holds (Register r) v) s slots off h = h
slots_keep (Holds (Slot i) v) s slots off h = absurd off
slots_keep (Long region n) s slots off h = h
slots_keep (Stored at) s slots off h = absurd off

written_keeps : (f : Fact) (s : Situation) (r : Result Slots Refusal) → IsOffStack f → Entails s f → OnSituation f (answer_of (with_slots s) r)
written_keeps f s (Ok slots) off h = slots_keep f s slots off h
written_keeps f s (Err fault) off h = tt

store_keeps : (size : Size) (base : ℕ) (offset : ℤ) (operand : Operand) (s : Situation) (f : Fact) → IsOffStack f → Entails s f → OnSituation f (store size base offset operand s)
unfolding store
store_keeps size base offset operand s f off h =
    then_keeps f (read (s.registers base))
    (λ a. then_answer (λ value. answer_of (with_slots s) (written s.slots a (cast_unsigned w64 offset) (bytes_in size) value)) (operand_of s.registers operand))
    (λ a ea. then_keeps f (operand_of s.registers operand) (λ value. answer_of (with_slots s) (written s.slots a (cast_unsigned w64 offset) (bytes_in size) value))
    (λ value ev. written_keeps f s (written s.slots a (cast_unsigned w64 offset) (bytes_in size) value) off h))

exit_keeps : (f : Fact) (s : Situation) (r : Result ⊤ Refusal) → Entails s f → OnSituation f (answer_of (λ done. Some s) r)
exit_keeps f s (Ok done) h = h
exit_keeps f s (Err fault) h = tt

pub step_keeps : (profile : Profile) (insn : Insn) (s : Situation) (f : Fact) → Spares insn f → Entails s f → OnSituation f (stepped profile insn s)
unfolding stepped
step_keeps profile (Compute width operation d operand) s f apart h = arithmetic_keeps profile width operation d operand s f apart h
step_keeps profile (Negate width d) s f apart h = made_keeps f d s (replaced width) (read (s.registers d)) apart h
step_keeps profile (Extend extension d source) s f apart h = made_keeps f d s (replaced (width_of extension)) (read (s.registers source)) apart h
step_keeps profile (Convert conversion bits d) s f apart h = made_keeps f d s (λ a. answer_of Some (converted bits a)) (read (s.registers d)) apart h
step_keeps profile (Jump distance) s f apart h = h
step_keeps profile (JumpLong distance) s f apart h = h
step_keeps profile (Branch width comparison left right distance) s f apart h = tt
step_keeps profile (Load size d base offset) s f apart h = made_keeps f d s (λ a. loaded profile s.slots s.least a (cast_unsigned w64 offset) size) (read (s.registers base)) apart h
step_keeps profile (LoadSigned size d base offset) s f apart h = made_keeps f d s (λ a. answer_of (a_number (unknown Full)) (readable profile s.slots s.least a (cast_unsigned w64 offset) (bytes_in_signed size))) (read (s.registers base)) apart h
step_keeps profile (Store size base offset value) s f apart h = store_keeps size base offset value s f apart h
step_keeps profile (LoadWide d value) s f apart h = put_elsewhere f d (ANumber (constant value)) s apart h
step_keeps profile Exit s f apart h = exit_keeps f s (exit s) h

-- ---- moves and sums of 64 bits
read_has : (v : Value) (r : Result Content Refusal) (c : Content) → IsRead v r → r ≡ Ok c → Has v (Some c)
read_has v r c h is = subst (λ (q : Result Content Refusal). IsRead v q) is h

pub move_gives : (profile : Profile) (d : ℕ) (operand : Operand) (s : Situation) (v : Value) → IsRead v (operand_of s.registers operand) → OnSituation (Holds (Register d) v) (stepped profile (Compute Full is.Mov d operand) s)
unfolding stepped arithmetic
move_gives profile d operand s v h =
    made_gives v d s (moved Full) (operand_of s.registers operand) (λ c is. moved_on v c (read_has v (operand_of s.registers operand) c h is))

pub read_content : (o : Option Content) (a c : Content) → o ≡ Some a → read o ≡ Ok c → c ≡ a
read_content None a c is was = absurd (cc)
read_content (Some x) a c is was = cc

pub one_read : (r : Result Content Refusal) (a c : Content) → r ≡ Ok a → r ≡ Ok c → c ≡ a
one_read r a c is was = cc

-- of a register and an operand, each of one kind
pub computed_gives : (profile : Profile) (width : Width) (operation : Arithmetic) (d : ℕ) (operand : Operand) (s : Situation) (v : Value) (a b : Content) → s.registers d ≡ Some a → operand_of s.registers operand ≡ Ok b → OnAnswer v (computed profile operation width a b) → OnSituation (Holds (Register d) v) (compute profile width operation d operand s)
unfolding compute
computed_gives profile width operation d operand s v a b ea eb h =
    then_keeps (Holds (Register d) v) (read (s.registers d)) (λ x. made d s (computed profile operation width x) (operand_of s.registers operand))
    (λ x ex. made_gives v d s (computed profile operation width x) (operand_of s.registers operand)
    (λ y ey. subst (λ (z : Content). OnAnswer v (computed profile operation width z y)) (sym (read_content (s.registers d) a x ea ex))
    (subst (λ (z : Content). OnAnswer v (computed profile operation width a z)) (sym (one_read (operand_of s.registers operand) b y eb ey)) h)))

pub kind_word : (k : Kind) (n : ℕ) → n ≤ greatest k → n < 2 ^ 64
kind_word Number n few = omega (arith, few)
kind_word (AddressIn r) n few = omega (arith, few)

pub add_gives : (profile : Profile) (d : ℕ) (operand : Operand) (s : Situation) (k l m : Kind) (p : Property) (x y : Estimate) → Adding k l m → s.registers d ≡ Some (of_kind k x) → operand_of s.registers operand ≡ Ok (of_kind l y) → Says k Any x → Says l Any y → Sums profile Full (λ q. HasProperty q x) (λ q. HasProperty q y) p → OnSituation (Holds (Register d) (Of m p)) (stepped profile (Compute Full is.Add d operand) s)
unfolding stepped arithmetic
add_gives profile d operand s k l m p x y kinds ex ey one two sums =
    computed_gives profile Full is.Add d operand s (Of m p) (of_kind k x) (of_kind l y) ex ey
    (adds_on profile k l m p x y kinds (added_says profile Full p x y two.proper (kind_word k x.range.high one.word) sums))

no_move : (profile : Profile) (width : Width) (operation : Arithmetic) (d : ℕ) (operand : Operand) (s : Situation) (f : Fact) → (operation ≡ is.Mov → ⊥) → OnSituation f (compute profile width operation d operand s) → OnSituation f (arithmetic profile width operation d operand s)
unfolding arithmetic
no_move profile width is.Mov d operand s f differs h = absurd (differs refl)
no_move profile width operation d operand s f differs h = h

pub number_gives : (profile : Profile) (width : Width) (operation : Arithmetic) (d : ℕ) (operand : Operand) (s : Situation) (x y : Estimate) → (operation ≡ is.Mov → ⊥) → s.registers d ≡ Some (ANumber x) → operand_of s.registers operand ≡ Ok (ANumber y) → Says Number Any x → Says Number Any y → OnSituation (Holds (Register d) (Of Number (AtMost (2 ^ bits_of width - 1)))) (stepped profile (Compute width operation d operand) s)
unfolding stepped
number_gives profile width operation d operand s x y differs ex ey one two =
    no_move profile width operation d operand s (Holds (Register d) (Of Number (AtMost (2 ^ bits_of width - 1)))) differs
    (computed_gives profile width operation d operand s (Of Number (AtMost (2 ^ bits_of width - 1))) (ANumber x) (ANumber y) ex ey (numbers_on profile operation width x y one two))

pub wide_gives : (profile : Profile) (d value : ℕ) (s : Situation) (v : Value) → Has v (Some (ANumber (constant value))) → OnSituation (Holds (Register d) v) (stepped profile (LoadWide d value) s)
unfolding stepped
wide_gives profile d value s v h = put_here v d (ANumber (constant value)) s h

-- ---- loads
pub load_gives : (profile : Profile) (size : Size) (d base : ℕ) (offset : ℤ) (s : Situation) (v : Value) (a : Content) → s.registers base ≡ Some a → OnAnswer v (loaded profile s.slots s.least a (cast_unsigned w64 offset) size) → OnSituation (Holds (Register d) v) (stepped profile (Load size d base offset) s)
unfolding stepped
load_gives profile size d base offset s v a ea h =
    made_gives v d s (λ x. loaded profile s.slots s.least x (cast_unsigned w64 offset) size) (read (s.registers base))
    (λ x ex. subst (λ (z : Content). OnAnswer v (loaded profile s.slots s.least z (cast_unsigned w64 offset) size)) (sym (read_content (s.registers base) a x ea ex)) h)

field_loaded : (profile : Profile) (slots : Slots) (least : Least) (start offset : ℕ) (f : ContextField) (k : Kind) (p : Property) → (start + offset) % 2 ^ 64 ≡ offset_of f → offset_of f ≤ start + 2 ^ 16 → Fields profile f k p → OnAnswer (Of k p) (loaded profile slots least (InContext start) offset (size_of f))
unfolding loaded
field_loaded profile slots least start offset f k p at few gives =
    subst (λ (r : Result (Option Content) Refusal). OnAnswer (Of k p) r) (sym (field_is profile start offset f at few)) (fields_on profile f k p gives)

pub field_gives : (profile : Profile) (d base : ℕ) (offset : ℤ) (s : Situation) (start : ℕ) (f : ContextField) (k : Kind) (p : Property) → s.registers base ≡ Some (InContext start) → (start + cast_unsigned w64 offset) % 2 ^ 64 ≡ offset_of f → offset_of f ≤ start + 2 ^ 16 → Fields profile f k p → OnSituation (Holds (Register d) (Of k p)) (stepped profile (Load (size_of f) d base offset) s)
field_gives profile d base offset s start f k p there at few gives =
    load_gives profile (size_of f) d base offset s (Of k p) (InContext start) there (field_loaded profile s.slots s.least start (cast_unsigned w64 offset) f k p at few gives)

pub number_read : (size : Size) (r : Result ⊤ Refusal) → OnAnswer (Of Number (AtMost (256 ^ bytes_in size - 1))) (answer_of (a_number (any_of size)) r)
number_read size (Ok done) = number_kind (AtMost (256 ^ bytes_in size - 1)) (any_of size) (any_says size)
number_read size (Err fault) = tt

byte_loaded : (profile : Profile) (slots : Slots) (least : Least) (region : Region) (a : Estimate) (offset : ℕ) (size : Size) → OnAnswer (Of Number (AtMost (256 ^ bytes_in size - 1))) (loaded profile slots least (InRegion region a) offset size)
unfolding loaded filled
byte_loaded profile slots least region a offset size = number_read size (readable profile slots least (InRegion region a) offset (bytes_in size))

pub bytes_give : (profile : Profile) (size : Size) (d base : ℕ) (offset : ℤ) (s : Situation) (region : Region) (a : Estimate) → s.registers base ≡ Some (InRegion region a) → OnSituation (Holds (Register d) (Of Number (AtMost (256 ^ bytes_in size - 1)))) (stepped profile (Load size d base offset) s)
bytes_give profile size d base offset s region a there =
    load_gives profile size d base offset s (Of Number (AtMost (256 ^ bytes_in size - 1))) (InRegion region a) there (byte_loaded profile s.slots s.least region a (cast_unsigned w64 offset) size)

-- ---- a load that is let through
or_left : (a b : Bool) → a ≡ true → (a || b) ≡ true
or_left a b h = cc

or_right : (a b : Bool) → b ≡ true → (a || b) ≡ true
or_right true b h = refl
or_right false b h = h

place_at : (low offset n : ℕ) → (low + offset) % 2 ^ 64 ≡ n → n ≤ low + 2 ^ 16 → place low offset ≡ Some n
unfolding place
place_at low offset n at few =
    let yes : nat_le ((low + offset) % 2 ^ 64) (low + 2 ^ 16) ≡ true = grind (arith, nat_tests, at, few) in
    rw yes (ap (λ (m : ℕ). Some m) at)

ends : (low end n : ℕ) (t : Option ℕ) → HasTail n t → end ≤ low + n → ends_by_tail low end t ≡ true
ends low end n None h few = absurd h
ends low end n (Some t) h few = grind (arith, nat_tests, h, few)

abbrev inside : ℕ → Region → Estimate → ℕ → ℕ → Bool
inside least region a count n = nat_le (n + count + (a.range.high - a.range.low)) least || ends_by_tail a.range.low (n + count) (tail_of a.tails region)

reach_at : (least : ℕ) (region : Region) (a : Estimate) (offset count n : ℕ) → place a.range.low offset ≡ Some n → inside least region a count n ≡ true → reaches least region a offset count ≡ true
unfolding reaches
reach_at least region a offset count n there h = ap (λ (o : Option ℕ). option_map_or (inside least region a count) o false) there ∙ h

by_tail : (least : ℕ) (region : Region) (a : Estimate) (count n t : ℕ) → HasTail t (tail_of a.tails region) → n + count ≤ a.range.low + t → inside least region a count n ≡ true
by_tail least region a count n t h few =
    or_right (nat_le (n + count + (a.range.high - a.range.low)) least) (ends_by_tail a.range.low (n + count) (tail_of a.tails region)) (ends a.range.low (n + count) t (tail_of a.tails region) h few)

by_length : (least : ℕ) (region : Region) (a : Estimate) (count n : ℕ) → n + count + (a.range.high - a.range.low) ≤ least → inside least region a count n ≡ true
by_length least region a count n few =
    or_left (nat_le (n + count + (a.range.high - a.range.low)) least) (ends_by_tail a.range.low (n + count) (tail_of a.tails region)) (grind (arith, nat_tests, few))

wrapped : (low offset : ℕ) → low + offset < 2 ^ 64 → (low + offset) % 2 ^ 64 ≡ low + offset
wrapped low offset few = omega (arith, few)

back_at : (low offset back : ℕ) → offset + back ≡ 2 ^ 64 → back ≤ low → low < 2 ^ 64 → (low + offset) % 2 ^ 64 ≡ low - back
back_at low offset back is less few = omega (arith, is, less, few)

pub reaches_say : (least : ℕ) (region : Region) (a : Estimate) (offset count : ℕ) → a.range.low ≤ a.range.high → a.range.high ≤ 2 ^ 20 → Reaches region (λ q. HasProperty q a) (λ n. n ≤ least) offset count → reaches least region a offset count ≡ true
reaches_say least region a offset count proper near (ahead_by_tail n few tail fits) =
    let at : (a.range.low + offset) % 2 ^ 64 ≡ a.range.low + offset = wrapped a.range.low offset (omega (arith, proper, near, few)) in
    reach_at least region a offset count (a.range.low + offset) (place_at a.range.low offset (a.range.low + offset) at (omega (arith, few)))
    (by_tail least region a count (a.range.low + offset) n tail (omega (arith, fits)))
reaches_say least region a offset count proper near (ahead_by_length m n few high long fits) =
    let at : (a.range.low + offset) % 2 ^ 64 ≡ a.range.low + offset = wrapped a.range.low offset (omega (arith, proper, near, few)) in
    reach_at least region a offset count (a.range.low + offset) (place_at a.range.low offset (a.range.low + offset) at (omega (arith, few)))
    (by_length least region a count (a.range.low + offset) (omega (arith, proper, high, long, fits)))
reaches_say least region a offset count proper near (back_by_tail back n is low tail fits) =
    let at : (a.range.low + offset) % 2 ^ 64 ≡ a.range.low - back = back_at a.range.low offset back is low (omega (arith, proper, near)) in
    reach_at least region a offset count (a.range.low - back) (place_at a.range.low offset (a.range.low - back) at (omega arith))
    (by_tail least region a count (a.range.low - back) n tail (omega (arith, low, fits)))
reaches_say least region a offset count proper near (back_by_length back m n is low high long fits) =
    let at : (a.range.low + offset) % 2 ^ 64 ≡ a.range.low - back = back_at a.range.low offset back is low (omega (arith, proper, near)) in
    reach_at least region a offset count (a.range.low - back) (place_at a.range.low offset (a.range.low - back) at (omega arith))
    (by_length least region a count (a.range.low - back) (omega (arith, proper, low, high, long, fits)))
