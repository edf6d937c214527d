-- The second slot of a wide load never reads as an instruction.
use Rattle.std.proofs.Common.{◌≡◌, ℕ, zero, suc, ◌+◌, ◌*◌, ◌/◌, ◌%◌, ◌^◌, ◌<◌, ◌||◌, if◌then◌else◌, List, length, map, slice_get, Option, Some, None, Result, Ok, Err, Bool, true, false, refl, ap, ◌∙◌, add-one, add-zero, arith, rules}
use Rattle.std.proofs.lemmas.List.FromFn.{length-map-range_with_len}
use Rattle.std.proofs.lemmas.Bool.Decides.{nat_tests}
use Rattle.std.specs.List.{range_with_len}
use Rattle.bpf_words.specs.declared.fields.Fields.{Fields}
use Rattle.bpf_words.specs.declared.opcode.Opcode.{Opcode}
use Rattle.bpf_words.specs.declared.opcode.Opcode.TheVariants.{Computing, Negating, Converting, Jumping, JumpingLong, Branching, Loading, LoadingSigned, Storing, LoadingWide, Exiting, LeftOut, Undefined}
use Rattle.bpf_words.specs.declared.reading.Chosen.{Chosen}
use Rattle.bpf_words.specs.declared.reading.Chosen.TheVariants.{Plain, Extending}
use Rattle.bpf_words.specs.declared.instruction.Conversion.{Conversion}
use Rattle.bpf_words.specs.declared.instruction.SignedSize.{SignedSize}
use Rattle.bpf_words.specs.declared.instruction.Arithmetic.{Arithmetic}
use Rattle.bpf_words.specs.declared.instruction.Width.{Width}
use Rattle.span_context.specs.declared.size.Size.{Size}
use Rattle.bpf_words.specs.declared.instruction.Comparison.{Comparison}
use Rattle.bpf_words.specs.declared.instruction.Insn.{Insn}
use Rattle.bpf_words.specs.declared.instruction.Insn.TheVariants.{LoadWide}
use Rattle.bpf_words.specs.declared.refusal.SlotFault.{SlotFault}
use Rattle.bpf_words.specs.declared.refusal.SlotFault.TheVariants.{UnknownOpcode, BadRegister, UnusedField, OutOfProfile}
use Rattle.bpf_words.specs.Opcodes.{opcode_of}
use Rattle.bpf_words.specs.Slots.{slot_at, fields_of}
use Rattle.bpf_words.specs.Reading.{Read, reading, refuse_if, with_part, computed, is_set, no_register, arithmetic_in, negation_in, conversion_in, jump_in, long_jump_in, branch_in, load_in, signed_load_in, store_in, wide_load_in, exit_in}
use Rattle.bpf_words.specs.Words.{next_slot, read_at, is_wide, is_second, insn_in, insn_at, program_of}

-- a refusal where a test fails leaves what is no wide load so
pub narrow-refuse_if : (test : Bool) (fault : SlotFault) (rest : Read) → is_wide rest ≡ false → is_wide (refuse_if test fault rest) ≡ false
narrow-refuse_if true fault rest h = refl
narrow-refuse_if false fault rest h = h

pub narrow-with_part : {A : Type 0} (part : Result A SlotFault) (rest : A → Read) → ((a : A) → is_wide (rest a) ≡ false) → is_wide (with_part part rest) ≡ false
narrow-with_part (Ok a) rest h = h a
narrow-with_part (Err fault) rest h = refl

pub narrow-computed : (w : Width) (by_register : Bool) (fields : Fields) (one : Chosen) → is_wide (Ok (computed w by_register fields one)) ≡ false
narrow-computed w by_register fields (Plain operation) = refl
narrow-computed w by_register fields (Extending extension) = refl

-- the second slot that a wide load was read with begins with four bytes of zero
abbrev pub EndsWide : Option ℕ → Type 0
EndsWide next = (second : ℕ) × (next ≡ Some second) × (second % 2 ^ 32 ≡ 0)

pub wide_passed : (test : Bool) (fault : SlotFault) (rest : Read) → is_wide (refuse_if test fault rest) ≡ true → (test ≡ false) × (is_wide rest ≡ true)
wide_passed true fault rest h = absurd (cc)
wide_passed false fault rest h = (refl, h)

pub low_is_zero : (a b : ℕ) → (is_set a || is_set b) ≡ false → b ≡ 0
low_is_zero a b h = grind (arith, nat_tests)

pub wide-ends : (fields : Fields) (next : Option ℕ) → is_wide (wide_load_in fields next) ≡ true → EndsWide next
wide-ends fields None h = absurd (cc)
wide-ends fields (Some second) h =
    let read : Read = Ok (LoadWide fields.destination (second / 2 ^ 32 * 2 ^ 32 + fields.immediate)) in
    let unused : Bool = is_set fields.offset || is_set (second % 2 ^ 32) in
    let past = wide_passed (no_register fields.destination) BadRegister (refuse_if unused UnusedField read) h in
    let here = wide_passed unused UnusedField read past.1 in
    (second, refl, low_is_zero fields.offset (second % 2 ^ 32) here.0)

-- the other opcodes never give a wide load
pub ruleset narrow = (narrow-refuse_if, narrow-with_part, narrow-computed)

narrow-arithmetic : (w : Width) (op : Arithmetic) (by_register : Bool) (fields : Fields) → is_wide (arithmetic_in w op by_register fields) ≡ false
narrow-arithmetic w op by_register fields = search (rules, narrow)

narrow-negation : (w : Width) (fields : Fields) → is_wide (negation_in w fields) ≡ false
narrow-negation w fields = search (rules, narrow)

narrow-conversion : (conversion : Conversion) (fields : Fields) → is_wide (conversion_in conversion fields) ≡ false
narrow-conversion conversion fields = search (rules, narrow)

narrow-jump : (fields : Fields) → is_wide (jump_in fields) ≡ false
narrow-jump fields = search (rules, narrow)

narrow-long_jump : (fields : Fields) → is_wide (long_jump_in fields) ≡ false
narrow-long_jump fields = search (rules, narrow)

narrow-branch : (w : Width) (test : Comparison) (by_register : Bool) (fields : Fields) → is_wide (branch_in w test by_register fields) ≡ false
narrow-branch w test by_register fields = search (rules, narrow)

narrow-load : (size : Size) (fields : Fields) → is_wide (load_in size fields) ≡ false
narrow-load size fields = search (rules, narrow)

narrow-signed_load : (size : SignedSize) (fields : Fields) → is_wide (signed_load_in size fields) ≡ false
narrow-signed_load size fields = search (rules, narrow)

narrow-store : (size : Size) (by_register : Bool) (fields : Fields) → is_wide (store_in size by_register fields) ≡ false
narrow-store size by_register fields = search (rules, narrow)

narrow-exit : (fields : Fields) → is_wide (exit_in fields) ≡ false
narrow-exit fields = search (rules, narrow)

pub reading-ends : (op : Opcode) (fields : Fields) (next : Option ℕ) → is_wide (reading op fields next) ≡ true → EndsWide next
reading-ends (Computing width operation by_register) fields next h = let no = narrow-arithmetic width operation by_register fields in absurd (cc)
reading-ends (Negating width) fields next h = let no = narrow-negation width fields in absurd (cc)
reading-ends (Converting conversion) fields next h = let no = narrow-conversion conversion fields in absurd (cc)
reading-ends Jumping fields next h = let no = narrow-jump fields in absurd (cc)
reading-ends JumpingLong fields next h = let no = narrow-long_jump fields in absurd (cc)
reading-ends (Branching width comparison by_register) fields next h = let no = narrow-branch width comparison by_register fields in absurd (cc)
reading-ends (Loading size) fields next h = let no = narrow-load size fields in absurd (cc)
reading-ends (LoadingSigned size) fields next h = let no = narrow-signed_load size fields in absurd (cc)
reading-ends (Storing size by_register) fields next h = let no = narrow-store size by_register fields in absurd (cc)
reading-ends LoadingWide fields next h =
    wide-ends fields next (wide_passed (is_set fields.source) OutOfProfile (wide_load_in fields next) h).1
reading-ends Exiting fields next h = let no = narrow-exit fields in absurd (cc)
reading-ends LeftOut fields next h = absurd (cc)
reading-ends Undefined fields next h = absurd (cc)

pub byte_of_half : (n : ℕ) → n % 2 ^ 32 ≡ 0 → n % 2 ^ 8 ≡ 0
byte_of_half n h = omega arith

pub next_slot-within : (bytes : List ℕ) (index : ℕ) → index < length bytes / 8 → next_slot bytes index ≡ Some (slot_at bytes index)
next_slot-within bytes index h = grind (arith, nat_tests)

-- a slot that comes after a wide load reads as no instruction
pub after-wide : (bytes : List ℕ) (index : ℕ) → index + 1 < length bytes / 8 → is_wide (read_at bytes index) ≡ true → read_at bytes (index + 1) ≡ Err UnknownOpcode
unfolding read_at
after-wide bytes index within was_wide =
    let ends = reading-ends (opcode_of (slot_at bytes index % 2 ^ 8)) (fields_of (slot_at bytes index)) (next_slot bytes (index + 1)) was_wide in
    let there = next_slot-within bytes (index + 1) within in
    let same : slot_at bytes (index + 1) ≡ ends.0 = let one = ends.1 in cc in
    let low : slot_at bytes (index + 1) % 2 ^ 32 ≡ 0 = ap (λ s. s % 2 ^ 32) same ∙ ends.2 in
    let opcode : slot_at bytes (index + 1) % 2 ^ 8 ≡ 0 = byte_of_half (slot_at bytes (index + 1)) low in
    ap (λ byte. reading (opcode_of byte) (fields_of (slot_at bytes (index + 1))) (next_slot bytes (index + 1 + 1))) opcode

pub second-unknown : (bytes : List ℕ) (index : ℕ) → index < length bytes / 8 → is_second bytes index ≡ true → read_at bytes index ≡ Err UnknownOpcode
unfolding is_second
second-unknown bytes zero within h = absurd (cc)
second-unknown bytes (suc index) within h =
    let was_wide : is_wide (read_at bytes index) ≡ true =
    elim (is_second bytes index) as (λ b. (if b then false else is_wide (read_at bytes index)) ≡ true → is_wide (read_at bytes index) ≡ true) [
      | true ↦ λ e. absurd (cc)
      | false ↦ λ e. e
    ] h in
    rw (← add-one) (after-wide bytes index (omega arith) was_wide)

pub slice_get-range : {X : Type 0} (f : ℕ → X) (a n i : ℕ) → i < n → slice_get (map f (range_with_len a n)) i ≡ Some (f (a + i))
slice_get-range f a zero i h = absurd (omega arith)
slice_get-range f a (suc n) zero h = rw add-zero refl
slice_get-range f a (suc n) (suc i) h =
    let within : i < n = omega arith in
    let same_index : a + 1 + i ≡ a + suc i = omega arith in
    slice_get-range f (a + 1) n i within ∙ ap (λ k. Some (f k)) same_index

pub length-program_of : (bytes : List ℕ) → length (program_of bytes) ≡ length bytes / 8
unfolding program_of
length-program_of bytes = length-map-range_with_len (insn_at bytes) 0 (length bytes / 8)

pub program-entry : (bytes : List ℕ) (index : ℕ) → index < length bytes / 8 → slice_get (program_of bytes) index ≡ Some (insn_at bytes index)
unfolding program_of
program-entry bytes index h =
    let same_index : 0 + index ≡ index = omega arith in
    slice_get-range (insn_at bytes) 0 (length bytes / 8) index h ∙ ap (λ k. Some (insn_at bytes k)) same_index

pub entry-ok : (bytes : List ℕ) (index : ℕ) (insn : Insn) → index < length bytes / 8 → read_at bytes index ≡ Ok insn → slice_get (program_of bytes) index ≡ Some (Some insn)
entry-ok bytes index insn h e =
    program-entry bytes index h
    ∙ elim (is_second bytes index) as (λ b. is_second bytes index ≡ b → Some (insn_in b (read_at bytes index)) ≡ Some (Some insn)) [
      | true ↦ λ second. let bad = second-unknown bytes index h second in absurd (cc)
      | false ↦ λ first. rw e refl
    ] refl

pub entry-err : (bytes : List ℕ) (index : ℕ) (fault : SlotFault) → index < length bytes / 8 → read_at bytes index ≡ Err fault → slice_get (program_of bytes) index ≡ Some None
entry-err bytes index fault h e =
    program-entry bytes index h
    ∙ elim (is_second bytes index) as (λ b. Some (insn_in b (read_at bytes index)) ≡ Some None) [
      | true ↦ refl
      | false ↦ rw e refl
    ]

pub ruleset entries = (entry-ok, entry-err, length-program_of)
