-- An instruction's fields read as it.
use Rattle.std.proofs.Common.{◌≡◌, ℕ, ℤ, ◌+◌, ◌*◌, ◌/◌, ◌%◌, ◌^◌, ◌<◌, ◌≤◌, Option, Some, Ok, Bool, true, false, refl, ap, sym, ◌∙◌, None, List, [], ◌++◌, length, slice_index, append_assoc, length-append, w16, w32, FitsSigned, arith}
use Rattle.std.proofs.lemmas.List.{get_or-append-add}
use Rattle.std.proofs.lemmas.Bool.{lt-ltb}
use Rattle.byteorder.specs.Endian.{little_bytes}
use Rattle.std.proofs.lemmas.Int.{to_z-of_z}
use Rattle.std.proofs.lemmas.Bool.Decides.{nat_tests}
use Rattle.bpf_words.specs.declared.fields.Fields.{Fields}
use Rattle.bpf_words.specs.declared.opcode.Opcode.TheVariants.{Computing, Negating, Converting, Branching, Loading, LoadingSigned, Storing}
use Rattle.bpf_words.specs.declared.reading.Chosen.TheVariants.{Plain}
use Rattle.bpf_words.specs.declared.instruction.Width.{Width}
use Rattle.bpf_words.specs.declared.instruction.Width.TheVariants.{Narrow, Full}
use Rattle.bpf_words.specs.declared.instruction.Arithmetic.{Arithmetic}
use Rattle.bpf_words.specs.declared.instruction.Arithmetic.TheVariants.{Add, Sub, Mul, Div, Or, And, Lsh, Rsh, Mod, Xor, Mov, Arsh, SignedDiv, SignedMod}
use Rattle.bpf_words.specs.declared.instruction.Extension.{Extension}
use Rattle.bpf_words.specs.declared.instruction.Extension.TheVariants.{FromByte, FromHalf, FromWord, NarrowFromByte, NarrowFromHalf}
use Rattle.bpf_words.specs.declared.instruction.Conversion.{Conversion}
use Rattle.bpf_words.specs.declared.instruction.Conversion.TheVariants.{ToLittleEndian, ToBigEndian, Swap}
use Rattle.bpf_words.specs.declared.instruction.ConvertedBits.{ConvertedBits}
use Rattle.bpf_words.specs.declared.instruction.ConvertedBits.TheVariants.{Bits16, Bits32, Bits64}
use Rattle.bpf_words.specs.declared.instruction.Comparison.{Comparison}
use Rattle.bpf_words.specs.declared.instruction.Comparison.TheVariants.{Equal, Greater, GreaterOrEqual, AnyBit, NotEqual, SignedGreater, SignedGreaterOrEqual, Less, LessOrEqual, SignedLess, SignedLessOrEqual}
use Rattle.span_context.specs.declared.size.Size.{Size}
use Rattle.span_context.specs.declared.size.Size.TheVariants.{Byte, Half, Word, Double}
use Rattle.bpf_words.specs.declared.instruction.SignedSize.{SignedSize}
use Rattle.bpf_words.specs.declared.instruction.SignedSize.TheVariants.{SignedByte, SignedHalf, SignedWord}
use Rattle.bpf_words.specs.declared.instruction.Operand.{Operand}
use Rattle.bpf_words.specs.declared.instruction.Operand.TheVariants.{Immediate, Source}
use Rattle.bpf_words.specs.declared.instruction.Insn.{Insn}
use Rattle.bpf_words.specs.declared.instruction.Insn.TheVariants.{Compute, Negate, Extend, Convert, Jump, JumpLong, Branch, Load, LoadSigned, Store, LoadWide, Exit}
use Rattle.bpf_words.specs.Opcodes.{opcode_of}
use Rattle.bpf_words.specs.Slots.{fields_of, slot_at}
use Rattle.bpf_words.specs.Reading.{reading, no_register, chosen}
use Rattle.bpf_words.specs.Words.{reads, next_slot, read_at}
use Rattle.bpf_words.specs.Encoding.{code_of, offset_for, comparison_code, arithmetic_byte, jump_byte, conversion_byte, store_byte, modifier_of, signed_modifier, fields_for, slot_of, IsOperand, IsInsn, second_slot, second_bytes, encoded}
use Rattle.bpf_words.specs.RoundTrip.{Follows, ReadsBack}
use Rattle.bpf_words.proofs.Numbers.{fields-of-slot}

-- the operation whose code an operation has
abbrev pub base_of : Arithmetic → Arithmetic
base_of SignedDiv = Div
base_of SignedMod = Mod
base_of operation = operation

-- a fact about both widths and both kinds of operand
four : (P : Width → Bool → Type 0) → P Narrow false → P Narrow true → P Full false → P Full true → (width : Width) (by_register : Bool) → P width by_register
four P a b c d Narrow false = a
four P a b c d Narrow true = b
four P a b c d Full false = c
four P a b c d Full true = d

abbrev pub NamesArithmetic : Arithmetic → Width → Bool → Type 0
NamesArithmetic operation width by_register = opcode_of (arithmetic_byte width by_register (code_of operation)) ≡ Computing width (base_of operation) by_register

pub opcode-arithmetic : (operation : Arithmetic) (width : Width) (by_register : Bool) → NamesArithmetic operation width by_register
opcode-arithmetic Add = four (NamesArithmetic Add) refl refl refl refl
opcode-arithmetic Sub = four (NamesArithmetic Sub) refl refl refl refl
opcode-arithmetic Mul = four (NamesArithmetic Mul) refl refl refl refl
opcode-arithmetic Div = four (NamesArithmetic Div) refl refl refl refl
opcode-arithmetic Or = four (NamesArithmetic Or) refl refl refl refl
opcode-arithmetic And = four (NamesArithmetic And) refl refl refl refl
opcode-arithmetic Lsh = four (NamesArithmetic Lsh) refl refl refl refl
opcode-arithmetic Rsh = four (NamesArithmetic Rsh) refl refl refl refl
opcode-arithmetic Mod = four (NamesArithmetic Mod) refl refl refl refl
opcode-arithmetic Xor = four (NamesArithmetic Xor) refl refl refl refl
opcode-arithmetic Mov = four (NamesArithmetic Mov) refl refl refl refl
opcode-arithmetic Arsh = four (NamesArithmetic Arsh) refl refl refl refl
opcode-arithmetic SignedDiv = four (NamesArithmetic SignedDiv) refl refl refl refl
opcode-arithmetic SignedMod = four (NamesArithmetic SignedMod) refl refl refl refl

abbrev pub NamesComparison : Comparison → Width → Bool → Type 0
NamesComparison comparison width by_register = opcode_of (jump_byte width by_register (comparison_code comparison)) ≡ Branching width comparison by_register

pub opcode-comparison : (comparison : Comparison) (width : Width) (by_register : Bool) → NamesComparison comparison width by_register
opcode-comparison Equal = four (NamesComparison Equal) refl refl refl refl
opcode-comparison Greater = four (NamesComparison Greater) refl refl refl refl
opcode-comparison GreaterOrEqual = four (NamesComparison GreaterOrEqual) refl refl refl refl
opcode-comparison AnyBit = four (NamesComparison AnyBit) refl refl refl refl
opcode-comparison NotEqual = four (NamesComparison NotEqual) refl refl refl refl
opcode-comparison SignedGreater = four (NamesComparison SignedGreater) refl refl refl refl
opcode-comparison SignedGreaterOrEqual = four (NamesComparison SignedGreaterOrEqual) refl refl refl refl
opcode-comparison Less = four (NamesComparison Less) refl refl refl refl
opcode-comparison LessOrEqual = four (NamesComparison LessOrEqual) refl refl refl refl
opcode-comparison SignedLess = four (NamesComparison SignedLess) refl refl refl refl
opcode-comparison SignedLessOrEqual = four (NamesComparison SignedLessOrEqual) refl refl refl refl

pub opcode-negation : (width : Width) → opcode_of (arithmetic_byte width false 0x8) ≡ Negating width
opcode-negation Narrow = refl
opcode-negation Full = refl

pub opcode-conversion : (conversion : Conversion) → opcode_of (conversion_byte conversion) ≡ Converting conversion
opcode-conversion ToLittleEndian = refl
opcode-conversion ToBigEndian = refl
opcode-conversion Swap = refl

pub opcode-load : (size : Size) → opcode_of (32 * 3 + 8 * modifier_of size + 1) ≡ Loading size
opcode-load Byte = refl
opcode-load Half = refl
opcode-load Word = refl
opcode-load Double = refl

pub opcode-signed_load : (size : SignedSize) → opcode_of (32 * 4 + 8 * signed_modifier size + 1) ≡ LoadingSigned size
opcode-signed_load SignedByte = refl
opcode-signed_load SignedHalf = refl
opcode-signed_load SignedWord = refl

pub opcode-store : (size : Size) (by_register : Bool) → opcode_of (store_byte by_register (modifier_of size)) ≡ Storing size by_register
opcode-store Byte true = refl
opcode-store Half true = refl
opcode-store Word true = refl
opcode-store Double true = refl
opcode-store Byte false = refl
opcode-store Half false = refl
opcode-store Word false = refl
opcode-store Double false = refl

abbrev pub ChoosesPlain : Arithmetic → Width → Bool → Type 0
ChoosesPlain operation width by_register = chosen width by_register (base_of operation) (offset_for operation) ≡ Ok (Plain operation)

pub chosen-plain : (operation : Arithmetic) (width : Width) (by_register : Bool) → ChoosesPlain operation width by_register
chosen-plain Add = four (ChoosesPlain Add) refl refl refl refl
chosen-plain Sub = four (ChoosesPlain Sub) refl refl refl refl
chosen-plain Mul = four (ChoosesPlain Mul) refl refl refl refl
chosen-plain Div = four (ChoosesPlain Div) refl refl refl refl
chosen-plain Or = four (ChoosesPlain Or) refl refl refl refl
chosen-plain And = four (ChoosesPlain And) refl refl refl refl
chosen-plain Lsh = four (ChoosesPlain Lsh) refl refl refl refl
chosen-plain Rsh = four (ChoosesPlain Rsh) refl refl refl refl
chosen-plain Mod = four (ChoosesPlain Mod) refl refl refl refl
chosen-plain Xor = four (ChoosesPlain Xor) refl refl refl refl
chosen-plain Mov = four (ChoosesPlain Mov) refl refl refl refl
chosen-plain Arsh = four (ChoosesPlain Arsh) refl refl refl refl
chosen-plain SignedDiv = four (ChoosesPlain SignedDiv) refl refl refl refl
chosen-plain SignedMod = four (ChoosesPlain SignedMod) refl refl refl refl

pub is-register : (number : ℕ) → number ≤ 10 → no_register number ≡ false
is-register number h = grind (arith, nat_tests)

abbrev pub ReadsFields : Insn → Option ℕ → Type 0
ReadsFields insn next = reading (opcode_of (fields_for insn).opcode) (fields_for insn) next ≡ Ok insn

back-compute : (width : Width) (operation : Arithmetic) (destination : ℕ) (operand : Operand) (next : Option ℕ) → destination ≤ 10 → IsOperand operand → ReadsFields (Compute width operation destination operand) next
back-compute width operation destination (Immediate value) next d o =
    let opcode = opcode-arithmetic operation width false in
    let plain = chosen-plain operation width false in
    let first = is-register destination d in
    let back = to_z-of_z w32 value o in
    rw (opcode, first, plain, back) refl
back-compute width operation destination (Source register) next d o =
    let opcode = opcode-arithmetic operation width true in
    let plain = chosen-plain operation width true in
    let first = is-register destination d in
    let second = is-register register o in
    rw (opcode, first, second, plain) refl

back-extend : (extension : Extension) (destination source : ℕ) (next : Option ℕ) → destination ≤ 10 → source ≤ 10 → ReadsFields (Extend extension destination source) next
back-extend FromByte destination source next d s = let first = is-register destination d in let second = is-register source s in rw (first, second) refl
back-extend FromHalf destination source next d s = let first = is-register destination d in let second = is-register source s in rw (first, second) refl
back-extend FromWord destination source next d s = let first = is-register destination d in let second = is-register source s in rw (first, second) refl
back-extend NarrowFromByte destination source next d s = let first = is-register destination d in let second = is-register source s in rw (first, second) refl
back-extend NarrowFromHalf destination source next d s = let first = is-register destination d in let second = is-register source s in rw (first, second) refl

back-convert : (conversion : Conversion) (bits : ConvertedBits) (destination : ℕ) (next : Option ℕ) → destination ≤ 10 → ReadsFields (Convert conversion bits destination) next
back-convert conversion Bits16 destination next d = let opcode = opcode-conversion conversion in let first = is-register destination d in rw (opcode, first) refl
back-convert conversion Bits32 destination next d = let opcode = opcode-conversion conversion in let first = is-register destination d in rw (opcode, first) refl
back-convert conversion Bits64 destination next d = let opcode = opcode-conversion conversion in let first = is-register destination d in rw (opcode, first) refl

back-branch : (width : Width) (comparison : Comparison) (left : ℕ) (right : Operand) (distance : ℤ) (next : Option ℕ) → left ≤ 10 → IsOperand right → FitsSigned w16 distance → ReadsFields (Branch width comparison left right distance) next
back-branch width comparison left (Immediate value) distance next d o f =
    let opcode = opcode-comparison comparison width false in
    let first = is-register left d in
    let back = to_z-of_z w32 value o in
    let far = to_z-of_z w16 distance f in
    rw (opcode, first, back, far) refl
back-branch width comparison left (Source register) distance next d o f =
    let opcode = opcode-comparison comparison width true in
    let first = is-register left d in
    let second = is-register register o in
    let far = to_z-of_z w16 distance f in
    rw (opcode, first, second, far) refl

back-store : (size : Size) (base : ℕ) (offset : ℤ) (operand : Operand) (next : Option ℕ) → base ≤ 10 → IsOperand operand → FitsSigned w16 offset → ReadsFields (Store size base offset operand) next
back-store size base offset (Immediate value) next d o f =
    let opcode = opcode-store size false in
    let first = is-register base d in
    let back = to_z-of_z w32 value o in
    let far = to_z-of_z w16 offset f in
    rw (opcode, first, back, far) refl
back-store size base offset (Source register) next d o f =
    let opcode = opcode-store size true in
    let first = is-register base d in
    let second = is-register register o in
    let far = to_z-of_z w16 offset f in
    rw (opcode, first, second, far) refl

upper-alone : (n : ℕ) → n / 2 ^ 32 * 2 ^ 32 % 2 ^ 32 ≡ 0
upper-alone n = omega arith

halves-join : (n : ℕ) → n / 2 ^ 32 * 2 ^ 32 / 2 ^ 32 * 2 ^ 32 + n % 2 ^ 32 ≡ n
halves-join n = omega arith

back-wide : (destination value : ℕ) (next : Option ℕ) → destination ≤ 10 → next ≡ Some (value / 2 ^ 32 * 2 ^ 32) → ReadsFields (LoadWide destination value) next
back-wide destination value next d follows =
    let first = is-register destination d in
    let upper = upper-alone value in
    let join = halves-join value in
    rw (follows, first, upper, join) refl

pub reads-fields : (insn : Insn) (next : Option ℕ) → IsInsn insn → Follows insn next → ReadsFields insn next
reads-fields (Compute width operation destination operand) next valid follows = back-compute width operation destination operand next valid.0 valid.1
reads-fields (Negate width destination) next valid follows =
    let opcode = opcode-negation width in let first = is-register destination valid in rw (opcode, first) refl
reads-fields (Extend extension destination source) next valid follows = back-extend extension destination source next valid.0 valid.1
reads-fields (Convert conversion bits destination) next valid follows = back-convert conversion bits destination next valid
reads-fields (Jump distance) next valid follows = let far = to_z-of_z w16 distance valid in rw far refl
reads-fields (JumpLong distance) next valid follows = let far = to_z-of_z w32 distance valid in rw far refl
reads-fields (Branch width comparison left right distance) next valid follows =
    back-branch width comparison left right distance next valid.0 valid.1 valid.2
reads-fields (Load size destination base offset) next valid follows =
    let opcode = opcode-load size in
    let first = is-register destination valid.0 in
    let second = is-register base valid.1 in
    let far = to_z-of_z w16 offset valid.2 in
    rw (opcode, first, second, far) refl
reads-fields (LoadSigned size destination base offset) next valid follows =
    let opcode = opcode-signed_load size in
    let first = is-register destination valid.0 in
    let second = is-register base valid.1 in
    let far = to_z-of_z w16 offset valid.2 in
    rw (opcode, first, second, far) refl
reads-fields (Store size base offset value) next valid follows = back-store size base offset value next valid.0 valid.1 valid.2
reads-fields (LoadWide destination value) next valid follows =
    back-wide destination value next valid.0 (follows (value / 2 ^ 32 * 2 ^ 32) refl)
reads-fields Exit next valid follows = refl

-- the first slot reads as the instruction, whatever comes after an instruction of one slot
abbrev pub ReadsSlot : Insn → ℕ → Type 0
ReadsSlot insn slot = (next : Option ℕ) → Follows insn next → reads slot next ≡ Ok insn

reads-slot : (insn : Insn) (f : Fields) → f ≡ fields_for insn → f.opcode < 256 → f.destination ≤ 10 → f.source ≤ 10 → f.offset < 2 ^ 16 → f.immediate < 2 ^ 32 → IsInsn insn → ReadsSlot insn (slot_of (fields_for insn))
reads-slot insn f same a b c d e valid next follows =
    let same_fields : fields_of (slot_of f) ≡ f =
    fields-of-slot f.opcode f.destination f.source f.offset f.immediate a (omega arith) (omega arith) d e in
    let same_slot : slot_of (fields_for insn) ≡ slot_of f = ap (λ (g : Fields). slot_of g) (sym same) in
    ap (λ (slot : ℕ). reads slot next) same_slot
    ∙ ap (λ (g : Fields). reading (opcode_of g.opcode) g next) (same_fields ∙ same)
    ∙ reads-fields insn next valid follows

-- a number's bytes in a list are the slot there
slot-here : (before tail : List ℕ) (index n : ℕ) → length before ≡ 8 * index → n < 2 ^ 64 → slot_at (before ++ (little_bytes 8 n ++ tail)) index ≡ n
slot-here before tail index n long small =
    let at : (k : ℕ) → slice_index (before ++ (little_bytes 8 n ++ tail)) (8 * index + k) ≡ slice_index (little_bytes 8 n ++ tail) k =
    λ k. ap (λ (m : ℕ). slice_index (before ++ (little_bytes 8 n ++ tail)) (m + k)) (sym long) ∙ get_or-append-add before (little_bytes 8 n ++ tail) k 0 in
    let same_offset : 8 * index + 0 ≡ 8 * index = omega arith in
    let e0 : slice_index (before ++ (little_bytes 8 n ++ tail)) (8 * index) ≡ n % 256 =
    ap (λ (m : ℕ). slice_index (before ++ (little_bytes 8 n ++ tail)) m) (sym same_offset) ∙ at 0 in
    let e1 : slice_index (before ++ (little_bytes 8 n ++ tail)) (8 * index + 1) ≡ n / 256 % 256 = at 1 in
    let e2 : slice_index (before ++ (little_bytes 8 n ++ tail)) (8 * index + 2) ≡ n / 65536 % 256 = at 2 in
    let e3 : slice_index (before ++ (little_bytes 8 n ++ tail)) (8 * index + 3) ≡ n / 16777216 % 256 = at 3 in
    let e4 : slice_index (before ++ (little_bytes 8 n ++ tail)) (8 * index + 4) ≡ n / 4294967296 % 256 = at 4 in
    let e5 : slice_index (before ++ (little_bytes 8 n ++ tail)) (8 * index + 5) ≡ n / 1099511627776 % 256 = at 5 in
    let e6 : slice_index (before ++ (little_bytes 8 n ++ tail)) (8 * index + 6) ≡ n / 281474976710656 % 256 = at 6 in
    let e7 : slice_index (before ++ (little_bytes 8 n ++ tail)) (8 * index + 7) ≡ n / 72057594037927936 % 256 = at 7 in
    omega arith

next-there : (bytes : List ℕ) (index slot : ℕ) → index < length bytes / 8 → slot_at bytes index ≡ slot → next_slot bytes index ≡ Some slot
next-there bytes index slot less same = rw (lt-ltb index (length bytes / 8) less) (ap (λ (n : ℕ). Some n) same)

reads-bytes : (insn : Insn) (first : ℕ) (second : Option ℕ) → second ≡ second_slot insn → first < 2 ^ 64 → ((slot : ℕ) → second ≡ Some slot → slot < 2 ^ 64) → ReadsSlot insn first → ReadsBack insn (little_bytes 8 first ++ second_bytes second)
unfolding read_at
reads-bytes insn first None none small second_small read before after index long =
    let whole : before ++ (little_bytes 8 first ++ []) ++ after ≡ before ++ (little_bytes 8 first ++ after) = append_assoc before (little_bytes 8 first) after in
    let here = ap (λ (bytes : List ℕ). slot_at bytes index) whole ∙ slot-here before after index first long small in
    let next : Option ℕ = next_slot (before ++ (little_bytes 8 first ++ []) ++ after) (index + 1) in
    ap (λ (slot : ℕ). reads slot (next_slot (before ++ (little_bytes 8 first ++ []) ++ after) (index + 1))) here
    ∙ read (next_slot (before ++ (little_bytes 8 first ++ []) ++ after) (index + 1)) (λ slot e. absurd (cc))
reads-bytes insn first (Some second) some small second_small read before after index long =
    let bytes : List ℕ = before ++ (little_bytes 8 first ++ little_bytes 8 second) ++ after in
    let whole : before ++ (little_bytes 8 first ++ little_bytes 8 second) ++ after ≡ before ++ (little_bytes 8 first ++ (little_bytes 8 second ++ after)) =
    append_assoc before (little_bytes 8 first ++ little_bytes 8 second) after in
    let later : before ++ (little_bytes 8 first ++ little_bytes 8 second) ++ after ≡ (before ++ little_bytes 8 first) ++ (little_bytes 8 second ++ after) =
    whole ∙ sym (append_assoc before (little_bytes 8 first) (little_bytes 8 second ++ after)) in
    let here = ap (λ (b : List ℕ). slot_at b index) whole ∙ slot-here before (little_bytes 8 second ++ after) index first long small in
    let front : length (before ++ little_bytes 8 first) ≡ 8 * (index + 1) = length-append before (little_bytes 8 first) ∙ omega arith in
    let there = ap (λ (b : List ℕ). slot_at b (index + 1)) later ∙ slot-here (before ++ little_bytes 8 first) after (index + 1) second front (second_small second refl) in
    let total : length (before ++ (little_bytes 8 first ++ little_bytes 8 second) ++ after) ≡ 8 * index + 16 + length after =
    ap (λ (b : List ℕ). length b) whole ∙ length-append before (little_bytes 8 first ++ (little_bytes 8 second ++ after)) ∙ omega arith in
    let next = next-there (before ++ (little_bytes 8 first ++ little_bytes 8 second) ++ after) (index + 1) second (omega arith) there in
    ap (λ (slot : ℕ). reads slot (next_slot (before ++ (little_bytes 8 first ++ little_bytes 8 second) ++ after) (index + 1))) here
    ∙ read (next_slot (before ++ (little_bytes 8 first ++ little_bytes 8 second) ++ after) (index + 1)) (λ slot e. next ∙ (some ∙ e))

second-small : (insn : Insn) (slot : ℕ) → IsInsn insn → second_slot insn ≡ Some slot → slot < 2 ^ 64
second-small (LoadWide destination value) slot valid e =
    let same : value / 2 ^ 32 * 2 ^ 32 ≡ slot = cc in
    let small : value < 2 ^ 64 = valid.1 in
    omega arith
second-small _ slot valid e = absurd (cc)

pub reads-back : (insn : Insn) (f : Fields) → f ≡ fields_for insn → f.opcode < 256 → f.destination ≤ 10 → f.source ≤ 10 → f.offset < 2 ^ 16 → f.immediate < 2 ^ 32 → IsInsn insn → ReadsBack insn (encoded insn)
unfolding encoded
reads-back insn f same a b c d e valid =
    let fits : slot_of f < 2 ^ 64 = omega arith in
    let same_slot : slot_of f ≡ slot_of (fields_for insn) = ap (λ (g : Fields). slot_of g) same in
    reads-bytes insn (slot_of (fields_for insn)) (second_slot insn) refl (omega arith) (λ slot e. second-small insn slot valid e) (reads-slot insn f same a b c d e valid)
