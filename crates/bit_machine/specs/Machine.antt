-- The machine once more (RFC 9669, sections 4.1 to 4.3 and 5.2), with words of bits where `semantics` has numbers. What
-- reads and writes registers and memory, and what jumps, is the same.
use Rattle.std.specs.Prelude.{ℕ, zero, suc, pos, ◌*◌, ◌<◌, Bool, not, ◌&&◌, ◌||◌, if◌then◌else◌, length, take}
use Rattle.std.specs.Prelude.{slice_get, Option, Some, None, Ok, Err, ⊤}
use Rattle.std.specs.List.{All}
use Rattle.span_context.specs.Context.{SpanBytes}
use Rattle.bpf_words.specs.declared.instruction.Width.{Width}
use Rattle.bpf_words.specs.declared.instruction.Width.TheVariants.{Narrow, Full}
use Rattle.bpf_words.specs.declared.instruction.Arithmetic.{Arithmetic}
use Rattle.bpf_words.specs.declared.instruction.Arithmetic.TheVariants.{Add, Sub, Mul, Div, Or, And, Lsh, Rsh, Mod, Xor}
use Rattle.bpf_words.specs.declared.instruction.Arithmetic.TheVariants.{Mov, Arsh, SignedDiv, SignedMod}
use Rattle.bpf_words.specs.declared.instruction.Extension.{Extension}
use Rattle.bpf_words.specs.declared.instruction.Extension.TheVariants.{FromByte, FromHalf, FromWord, NarrowFromByte}
use Rattle.bpf_words.specs.declared.instruction.Extension.TheVariants.{NarrowFromHalf}
use Rattle.bpf_words.specs.declared.instruction.Conversion.{Conversion}
use Rattle.bpf_words.specs.declared.instruction.Conversion.TheVariants.{ToLittleEndian, ToBigEndian, Swap}
use Rattle.bpf_words.specs.declared.instruction.ConvertedBits.{ConvertedBits}
use Rattle.bpf_words.specs.declared.instruction.ConvertedBits.TheVariants.{Bits16, Bits32, Bits64}
use Rattle.bpf_words.specs.declared.instruction.Comparison.{Comparison}
use Rattle.bpf_words.specs.declared.instruction.Comparison.TheVariants.{Equal, Greater, GreaterOrEqual, AnyBit}
use Rattle.bpf_words.specs.declared.instruction.Comparison.TheVariants.{NotEqual, SignedGreater, SignedGreaterOrEqual}
use Rattle.bpf_words.specs.declared.instruction.Comparison.TheVariants.{Less, LessOrEqual, SignedLess}
use Rattle.bpf_words.specs.declared.instruction.Comparison.TheVariants.{SignedLessOrEqual}
use Rattle.bpf_words.specs.declared.instruction.SignedSize.{SignedSize}
use Rattle.bpf_words.specs.declared.instruction.SignedSize.TheVariants.{SignedByte, SignedHalf, SignedWord}
use Rattle.bpf_words.specs.declared.instruction.Insn.{Insn}
use Rattle.bpf_words.specs.declared.instruction.Insn.TheVariants.{Compute, Negate, Extend, Convert, Jump, JumpLong}
use Rattle.bpf_words.specs.declared.instruction.Insn.TheVariants.{Branch, Load, LoadSigned, Store, LoadWide, Exit}
use Rattle.semantics.specs.declared.FaultKind.TheVariants.{BadInstruction, OutOfCode}
use Rattle.semantics.specs.declared.Outcome.{Outcome}
use Rattle.semantics.specs.declared.Outcome.TheVariants.{OutOfSteps}
use Rattle.semantics.specs.State.{State, start, register_of, operand_in}
use Rattle.semantics.specs.Memory.{address_of, load, store, bytes_in, bytes_in_signed}
use Rattle.semantics.specs.Step.{Program, On, Returns, Next, Ends, Moved, Stepped, then_with}
use Rattle.semantics.specs.Step.{write_and_go, first_of, land}
use Rattle.semantics.specs.Outcomes.{after}
use Rattle.semantics.specs.Safe.{AreBytes}
use Rattle.bit_machine.specs.Bits.{Bits, value, bits, has_any, zeros, each, differ, sum, difference, negation, are_same}
use Rattle.bit_machine.specs.Bits.{is_less, is_less_signed, shifted_left, shifted_right, shifted_with_sign, product}
use Rattle.bit_machine.specs.Bits.{quotient, remainder, signed_quotient, signed_remainder, lengthened, swapped}

-- ---- what an instruction makes of words
-- the low bits of a number, as an operation takes them
abbrev pub word : Width → ℕ → Bits
word Narrow n = bits 32 n
word Full n = bits 64 n

-- how far a word tells to shift: its lowest five bits, or six
abbrev pub distance_in : Width → Bits → ℕ
distance_in Narrow b = value (take 5 b)
distance_in Full b = value (take 6 b)

abbrev pub result_of : Arithmetic → Width → Bits → Bits → Bits
result_of Add width a b = sum a b
result_of Sub width a b = difference a b
result_of Mul width a b = product a b
result_of Div width a b = if has_any b then quotient a b else zeros a
result_of Or width a b = each (λ x y. x || y) a b
result_of And width a b = each (λ x y. x && y) a b
result_of Lsh width a b = shifted_left (distance_in width b) a
result_of Rsh width a b = shifted_right (distance_in width b) a
result_of Mod width a b = if has_any b then remainder a b else a
result_of Xor width a b = each differ a b
result_of Mov width a b = b
result_of Arsh width a b = shifted_with_sign (distance_in width b) a
result_of SignedDiv width a b = if has_any b then signed_quotient a b else zeros a
result_of SignedMod width a b = if has_any b then signed_remainder a b else a

-- the low bits of a number with their sign, 64 bits long, or 32
abbrev pub extension_of : Extension → ℕ → Bits
extension_of FromByte a = lengthened 56 (bits 8 a)
extension_of FromHalf a = lengthened 48 (bits 16 a)
extension_of FromWord a = lengthened 32 (bits 32 a)
extension_of NarrowFromByte a = lengthened 24 (bits 8 a)
extension_of NarrowFromHalf a = lengthened 16 (bits 16 a)

-- a number's low bytes, as they stand or in the other order
abbrev pub bytes_of : ConvertedBits → ℕ
bytes_of Bits16 = 2
bytes_of Bits32 = 4
bytes_of Bits64 = 8

abbrev pub conversion_of : Conversion → ConvertedBits → ℕ → Bits
conversion_of ToLittleEndian kept a = bits (8 * bytes_of kept) a
conversion_of ToBigEndian kept a = swapped (bytes_of kept) (bits (8 * bytes_of kept) a)
conversion_of Swap kept a = swapped (bytes_of kept) (bits (8 * bytes_of kept) a)

abbrev pub holds_by : Comparison → Bits → Bits → Bool
holds_by Equal a b = are_same a b
holds_by Greater a b = is_less b a
holds_by GreaterOrEqual a b = not (is_less a b)
holds_by AnyBit a b = has_any (each (λ x y. x && y) a b)
holds_by NotEqual a b = not (are_same a b)
holds_by SignedGreater a b = is_less_signed b a
holds_by SignedGreaterOrEqual a b = not (is_less_signed a b)
holds_by Less a b = is_less a b
holds_by LessOrEqual a b = not (is_less b a)
holds_by SignedLess a b = is_less_signed a b
holds_by SignedLessOrEqual a b = not (is_less_signed b a)

-- a number that a load read, with its sign
abbrev pub signed_word : SignedSize → ℕ → Bits
signed_word SignedByte n = lengthened 56 (bits 8 n)
signed_word SignedHalf n = lengthened 48 (bits 16 n)
signed_word SignedWord n = lengthened 32 (bits 32 n)

-- ---- a step
-- what an instruction does, whatever the program is
abbrev pub performs : SpanBytes → State → Insn → Moved
performs bytes state (Compute width operation destination operand) =
    then_with (first_of state operation destination) (λ a.
    then_with (operand_in state operand) (λ b.
    write_and_go state destination (value (result_of operation width (word width a) (word width b))) (pos 0)))
performs bytes state (Negate width destination) =
    then_with (register_of state destination) (λ a.
    write_and_go state destination (value (negation (word width a))) (pos 0))
performs bytes state (Extend extension destination source) =
    then_with (register_of state source) (λ a.
    write_and_go state destination (value (extension_of extension a)) (pos 0))
performs bytes state (Convert conversion kept destination) =
    then_with (register_of state destination) (λ a.
    write_and_go state destination (value (conversion_of conversion kept a)) (pos 0))
performs bytes state (Jump distance) = Ok (On state distance)
performs bytes state (JumpLong distance) = Ok (On state distance)
performs bytes state (Branch width comparison left right distance) =
    then_with (register_of state left) (λ a.
    then_with (operand_in state right) (λ b.
    Ok (On state (if holds_by comparison (word width a) (word width b) then distance else pos 0))))
performs bytes state (Load size destination base offset) =
    then_with (register_of state base) (λ address.
    then_with (load bytes state.stack (address_of address offset) (bytes_in size)) (λ number.
    write_and_go state destination number (pos 0)))
performs bytes state (LoadSigned size destination base offset) =
    then_with (register_of state base) (λ address.
    then_with (load bytes state.stack (address_of address offset) (bytes_in_signed size)) (λ number.
    write_and_go state destination (value (signed_word size number)) (pos 0)))
performs bytes state (Store size base offset operand) =
    then_with (register_of state base) (λ address.
    then_with (operand_in state operand) (λ number.
    then_with (store bytes state.stack (address_of address offset) (bytes_in size) number) (λ stack.
    Ok (On (record state { stack = stack }) (pos 0)))))
performs bytes state (LoadWide destination number) = write_and_go state destination number (pos 1)
performs bytes state Exit = then_with (register_of state 0) (λ number. Ok (Returns number))

abbrev pub steps_at : Program → SpanBytes → State → Option (Option Insn) → Stepped
steps_at program bytes state (Some (Some insn)) = then_with (performs bytes state insn) (land program)
steps_at program bytes state (Some None) = Err BadInstruction
steps_at program bytes state None = Err OutOfCode

abbrev pub steps : Program → SpanBytes → State → Stepped
steps program bytes state = steps_at program bytes state (slice_get program state.slot)

-- ---- a run
unfoldable pub run_from : Program → SpanBytes → ℕ → State → Outcome
run_from program bytes zero state = OutOfSteps
run_from program bytes (suc count) state =
    after (steps program bytes state) state.slot (λ next. run_from program bytes count next)

abbrev pub run : Program → SpanBytes → Outcome
run program bytes = run_from program bytes (length program) start

-- ---- memory
-- a signed load takes it that memory holds bytes: so it is in what a span lends
pub record LendsBytes (bytes : SpanBytes) : Type 0 where
  pub context : AreBytes bytes.context
  pub text : AreBytes bytes.text
  pub link : AreBytes bytes.link

-- and in a stack, from the start on
abbrev pub IsByte : Option ℕ → Type 0
IsByte None = ⊤
IsByte (Some number) = number < 256

abbrev pub HoldsBytes : State → Type 0
HoldsBytes state = All IsByte state.stack

abbrev pub LeadsToBytes : Stepped → Type 0
LeadsToBytes (Ok (Next state)) = HoldsBytes state
LeadsToBytes (Ok (Ends number)) = ⊤
LeadsToBytes (Err kind) = ⊤

abbrev pub IsSignedLoad : Insn → Type 0
IsSignedLoad (LoadSigned size destination base offset) = ⊤
IsSignedLoad insn = ⊥
