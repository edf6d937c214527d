-- What an instruction that is no comparison makes of what is known, and which instructions are refused: first those
-- that read a register that may be unset, then by what the registers hold.
use Rattle.std.specs.Prelude.{ℕ, ℤ, ⊤, Option, Some, None, Result, Ok, Err, option_map}
use Rattle.std.specs.Int.{cast_unsigned, w64}
use Rattle.span_context.specs.declared.profile.Profile.{Profile}
use Rattle.span_context.specs.declared.size.Size.{Size}
use Rattle.bpf_words.specs.declared.instruction.Insn.{Insn}
use Rattle.bpf_words.specs.declared.instruction.Insn.TheVariants.{Compute, Negate, Extend, Convert, Jump, JumpLong}
use Rattle.bpf_words.specs.declared.instruction.Insn.TheVariants.{Branch, Load, LoadSigned, Store, LoadWide, Exit}
use Rattle.bpf_words.specs.declared.instruction.Arithmetic.{Arithmetic}
use Rattle.bpf_words.specs.declared.instruction.Arithmetic.TheVariants.{Mov}
use Rattle.bpf_words.specs.declared.instruction.Extension.{Extension}
use Rattle.bpf_words.specs.declared.instruction.ConvertedBits.{ConvertedBits}
use Rattle.bpf_words.specs.declared.instruction.SignedSize.{SignedSize}
use Rattle.bpf_words.specs.declared.instruction.Operand.{Operand}
use Rattle.bpf_words.specs.declared.instruction.Width.{Width}
use Rattle.bpf_words.specs.declared.instruction.Width.TheVariants.{Full}
use Rattle.semantics.specs.Memory.{bytes_in, bytes_in_signed}
use Rattle.abstract_state.specs.declared.refusal.Refusal.{Refusal}
use Rattle.abstract_state.specs.declared.refusal.Refusal.TheVariants.{ReturnPointer}
use Rattle.abstract_state.specs.Estimate.{constant, unknown}
use Rattle.abstract_state.specs.Addresses.{Content, ANumber, InContext, InStack, InRegion, answer_of, then_answer}
use Rattle.abstract_state.specs.Addresses.{computed, moved, replaced, converted, width_of}
use Rattle.abstract_state.specs.Stacks.{Slots}
use Rattle.abstract_state.specs.Loading.{loaded, readable, written, a_number}
use Rattle.abstract_state.specs.Situation.{Situation, read, operand_of, put}

-- the situation after an instruction, unless it is refused; none where no run comes past
abbrev pub Outcome : Type 0
Outcome = Result (Option Situation) Refusal

-- ---- a register is written, where there is something to write
abbrev pub into : ℕ → Situation → Option Content → Option Situation
into register s content = option_map (λ h. put register h s) content

-- what is made of what was read
unfoldable pub made : ℕ → Situation → (Content → Result (Option Content) Refusal) → Result Content Refusal → Outcome
made register s f content = answer_of (into register s) (then_answer f content)

-- ---- operations
abbrev pub move : Width → ℕ → Operand → Situation → Outcome
move width d operand s = made d s (moved width) (operand_of s.registers operand)

-- the register that is written is read first
unfoldable pub compute : Profile → Width → Arithmetic → ℕ → Operand → Situation → Outcome
compute profile width operation d operand s =
    then_answer (λ a. made d s (computed profile operation width a) (operand_of s.registers operand))
    (read (s.registers d))

-- a move doesn't read it
unfoldable pub arithmetic : Profile → Width → Arithmetic → ℕ → Operand → Situation → Outcome
arithmetic profile width Mov d operand s = move width d operand s
arithmetic profile width operation d operand s = compute profile width operation d operand s

abbrev pub negate : Width → ℕ → Situation → Outcome
negate width d s = made d s (replaced width) (read (s.registers d))

abbrev pub extend : Extension → ℕ → ℕ → Situation → Outcome
extend extension d source s = made d s (replaced (width_of extension)) (read (s.registers source))

abbrev pub convert : ConvertedBits → ℕ → Situation → Outcome
convert bits d s = made d s (λ a. answer_of Some (converted bits a)) (read (s.registers d))

-- ---- loads and stores
abbrev pub load : Profile → Size → ℕ → ℕ → ℤ → Situation → Outcome
load profile size d base offset s =
    made d s (λ a. loaded profile s.slots s.least a (cast_unsigned w64 offset) size) (read (s.registers base))

-- with the sign: any number
abbrev pub load_signed : Profile → SignedSize → ℕ → ℕ → ℤ → Situation → Outcome
load_signed profile size d base offset s =
    made d s
    (λ a. answer_of (a_number (unknown Full))
    (readable profile s.slots s.least a (cast_unsigned w64 offset) (bytes_in_signed size)))
    (read (s.registers base))

abbrev pub load_wide : ℕ → ℕ → Situation → Situation
load_wide d value s = put d (ANumber (constant value)) s

abbrev pub with_slots : Situation → Slots → Option Situation
with_slots s slots = Some (record s { slots = slots })

unfoldable pub store : Size → ℕ → ℤ → Operand → Situation → Outcome
store size base offset operand s =
    then_answer
    (λ a. then_answer
    (λ value. answer_of (with_slots s) (written s.slots a (cast_unsigned w64 offset) (bytes_in size) value))
    (operand_of s.registers operand))
    (read (s.registers base))

-- ---- a run ends with a number
abbrev pub returned : Content → Result ⊤ Refusal
returned (ANumber a) = Ok tt
returned (InContext p) = Err ReturnPointer
returned (InStack p) = Err ReturnPointer
returned (InRegion r a) = Err ReturnPointer

unfoldable pub exit : Situation → Result ⊤ Refusal
exit s = then_answer returned (read (s.registers 0))

-- ---- the instructions; a comparison isn't among them, it has edges of its own
unfoldable pub stepped : Profile → Insn → Situation → Outcome
stepped profile (Compute width operation d operand) s = arithmetic profile width operation d operand s
stepped profile (Negate width d) s = negate width d s
stepped profile (Extend extension d source) s = extend extension d source s
stepped profile (Convert conversion bits d) s = convert bits d s
stepped profile (Jump distance) s = Ok (Some s)
stepped profile (JumpLong distance) s = Ok (Some s)
stepped profile (Branch width comparison left right distance) s = Ok None
stepped profile (Load size d base offset) s = load profile size d base offset s
stepped profile (LoadSigned size d base offset) s = load_signed profile size d base offset s
stepped profile (Store size base offset value) s = store size base offset value s
stepped profile (LoadWide d value) s = Ok (Some (load_wide d value s))
stepped profile Exit s = answer_of (λ done. Some s) (exit s)
