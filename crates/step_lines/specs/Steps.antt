-- What is printed of the steps of a run: the line of each step's instruction, and behind it the line of what the step
-- wrote.
use Rattle.std.specs.Prelude.{ℕ, ℤ, zero, suc, ◌-◌, ◌+◌, nat_le, ◌&&◌, Bool, if◌then◌else◌, List, [], ◌++◌, codes}
use Rattle.std.specs.Prelude.{slice_get, Option, Some, None, Result, Ok, Err}
use Rattle.std.specs.Fmt.{decimal}
use Rattle.span_context.specs.Context.{SpanBytes, context_base, frame_end, text_base, text_limit, link_base, link_limit}
use Rattle.span_context.specs.declared.size.Size.{Size}
use Rattle.bpf_words.specs.declared.instruction.Insn.{Insn}
use Rattle.bpf_words.specs.declared.instruction.Insn.TheVariants.{Compute, Negate, Extend, Convert, Jump, JumpLong}
use Rattle.bpf_words.specs.declared.instruction.Insn.TheVariants.{Branch, Load, LoadSigned, Store, LoadWide, Exit}
use Rattle.semantics.specs.declared.FaultKind.{FaultKind}
use Rattle.semantics.specs.State.{State, register_of}
use Rattle.semantics.specs.Memory.{address_of, bytes_in, load, stack_base}
use Rattle.semantics.specs.Step.{Program, Stepped, Next, Ends, step}
use Rattle.disassembler.specs.Canonical.{canonical_line}

-- whether a number is the address of a byte of a region, or the one behind its last byte
abbrev pub reaches : ℕ → ℕ → ℕ → Bool
reaches first length number = nat_le first number && nat_le number (first + length)

-- which region's address a number is, by how far it is from the region's first byte; of the stack, by how far it is
-- from its end, which r10 holds
abbrev pub location : ℕ → List ℕ
location number =
    if reaches context_base 72 number then codes ", context+" ++ decimal (number - context_base)
    else if reaches text_base text_limit number then codes ", text+" ++ decimal (number - text_base)
    else if reaches link_base link_limit number then codes ", link+" ++ decimal (number - link_base)
    else if reaches stack_base 512 number then codes ", stack-" ++ decimal (frame_end - number)
    else []

-- the number that was written, without a sign, and the rest of its line
abbrev pub number_text : ℕ → List ℕ
number_text number = codes " = " ++ decimal number ++ location number ++ codes "\n"

abbrev pub register_line : ℕ → ℕ → List ℕ
register_line register number = codes "  r" ++ decimal register ++ number_text number

-- bytes of the stack, by how far the first of them is from its end
abbrev pub stack_line : ℕ → ℕ → List ℕ
stack_line address number = codes "  [stack-" ++ decimal (frame_end - address) ++ codes "]" ++ number_text number

-- the line of a number, where there is one
abbrev pub line_of_set : Result ℕ FaultKind → (ℕ → List ℕ) → List ℕ
line_of_set (Ok number) line = line number
line_of_set (Err kind) line = []

-- what a register holds
abbrev pub register_now : State → ℕ → List ℕ
register_now state register = line_of_set (register_of state register) (register_line register)

-- what the bytes that a store wrote hold (RFC 9669, section 5)
abbrev pub stored_now : SpanBytes → State → Size → ℕ → ℤ → List ℕ
stored_now bytes state size base offset =
    line_of_set (register_of state base) (λ first.
    line_of_set (load bytes state.stack (address_of first offset) (bytes_in size)) (λ number.
    stack_line (address_of first offset) number))

-- what an instruction wrote, told from the state that it left: the register or the bytes of the stack that it names as
-- its destination (RFC 9669, sections 4 and 5)
abbrev pub written_line : SpanBytes → State → Insn → List ℕ
written_line bytes state (Compute width operation destination operand) = register_now state destination
written_line bytes state (Negate width destination) = register_now state destination
written_line bytes state (Extend extension destination source) = register_now state destination
written_line bytes state (Convert conversion bits destination) = register_now state destination
written_line bytes state (Jump distance) = []
written_line bytes state (JumpLong distance) = []
written_line bytes state (Branch width comparison left right distance) = []
written_line bytes state (Load size destination base offset) = register_now state destination
written_line bytes state (LoadSigned size destination base offset) = register_now state destination
written_line bytes state (Store size base offset value) = stored_now bytes state size base offset
written_line bytes state (LoadWide destination value) = register_now state destination
written_line bytes state Exit = []

-- the line of a slot and its instruction
abbrev pub instruction_line : ℕ → Insn → List ℕ
instruction_line slot insn = codes "slot " ++ decimal slot ++ codes ": " ++ canonical_line insn

-- the line of the slot that is next, by what the program has there
abbrev pub slot_line : ℕ → Option (Option Insn) → List ℕ
slot_line slot (Some (Some insn)) = instruction_line slot insn
slot_line slot (Some None) = codes "slot " ++ decimal slot ++ codes ": the second slot of a wide load\n"
slot_line slot None = []

-- what the instruction that a run went past wrote
abbrev pub passed_line : SpanBytes → State → Option (Option Insn) → List ℕ
passed_line bytes state (Some (Some insn)) = written_line bytes state insn
passed_line bytes state (Some None) = []
passed_line bytes state None = []

-- what follows the line of a slot: where the run went on, what was written and the steps from there on
abbrev pub text_after : SpanBytes → Option (Option Insn) → Stepped → (State → List ℕ) → List ℕ
text_after bytes entry (Ok (Next state)) rest = passed_line bytes state entry ++ rest state
text_after bytes entry (Ok (Ends value)) rest = []
text_after bytes entry (Err kind) rest = []

-- what is printed of at most that many steps
unfoldable pub steps_text : Program → SpanBytes → ℕ → State → List ℕ
steps_text program bytes zero state = []
steps_text program bytes (suc steps) state =
    slot_line state.slot (slice_get program state.slot)
    ++ text_after bytes (slice_get program state.slot) (step program bytes state)
    (λ next. steps_text program bytes steps next)
