-- The faults of a slot, each said apart, and which of them is named: the first of six.
use Rattle.std.specs.Prelude.{ℕ, ◌+◌, ◌%◌, ◌^◌, ◌==◌, not, ◌||◌, if◌then◌else◌, Bool, true, false, List, Option, Some}
use Rattle.std.specs.Prelude.{None}
use Rattle.bpf_words.specs.declared.fields.Fields.{Fields}
use Rattle.bpf_words.specs.declared.opcode.Opcode.{Opcode}
use Rattle.bpf_words.specs.declared.opcode.Opcode.TheVariants.{Computing, Negating, Converting, Jumping, JumpingLong}
use Rattle.bpf_words.specs.declared.opcode.Opcode.TheVariants.{Branching, Loading, LoadingSigned, Storing, LoadingWide}
use Rattle.bpf_words.specs.declared.opcode.Opcode.TheVariants.{Exiting, LeftOut, Undefined}
use Rattle.bpf_words.specs.declared.instruction.Width.TheVariants.{Narrow, Full}
use Rattle.bpf_words.specs.declared.instruction.Arithmetic.TheVariants.{Div, Mod, Mov}
use Rattle.bpf_words.specs.declared.refusal.SlotFault.{SlotFault}
use Rattle.bpf_words.specs.declared.refusal.SlotFault.TheVariants.{UnknownOpcode, OutOfProfile, UnusedField}
use Rattle.bpf_words.specs.declared.refusal.SlotFault.TheVariants.{BadRegister, BadWidth, TruncatedWide}
use Rattle.bpf_words.specs.Opcodes.{opcode_of}
use Rattle.bpf_words.specs.Slots.{slot_at, fields_of}
use Rattle.bpf_words.specs.Reading.{is_set, no_register, no_operand, other_is_set}
use Rattle.bpf_words.specs.Words.{next_slot}

-- the opcode names nothing
abbrev pub is_unknown : Opcode → Bool
is_unknown Undefined = true
is_unknown opcode = false

-- a call, an atomic or packet instruction, or another form of the wide load (section 5.4)
abbrev pub is_left_out : Opcode → Fields → Bool
is_left_out LeftOut fields = true
is_left_out LoadingWide fields = is_set fields.source
is_left_out opcode fields = false

-- a wide load in the last slot
abbrev pub is_truncated : Opcode → Option ℕ → Bool
is_truncated LoadingWide None = true
is_truncated opcode next = false

-- a register above r10
abbrev pub has_bad_register : Opcode → Fields → Bool
has_bad_register (Computing width operation by_register) fields =
    no_register fields.destination || no_operand by_register fields
has_bad_register (Negating width) fields = no_register fields.destination
has_bad_register (Converting conversion) fields = no_register fields.destination
has_bad_register (Branching width comparison by_register) fields =
    no_register fields.destination || no_operand by_register fields
has_bad_register (Loading size) fields = no_register fields.destination || no_register fields.source
has_bad_register (LoadingSigned size) fields = no_register fields.destination || no_register fields.source
has_bad_register (Storing size by_register) fields = no_register fields.destination || no_operand by_register fields
has_bad_register LoadingWide fields = no_register fields.destination
has_bad_register opcode fields = false

-- an offset that chooses no operation, or an immediate that chooses no width (sections 4.1 and 4.2)
abbrev pub has_bad_width : Opcode → Fields → Bool
has_bad_width (Computing width Div by_register) fields = not (fields.offset == 0 || fields.offset == 1)
has_bad_width (Computing width Mod by_register) fields = not (fields.offset == 0 || fields.offset == 1)
has_bad_width (Computing Full Mov true) fields =
    not (fields.offset == 0 || fields.offset == 8 || fields.offset == 16 || fields.offset == 32)
has_bad_width (Computing Narrow Mov true) fields = not (fields.offset == 0 || fields.offset == 8 || fields.offset == 16)
has_bad_width (Converting conversion) fields =
    not (fields.immediate == 16 || fields.immediate == 32 || fields.immediate == 64)
has_bad_width opcode fields = false

-- a field is set that the instruction doesn't use
abbrev pub has_unused_field : Opcode → Fields → Option ℕ → Bool
has_unused_field (Computing width Div by_register) fields next = other_is_set by_register fields
has_unused_field (Computing width Mod by_register) fields next = other_is_set by_register fields
has_unused_field (Computing width Mov true) fields next = other_is_set true fields
has_unused_field (Computing width operation by_register) fields next =
    is_set fields.offset || other_is_set by_register fields
has_unused_field (Negating width) fields next = is_set fields.source || is_set fields.offset || is_set fields.immediate
has_unused_field (Converting conversion) fields next = is_set fields.source || is_set fields.offset
has_unused_field Jumping fields next = is_set fields.destination || is_set fields.source || is_set fields.immediate
has_unused_field JumpingLong fields next = is_set fields.destination || is_set fields.source || is_set fields.offset
has_unused_field (Branching width comparison by_register) fields next = other_is_set by_register fields
has_unused_field (Loading size) fields next = is_set fields.immediate
has_unused_field (LoadingSigned size) fields next = is_set fields.immediate
has_unused_field (Storing size by_register) fields next = other_is_set by_register fields
has_unused_field LoadingWide fields (Some second) = is_set fields.offset || is_set (second % 2 ^ 32)
has_unused_field Exiting fields next =
    is_set fields.destination || is_set fields.source || is_set fields.offset || is_set fields.immediate
has_unused_field opcode fields next = false

-- the fault that is named: the first that the slot has
abbrev pub first_fault : Opcode → Fields → Option ℕ → Option SlotFault
first_fault opcode fields next =
    if is_unknown opcode then Some UnknownOpcode
    else if is_left_out opcode fields then Some OutOfProfile
    else if is_truncated opcode next then Some TruncatedWide
    else if has_bad_register opcode fields then Some BadRegister
    else if has_bad_width opcode fields then Some BadWidth
    else if has_unused_field opcode fields next then Some UnusedField
    else None

-- of the slot at an index, taken as an instruction's first
abbrev pub first_fault_at : List ℕ → ℕ → Option SlotFault
first_fault_at bytes index =
    let fields =
    fields_of (slot_at bytes index) in first_fault (opcode_of fields.opcode) fields (next_slot bytes (index + 1))
