-- What an instruction wants of one value before it that is refused for what is known of that value.
use Rattle.std.specs.Prelude.{ℕ, ◌-◌, ◌^◌, Bool, true, false, ℤ, pos, negsuc, ◌+ℤ◌, neg_ℤ, int_lt}
use Rattle.std.specs.Prelude.{if◌then◌else◌, Option, Some, None, is_some, ◌||◌, option_map, option_and_then}
use Rattle.std.specs.Option.{option_map_or}
use Rattle.std.specs.Int.{cast_signed, w64}
use Rattle.bpf_words.specs.declared.instruction.Arithmetic.{Arithmetic}
use Rattle.bpf_words.specs.declared.instruction.Arithmetic.TheVariants.{Add, Sub, Mov}
use Rattle.bpf_words.specs.declared.instruction.Width.{Width}
use Rattle.bpf_words.specs.declared.instruction.Width.TheVariants.{Full}
use Rattle.bpf_words.specs.declared.instruction.Operand.{Operand}
use Rattle.bpf_words.specs.declared.instruction.Operand.TheVariants.{Immediate, Source}
use Rattle.bpf_words.specs.declared.instruction.Insn.{Insn}
use Rattle.bpf_words.specs.declared.instruction.Insn.TheVariants.{Compute, Negate, Extend, Convert, Branch, Load}
use Rattle.bpf_words.specs.declared.instruction.Insn.TheVariants.{LoadSigned, Store, Exit}
use Rattle.semantics.specs.Memory.{bytes_in, bytes_in_signed}
use Rattle.abstract_state.specs.declared.region.Region.{Region}
use Rattle.abstract_state.specs.declared.refusal.Refusal.{Refusal}
use Rattle.abstract_state.specs.declared.refusal.Refusal.TheVariants as refusal
use Rattle.abstract_state.specs.Estimate.{Estimate, only}
use Rattle.abstract_state.specs.Addresses.{Content, ANumber, InStack, InRegion}
use Rattle.abstract_state.specs.Situation.{Registers, Situation}
use Rattle.refusal_needs.specs.declared.wanted.Place.TheVariants.{Register, Bytes}
use Rattle.refusal_needs.specs.declared.wanted.Need.{Need}
use Rattle.refusal_needs.specs.declared.wanted.Need.TheVariants.{Set, Number, OneNumber, Address, StackAddress}
use Rattle.refusal_needs.specs.declared.wanted.Need.TheVariants.{Within, Behind, AtMost}
use Rattle.refusal_needs.specs.declared.wanted.Wanted.{Wanted}
use Rattle.refusal_needs.specs.declared.access.Access.{Access}
use Rattle.refusal_needs.specs.Wanted.{in_i64, moved, is_number, estimate_in, one_in}

abbrev pub of_register : Need → ℕ → Wanted
of_register need register = record { place = Register register; need = need }

-- ---- 15: a register may be unset
-- of two that are read, the first that may be; a constant is always there
abbrev pub first_unset : Registers → ℕ → Operand → Option ℕ
first_unset registers first (Immediate value) = if is_some (registers first) then None else Some first
first_unset registers first (Source second) = Some (if is_some (registers first) then second else first)

-- a move reads its operand alone
abbrev pub unset_operand : Registers → Arithmetic → ℕ → Operand → Option ℕ
unset_operand registers Mov destination (Source register) = Some register
unset_operand registers operation destination operand = first_unset registers destination operand

unfoldable pub unset_in : Registers → Insn → Option ℕ
unset_in registers (Compute width operation destination operand) = unset_operand registers operation destination operand
unset_in registers (Negate width destination) = Some destination
unset_in registers (Extend extension destination source) = Some source
unset_in registers (Convert conversion bits destination) = Some destination
unset_in registers (Branch width comparison left right distance) = first_unset registers left right
unset_in registers (Load size destination base offset) = Some base
unset_in registers (LoadSigned size destination base offset) = Some base
unset_in registers (Store size base offset value) = first_unset registers base value
unset_in registers Exit = Some 0
unset_in registers insn = None

-- ---- 16: arithmetic with an address
-- to an address all 64 bits of a number may be added, or taken from it
abbrev pub may_move : Arithmetic → Width → Bool
may_move Add Full = true
may_move Sub Full = true
may_move operation width = false

-- where the first side may stand, the second is to be a number; where it is one, one number for sure
abbrev pub second_number : ℕ → Content → Option Wanted
second_number register content =
    if is_number content
    then (if is_some (one_in content) then None else Some (of_register OneNumber register))
    else Some (of_register Number register)

abbrev pub second_for : Registers → Operand → Option Wanted
second_for registers (Immediate value) = None
second_for registers (Source register) = option_and_then (second_number register) (registers register)

-- else the first side is to be a number
abbrev pub first_for : Registers → Bool → ℕ → Operand → Content → Option Wanted
first_for registers movable destination operand content =
    if is_number content || movable then second_for registers operand else Some (of_register Number destination)

-- of an address less than all 64 bits were moved
abbrev pub moved_for : Registers → Operand → Option Wanted
moved_for registers (Immediate value) = None
moved_for registers (Source register) = option_map (λ content. of_register Number register) (registers register)

abbrev pub computed_for : Registers → Width → Arithmetic → ℕ → Operand → Option Wanted
computed_for registers width Mov destination operand = moved_for registers operand
computed_for registers width operation destination operand =
    option_and_then (first_for registers (may_move operation width) destination operand) (registers destination)

unfoldable pub arithmetic_for : Registers → Insn → Option Wanted
arithmetic_for registers (Compute width operation destination operand) =
    computed_for registers width operation destination operand
arithmetic_for registers (Negate width destination) = Some (of_register Number destination)
arithmetic_for registers (Convert conversion bits destination) = Some (of_register Number destination)
arithmetic_for registers (Extend extension destination source) = Some (of_register Number source)
arithmetic_for registers insn = None

-- ---- 17: a comparison of a number with an address, which is to be a number; of two addresses it is neither
abbrev pub address_among : ℕ → Content → ℕ → Content → Option ℕ
address_among left a right b = if is_number a then Some right else (if is_number b then Some left else None)

-- what isn't known to be an address is no register's value, or a register's that may be unset
abbrev pub compared_with : Registers → ℕ → Operand → Content → Option ℕ
compared_with registers left (Immediate value) a = Some left
compared_with registers left (Source right) a = option_map_or (address_among left a right) (registers right) (Some left)

unfoldable pub compared_in : Registers → Insn → Option ℕ
compared_in registers (Branch width comparison left right distance) =
    option_and_then (compared_with registers left right) (registers left)
compared_in registers insn = None

-- ---- loads and stores
-- the base, the offset and the bytes of a load
unfoldable pub load_in : Insn → Option Access
load_in (Load size destination base offset) = Some (record { base = base; offset = offset; bytes = bytes_in size })
load_in (LoadSigned size destination base offset) =
    Some (record { base = base; offset = offset; bytes = bytes_in_signed size })
load_in insn = None

-- what is wanted of a load's base, by what is known of it
abbrev pub of_load : (Access → Content → Option Wanted) → Registers → Insn → Option Wanted
of_load wanted registers insn =
    option_and_then (λ access. option_and_then (wanted access) (registers access.base)) (load_in insn)

-- ---- 20: bytes of the stack that may be unset: those that the load takes
abbrev pub stack_bytes : ℕ → ℤ → Option Wanted
stack_bytes count (pos first) = Some (record { place = Bytes first count; need = Set })
stack_bytes count (negsuc n) = None

abbrev pub stack_for : Access → Content → Option Wanted
stack_for access (InStack p) = option_and_then (stack_bytes access.bytes) (moved p access.offset)
stack_for access content = None

-- ---- 21: a load that may leave its region: where its first byte may lie before the start, the base is to be so far
-- behind that, else its last byte is to lie within
abbrev pub bounds_need : Region → Access → ℤ → Option Need
bounds_need region access first =
    if int_lt first (pos 0)
    then option_map (Behind region) (in_i64 (neg_ℤ access.offset))
    else option_map (Within region) (in_i64 (access.offset +ℤ pos access.bytes))

abbrev pub loaded_for : Access → Content → Option Wanted
loaded_for access (InRegion region a) =
    option_map
    (λ need. of_register need access.base)
    (option_and_then (bounds_need region access) (moved a.range.low access.offset))
loaded_for access content = None

-- ---- 22: an address that may lie too far behind its region's start, or before it
-- the one number that an operand is
abbrev pub number_in : Content → Option ℤ
number_in (ANumber a) = option_map (cast_signed w64) (only a)
number_in content = None

abbrev pub operand_number : Registers → Operand → Option ℤ
operand_number registers (Immediate value) = Some value
operand_number registers (Source register) = option_and_then number_in (registers register)

-- by how much an operation with one number moves what it works on
unfoldable pub moved_by : Situation → Arithmetic → Operand → Option ℤ
moved_by s Add operand = operand_number s.registers operand
moved_by s Sub operand = option_and_then (λ by. in_i64 (neg_ℤ by)) (operand_number s.registers operand)
moved_by s operation operand = None

-- moved by one number, an address is to be so far behind the start
abbrev pub start_for : ℕ → Region → ℤ → Option Wanted
start_for register region by = option_map (λ bytes. of_register (Behind region bytes) register) (in_i64 (neg_ℤ by))

abbrev pub shifted_for : Option ℤ → ℕ → Content → Option Wanted
shifted_for by destination (InRegion region a) = option_and_then (start_for destination region) by
shifted_for by destination content = None

-- what is added to an address is to be no more than what keeps it near
abbrev pub near_for : ℕ → Estimate → Wanted
near_for register a = of_register (AtMost (2 ^ 20 - a.range.high)) register

-- a number and an address are added
abbrev pub sum_for : ℕ → Content → ℕ → Content → Option Wanted
sum_for left (ANumber a) right (InRegion region b) = Some (near_for left b)
sum_for left (InRegion region a) right (ANumber b) = Some (near_for right a)
sum_for left a right b = None

-- what is taken away is to be no more than the least of that from which it is taken, unless it is one number
abbrev pub difference_for : Option ℤ → ℕ → Content → ℕ → Content → Option Wanted
difference_for by left a right b =
    if is_some (one_in b)
    then shifted_for by left a
    else option_map (λ x. of_register (AtMost x.range.low) right) (estimate_in a)

abbrev pub offset_for : Situation → Arithmetic → ℕ → Operand → Content → Option Wanted
offset_for s Add left (Source right) a = option_and_then (sum_for left a right) (s.registers right)
offset_for s Sub left (Source right) a =
    option_and_then (difference_for (moved_by s Sub (Source right)) left a right) (s.registers right)
offset_for s operation left operand a = shifted_for (moved_by s operation operand) left a

unfoldable pub offset_in : Situation → Insn → Option Wanted
offset_in s (Compute width operation destination operand) =
    option_and_then (offset_for s operation destination operand) (s.registers destination)
offset_in s insn = None

-- ---- 23, 24: the base of a load or a store
unfoldable pub base_in : Insn → Option ℕ
base_in (Load size destination base offset) = Some base
base_in (LoadSigned size destination base offset) = Some base
base_in (Store size base offset value) = Some base
base_in insn = None

-- ---- 25: an address that is stored is to be a number
unfoldable pub stored_in : Insn → Option ℕ
stored_in (Store size base offset (Source register)) = Some register
stored_in insn = None

-- ---- by refusals; of a field of the context, and of what leaves the stack, nothing is told
unfoldable pub refused_for : Situation → Insn → Refusal → Option Wanted
refused_for s insn refusal.UnsetRegister = option_map (of_register Set) (unset_in s.registers insn)
refused_for s insn refusal.PointerArithmetic = arithmetic_for s.registers insn
refused_for s insn refusal.PointerCompare = option_map (of_register Number) (compared_in s.registers insn)
refused_for s insn refusal.StackUnset = of_load stack_for s.registers insn
refused_for s insn refusal.TextBounds = of_load loaded_for s.registers insn
refused_for s insn refusal.TextOffset = offset_in s insn
refused_for s insn refusal.ReadOnlyStore = option_map (of_register StackAddress) (base_in insn)
refused_for s insn refusal.NotAnAddress = option_map (of_register Address) (base_in insn)
refused_for s insn refusal.PointerStore = option_map (of_register Number) (stored_in insn)
refused_for s insn refusal.ReturnPointer = Some (of_register Number 0)
refused_for s insn refusal.ContextField = None
refused_for s insn refusal.StackBounds = None
