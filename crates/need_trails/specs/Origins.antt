-- What an instruction makes of the value that is wanted behind it.
use Rattle.std.specs.Prelude.{ℕ, ◌+◌, ◌-◌, ◌*◌, ◌/◌, ◌%◌, ◌^◌, nat_le, nat_lt, nat_eq, Bool, true, false, ◌&&◌}
use Rattle.std.specs.Prelude.{ℤ, pos, negsuc, ◌+ℤ◌, ◌-ℤ◌, neg_ℤ, if◌then◌else◌, Option, Some, None, is_some}
use Rattle.std.specs.Prelude.{option_map, option_and_then, unwrap_or}
use Rattle.std.specs.Option.{option_map_or}
use Rattle.span_context.specs.declared.size.Size.{Size}
use Rattle.span_context.specs.declared.size.Size.TheVariants.{Byte, Half, Word, Double}
use Rattle.bpf_words.specs.declared.instruction.Arithmetic.{Arithmetic}
use Rattle.bpf_words.specs.declared.instruction.Arithmetic.TheVariants.{Add, Mov}
use Rattle.bpf_words.specs.declared.instruction.Width.{Width}
use Rattle.bpf_words.specs.declared.instruction.Width.TheVariants.{Narrow, Full}
use Rattle.bpf_words.specs.declared.instruction.Operand.{Operand}
use Rattle.bpf_words.specs.declared.instruction.Operand.TheVariants.{Immediate, Source}
use Rattle.bpf_words.specs.declared.instruction.Insn.{Insn}
use Rattle.bpf_words.specs.declared.instruction.Insn.TheVariants.{Compute, Load, Store}
use Rattle.bpf_words.specs.Flow.{written_by}
use Rattle.semantics.specs.Memory.{bytes_in}
use Rattle.intervals.specs.Interval.{Interval}
use Rattle.abstract_state.specs.Estimate.{Estimate}
use Rattle.abstract_state.specs.Addresses.{Content, ANumber, InContext, InStack, InRegion}
use Rattle.abstract_state.specs.Situation.{Situation}
use Rattle.refusal_needs.specs.declared.wanted.Place.{Place}
use Rattle.refusal_needs.specs.declared.wanted.Place.TheVariants.{Register, Eight, Bytes}
use Rattle.refusal_needs.specs.declared.wanted.Need.{Need}
use Rattle.refusal_needs.specs.declared.wanted.Need.TheVariants.{Set, Number, OneNumber, Address, StackAddress}
use Rattle.refusal_needs.specs.declared.wanted.Need.TheVariants.{Within, Behind, AtMost}
use Rattle.refusal_needs.specs.declared.wanted.Wanted.{Wanted}
use Rattle.refusal_needs.specs.Wanted.{in_i64, held, estimate_in, one_in}
use Rattle.refusal_needs.specs.Refused.{moved_by}
use Rattle.need_trails.specs.declared.origin.Origin.{Origin}
use Rattle.need_trails.specs.declared.origin.Origin.TheVariants.{Left, Of, Written}

-- ---- numbers of 64 bits without sign
-- a number, where it is one of these
unfoldable pub in_u64 : ℤ → Option ℕ
in_u64 (pos n) = if nat_lt n (2 ^ 64) then Some n else None
in_u64 (negsuc n) = None

-- a number without sign, moved by one with sign
abbrev pub moved : ℕ → ℤ → Option ℕ
moved n by = in_u64 (pos n +ℤ by)

-- ---- sums
-- what is wanted of a value to which a constant is added, so that this is so of the sum
unfoldable pub before_adding : Need → ℤ → Option Need
before_adding Set by = None
before_adding Number by = Some Number
before_adding OneNumber by = Some OneNumber
before_adding Address by = Some Address
before_adding StackAddress by = Some StackAddress
before_adding (Within region bytes) by = option_map (Within region) (in_i64 (bytes +ℤ by))
before_adding (Behind region bytes) by = option_map (Behind region) (in_i64 (bytes -ℤ by))
before_adding (AtMost most) by = option_map AtMost (option_and_then (moved most) (in_i64 (neg_ℤ by)))

abbrev pub in_register : ℕ → Need → Origin
in_register register need = Of (record { place = Register register; need = need })

-- the greatest number of a width
abbrev pub most_of : Width → ℕ
most_of Narrow = 2 ^ 32 - 1
most_of Full = 2 ^ 64 - 1

abbrev pub is_no_more : ℕ → Option ℕ → Bool
is_no_more most None = false
is_no_more most (Some n) = nat_le n most

-- the numbers of a range and their sums with a constant are of that width
unfoldable pub stays : Width → Interval → ℤ → Bool
stays width range by =
    is_some (moved range.low by)
    && (nat_le range.high (most_of width) && is_no_more (most_of width) (moved range.high by))

-- a sum of a register's value and a constant, where none wraps
unfoldable pub shifted : ℕ → Width → ℤ → Need → Estimate → Option Origin
shifted register width by need a =
    if stays width a.range by then option_map (in_register register) (before_adding need by) else None

abbrev pub shifted_content : ℕ → Width → ℤ → Need → Content → Option Origin
shifted_content register width by need content = option_and_then (shifted register width by need) (estimate_in content)

-- a move: of all bits, or of a number of no more than 32
unfoldable pub moved_origin : Situation → Width → Operand → Need → Option Origin
moved_origin s width (Immediate value) need = None
moved_origin s Full (Source register) need = Some (in_register register need)
moved_origin s Narrow (Source register) need =
    option_and_then (shifted_content register Narrow (pos 0) need) (held s (Register register))

-- of the values of two registers that are added, one is one number for sure
abbrev pub either_shifted : ℕ → ℕ → Need → Content → Content → Option Origin
either_shifted left right need a b =
    option_map_or
    (λ by. shifted_content right Full by need b)
    (one_in a)
    (option_and_then (λ by. shifted_content left Full by need a) (one_in b))

abbrev pub sum_origin : Situation → Width → Arithmetic → ℕ → Operand → Need → Content → Option Origin
sum_origin s Full Add left (Source right) need a =
    option_and_then (either_shifted left right need a) (held s (Register right))
sum_origin s width operation left operand need a = None

-- a sum or a difference: of one value and a constant, it is that value's
unfoldable pub added_origin : Situation → Width → Arithmetic → ℕ → Operand → Need → Content → Option Origin
added_origin s width operation left operand need a =
    option_map_or
    (λ by. shifted_content left width by need a)
    (moved_by s operation operand)
    (sum_origin s width operation left operand need a)

abbrev pub computed_origin : Situation → Width → Arithmetic → ℕ → Operand → Need → Option Origin
computed_origin s width Mov destination operand need = moved_origin s width operand need
computed_origin s width operation destination operand need =
    option_and_then (added_origin s width operation destination operand need) (held s (Register destination))

-- ---- loads and stores of the stack
abbrev pub stack_offset : Content → Option ℕ
stack_offset (ANumber a) = None
stack_offset (InContext p) = None
stack_offset (InStack p) = Some p
stack_offset (InRegion region a) = None

-- the first byte of the stack that a load or a store takes
unfoldable pub first_at : Situation → ℕ → ℤ → Option ℕ
first_at s base offset =
    option_and_then (λ p. moved p offset) (option_and_then stack_offset (held s (Register base)))

abbrev pub eighth : ℕ → Option ℕ
eighth first = if nat_eq (first % 8) 0 then Some (first / 8) else None

-- the index of the eight bytes of the stack at which a load or a store of all eight begins
abbrev pub eight_at : Situation → ℕ → ℤ → Option ℕ
eight_at s base offset = option_and_then eighth (first_at s base offset)

-- bytes from the first on reach into eight bytes of an index
abbrev pub reaches : ℕ → ℕ → ℕ → Bool
reaches first count index = nat_lt first (8 * index + 8) && nat_lt (8 * index) (first + count)

-- whether a store may write one of eight bytes of the stack
unfoldable pub may_write : Situation → Size → ℕ → ℤ → ℕ → Bool
may_write s size base offset index =
    option_map_or (λ first. reaches first (bytes_in size) index) (first_at s base offset) true

-- a load of eight bytes that stand in the stack as one value
abbrev pub eight_origin : Situation → Need → ℕ → Option Origin
eight_origin s need index =
    if is_some (held s (Eight index)) then Some (Of (record { place = Eight index; need = need })) else None

abbrev pub loaded_origin : Situation → Size → ℕ → ℤ → Need → Option Origin
loaded_origin s Byte base offset need = None
loaded_origin s Half base offset need = None
loaded_origin s Word base offset need = None
loaded_origin s Double base offset need = option_and_then (eight_origin s need) (eight_at s base offset)

-- ---- by where the value stands
-- what is wanted before an instruction that writes a register of which something is wanted behind it
unfoldable pub register_origin : Situation → Insn → Need → Option Origin
register_origin s (Compute width operation destination operand) need =
    computed_origin s width operation destination operand need
register_origin s (Load size destination base offset) need = loaded_origin s size base offset need
register_origin s insn need = None

abbrev pub is_at : ℕ → Option ℕ → Bool
is_at n None = false
is_at n (Some m) = nat_eq m n

abbrev pub origin_in_register : Situation → Insn → ℕ → Need → Origin
origin_in_register s insn number need =
    if is_at number (written_by insn) then unwrap_or (register_origin s insn need) Written else Left

-- a store of all eight bytes leaves a register's value there
abbrev pub whole_origin : Size → Operand → Bool → Need → Origin
whole_origin Double (Source register) true need = in_register register need
whole_origin size value there need = Written

abbrev pub stored_origin : Situation → Size → ℕ → ℤ → Operand → ℕ → Need → Origin
stored_origin s size base offset value index need =
    if may_write s size base offset index
    then whole_origin size value (is_at index (eight_at s base offset)) need
    else Left

unfoldable pub origin_in_eight : Situation → Insn → ℕ → Need → Origin
origin_in_eight s (Store size base offset value) index need = stored_origin s size base offset value index need
origin_in_eight s insn index need = Left

abbrev pub origin_at : Situation → Insn → Place → Need → Origin
origin_at s insn (Register number) need = origin_in_register s insn number need
origin_at s insn (Eight index) need = origin_in_eight s insn index need
origin_at s insn (Bytes first count) need = Left

-- what an instruction makes of the value that is wanted behind it
unfoldable pub origin_of : Situation → Insn → Wanted → Origin
origin_of s insn wanted = origin_at s insn wanted.place wanted.need
