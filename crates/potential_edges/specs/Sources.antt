-- Where what a holder holds behind an instruction comes from: a holder before it, and between which numbers lies how
-- much more there is.
use Rattle.std.specs.Prelude.{ℕ, ℤ, pos, ◌+◌, ◌^◌, ◌+ℤ◌, ◌-ℤ◌, nat_eq, nat_lt, int_le, int_lt, ◌&&◌, Bool, true, false}
use Rattle.std.specs.Prelude.{if◌then◌else◌, Option, Some, None, option_and_then}
use Rattle.bpf_words.specs.declared.instruction.Arithmetic.{Arithmetic}
use Rattle.bpf_words.specs.declared.instruction.Arithmetic.TheVariants.{Add, Sub, Mov}
use Rattle.bpf_words.specs.declared.instruction.Width.{Width}
use Rattle.bpf_words.specs.declared.instruction.Operand.{Operand}
use Rattle.bpf_words.specs.declared.instruction.Operand.TheVariants.{Immediate, Source as FromRegister}
use Rattle.bpf_words.specs.declared.instruction.Insn.{Insn}
use Rattle.bpf_words.specs.declared.instruction.Insn.TheVariants.{Compute}
use Rattle.bpf_words.specs.declared.instruction.Insn.TheVariants.{Store}
use Rattle.bpf_words.specs.Flow.{written_by}
use Rattle.intervals.specs.Interval.{Interval, interval_of, from_to}
use Rattle.semantics.specs.Value.{bits_of}
use Rattle.abstract_state.specs.declared.known.Known.{Known}
use Rattle.abstract_state.specs.declared.known.Known.TheVariants.{Number, Context, Stack, Lent}
use Rattle.abstract_state.specs.declared.state.AbsState.{AbsState}
use Rattle.abstract_state.specs.Lent.{base_of}
use Rattle.label_potentials.specs.declared.potential.Holder.{Holder}
use Rattle.label_potentials.specs.declared.potential.Holder.TheVariants.{Register, StackSlot}
use Rattle.potential_edges.specs.declared.source.Source.{Source}
use Rattle.label_potentials.specs.Counts.{held_in}

-- exactly so much more
abbrev pub exactly : Holder → ℤ → Source
exactly holder more = record { holder = holder; low = more; high = more }

abbrev pub from_register : ℕ → ℤ → Source
from_register register more = exactly (Register register) more

abbrev pub from_slot : ℕ → Source
from_slot slot = exactly (StackSlot slot) (pos 0)

-- ---- between which numbers a register's lies: a number's interval, or the addresses near a lent region
abbrev pub numbers_of : Known → Option Interval
numbers_of (Number q) = Some (interval_of q.range)
numbers_of (Context p) = None
numbers_of (Stack p) = None
numbers_of (Lent p) =
    Some (from_to (base_of p.region + p.offset.range.low) (base_of p.region + p.offset.range.high))

abbrev pub numbers_in : AbsState → ℕ → Option Interval
numbers_in a register = option_and_then numbers_of (held_in a (Register register))

-- none has more bits than the width
abbrev pub fits : Width → Interval → Bool
fits width range = nat_lt range.high (2 ^ bits_of width)

-- nor where so much more is added, and none is then below 0
abbrev pub stays : Width → Interval → ℤ → Bool
stays width range more =
    fits width range
    && (int_le (pos 0) (pos range.low +ℤ more) && int_lt (pos range.high +ℤ more) (pos (2 ^ bits_of width)))

-- ---- a sum or a difference with an immediate that can't wrap
abbrev pub shift_of : Arithmetic → ℤ → Option ℤ
shift_of Add value = Some value
shift_of Sub value = Some (pos 0 -ℤ value)
shift_of operation value = None

abbrev pub shifted_by : Width → ℕ → ℤ → Interval → Option Source
shifted_by width register more range = if stays width range more then Some (from_register register more) else None

abbrev pub shifted_in : AbsState → Width → Arithmetic → ℕ → ℤ → Option Source
shifted_in a width operation register value =
    option_and_then (λ more. option_and_then (shifted_by width register more) (numbers_in a register))
    (shift_of operation value)

-- ---- a move of a number that the width doesn't cut
abbrev pub moved_from : Width → ℕ → Interval → Option Source
moved_from width register range = if fits width range then Some (from_register register (pos 0)) else None

abbrev pub moved_in : AbsState → Width → ℕ → Option Source
moved_in a width register = option_and_then (moved_from width register) (numbers_in a register)

-- ---- a sum or a difference of two registers that can't wrap: the first one's number, and more by any that the second
-- may hold, where those have no more than 63 bits
abbrev pub shifts_by : Arithmetic → Interval → Option (ℤ × ℤ)
shifts_by Add by = Some (pos by.low, pos by.high)
shifts_by Sub by = Some (pos 0 -ℤ pos by.high, pos 0 -ℤ pos by.low)
shifts_by operation by = None

abbrev pub shifts_of : Arithmetic → Interval → Option (ℤ × ℤ)
shifts_of operation by =
    if nat_lt by.low (2 ^ 63) && nat_lt by.high (2 ^ 63) then shifts_by operation by else None

abbrev pub between : ℕ → ℤ × ℤ → Source
between register more = record { holder = Register register; low = more.0; high = more.1 }

abbrev pub ranged_by : Width → ℕ → ℤ × ℤ → Interval → Option Source
ranged_by width register more range =
    if stays width range more.0 && stays width range more.1 then Some (between register more) else None

abbrev pub ranged_in : AbsState → Width → Arithmetic → ℕ → ℕ → Option Source
ranged_in a width operation first second =
    option_and_then (λ more. option_and_then (ranged_by width first more) (numbers_in a first))
    (option_and_then (shifts_of operation) (numbers_in a second))

-- a sum is more than the address among its sides, if there is one, and else more than what was there
abbrev pub is_lent : Option Known → Bool
is_lent None = false
is_lent (Some (Number q)) = false
is_lent (Some (Context p)) = false
is_lent (Some (Stack p)) = false
is_lent (Some (Lent p)) = true

abbrev pub summed_in : AbsState → Width → ℕ → ℕ → Option Source
summed_in a width register other =
    if is_lent (held_in a (Register other)) then ranged_in a width Add other register
    else ranged_in a width Add register other

-- ---- of what an instruction writes only these are known
abbrev pub from_other : AbsState → Width → Arithmetic → ℕ → ℕ → Option Source
from_other a width Mov register other = moved_in a width other
from_other a width Add register other = summed_in a width register other
from_other a width Sub register other = ranged_in a width Sub register other
from_other a width operation register other = None

abbrev pub computed_in : AbsState → Width → Arithmetic → ℕ → Operand → Option Source
computed_in a width operation register (Immediate value) = shifted_in a width operation register value
computed_in a width operation register (FromRegister other) = from_other a width operation register other

abbrev pub written_in : AbsState → Insn → Option Source
written_in a (Compute width operation register operand) = computed_in a width operation register operand
written_in a insn = None

-- a register that isn't written stays as it is; a store may write to each slot of the stack, what else does to none
abbrev pub is_written : ℕ → Option ℕ → Bool
is_written register None = false
is_written register (Some other) = nat_eq other register

abbrev pub is_store : Insn → Bool
is_store (Store size base offset value) = true
is_store insn = false

abbrev pub source_in : AbsState → Insn → Holder → Option Source
source_in a insn (Register register) =
    if is_written register (written_by insn) then written_in a insn else Some (from_register register (pos 0))
source_in a insn (StackSlot slot) = if is_store insn then None else Some (from_slot slot)
