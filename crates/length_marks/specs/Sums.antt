-- The mark of a sum and of a difference: that of one side, raised or lowered by the other side's one number.
use Rattle.std.specs.Prelude.{ℕ, ◌+◌, ◌-◌, ◌%◌, ◌^◌, nat_lt, nat_le, ◌&&◌, if◌then◌else◌, Option, Some, None}
use Rattle.std.specs.Prelude.{Result, Ok, Err, option_map, option_and_then}
use Rattle.std.specs.Option.{option_or}
use Rattle.bpf_words.specs.declared.instruction.Width.TheVariants.{Narrow}
use Rattle.bpf_words.specs.declared.instruction.Arithmetic.{Arithmetic}
use Rattle.bpf_words.specs.declared.instruction.Arithmetic.TheVariants.{Sub}
use Rattle.bpf_words.specs.declared.instruction.Operand.{Operand}
use Rattle.bpf_words.specs.declared.instruction.Operand.TheVariants.{Source}
use Rattle.abstract_state.specs.declared.refusal.Refusal.{Refusal}
use Rattle.abstract_state.specs.Estimate.{Estimate}
use Rattle.abstract_state.specs.Addresses.{Content, ANumber, number_of}
use Rattle.abstract_state.specs.Situation.{Registers, operand_of, read}
use Rattle.value_marks.specs.declared.mark.Mark.{Mark}
use Rattle.value_marks.specs.Mark.{raised_mark, lowered_mark}
use Rattle.value_marks.specs.Marking.{Marking, mark_register, named, shifted}

-- ---- the one number of what a side holds
abbrev pub number_in : Result Content Refusal → Option ℕ
number_in (Ok content) = number_of content
number_in (Err refusal) = None

-- ---- by all 64 bits
abbrev pub raised_by : Option ℕ → Option Mark → Option Mark
raised_by by mark = option_and_then (λ n. option_map (raised_mark n) mark) by

abbrev pub lowered_by : Option ℕ → Option Mark → Option Mark
lowered_by by mark = option_and_then (λ n. option_map (lowered_mark n) mark) by

-- the first side has one number: the second one is named as if it were copied
unfoldable pub onto : ℕ → ℕ → ℕ → ℕ → Registers → Marking → Marking
onto at d n source registers w =
    let mark = named at (registers source) (w.registers source) in
    mark_register d (option_map (raised_mark n) mark) (mark_register source mark w)

-- the second side's number is asked first
unfoldable pub sum_by : ℕ → ℕ → Operand → Option ℕ → Option ℕ → Registers → Marking → Marking
sum_by at d operand (Some n) first registers w = mark_register d (raised_by (Some n) (w.registers d)) w
sum_by at d (Source source) None (Some n) registers w = onto at d n source registers w
sum_by at d operand None first registers w = mark_register d None w

abbrev pub summed : ℕ → ℕ → Operand → Registers → Marking → Marking
summed at d operand registers w =
    sum_by at d operand (number_in (operand_of registers operand)) (number_in (read (registers d))) registers w

abbrev pub taken : ℕ → Operand → Registers → Marking → Marking
taken d operand registers w =
    mark_register d (lowered_by (number_in (operand_of registers operand)) (w.registers d)) w

-- ---- by 32 bits
-- a number that is added stays below 2^32 for sure, or passes it once for sure: then no bit of the mark is lost
unfoldable pub unwrapped : Estimate → ℕ → Mark → Option Mark
unwrapped a n m =
    if nat_lt (a.range.high + n) (2 ^ 32) then Some (raised_mark n m)
    else (if nat_lt a.range.high (2 ^ 32) && nat_le (2 ^ 32) (a.range.low + n)
    then Some (lowered_mark (2 ^ 32 - n) m) else None)

-- the low 32 bits of what is added; what is taken away is added as its complement
unfoldable pub addend : Arithmetic → ℕ → ℕ
addend Sub n = (2 ^ 32 - n % 2 ^ 32) % 2 ^ 32
addend operation n = n % 2 ^ 32

-- else the mark is one of 32 bits
unfoldable pub narrow_mark : Arithmetic → Option Content → ℕ → Mark → Option Mark
narrow_mark operation (Some (ANumber a)) n m =
    option_or (unwrapped a (addend operation n) m) (shifted Narrow operation n m)
narrow_mark operation content n m = shifted Narrow operation n m

unfoldable pub narrowed_by : Arithmetic → Option Content → Option ℕ → Option Mark → Option Mark
narrowed_by operation content by mark =
    option_and_then (λ n. option_and_then (narrow_mark operation content n) mark) by

abbrev pub narrowly : Arithmetic → ℕ → Operand → Registers → Marking → Marking
narrowly operation d operand registers w =
    mark_register d
    (narrowed_by operation (registers d) (number_in (operand_of registers operand)) (w.registers d)) w
