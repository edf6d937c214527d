-- What an instruction makes of the marks: what it makes by the rules of value_marks, and beside these of lengths, sums
-- and differences.
use Rattle.std.specs.Prelude.{ℕ, ℤ, Some}
use Rattle.std.specs.Option.{option_map_or}
use Rattle.span_context.specs.declared.size.Size.{Size}
use Rattle.bpf_words.specs.declared.instruction.Insn.{Insn}
use Rattle.bpf_words.specs.declared.instruction.Insn.TheVariants.{Compute, Load}
use Rattle.bpf_words.specs.declared.instruction.Arithmetic.{Arithmetic}
use Rattle.bpf_words.specs.declared.instruction.Arithmetic.TheVariants.{Add, Sub}
use Rattle.bpf_words.specs.declared.instruction.Operand.{Operand}
use Rattle.bpf_words.specs.declared.instruction.Width.{Width}
use Rattle.bpf_words.specs.declared.instruction.Width.TheVariants.{Narrow, Full}
use Rattle.abstract_state.specs.Situation.{Situation, Registers}
use Rattle.value_marks.specs.Marking as marks
use Rattle.value_marks.specs.Marking.{Marking, mark_register}
use Rattle.length_marks.specs.Names.{without}
use Rattle.length_marks.specs.Lengths.{mark_at}
use Rattle.length_marks.specs.Sums.{summed, taken, narrowly}

unfoldable pub arithmetic : ℕ → Width → Arithmetic → ℕ → Operand → Registers → Marking → Marking
arithmetic at Full Add d operand registers w = summed at d operand registers w
arithmetic at Full Sub d operand registers w = taken d operand registers w
arithmetic at Narrow Add d operand registers w = narrowly Add d operand registers w
arithmetic at Narrow Sub d operand registers w = narrowly Sub d operand registers w
arithmetic at width operation d operand registers w = marks.arithmetic at width operation d operand registers w

abbrev pub loaded : ℕ → Size → ℕ → ℕ → ℤ → Situation → Marking → Marking
loaded at size d base offset s w =
    option_map_or (λ m. mark_register d (Some m) w) (mark_at size (s.registers base) offset)
    (marks.loaded at size d base offset s w)

unfoldable pub noted : ℕ → Insn → Situation → Marking → Marking
noted at (Compute width operation d operand) s w = arithmetic at width operation d operand s.registers w
noted at (Load size d base offset) s w = loaded at size d base offset s w
noted at insn s w = marks.followed at insn s w

abbrev pub followed : ℕ → Insn → Situation → Marking → Marking
followed at insn s w = noted at insn s (without at w)
