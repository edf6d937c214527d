-- What the rules give, said of few instructions.
use Rattle.std.specs.Prelude.{◌≡◌, ◌≢◌, ◌<◌, ◌≤◌, ◌^◌, ℕ, pos, negsuc, Option, Some, None}
use Rattle.span_context.specs.declared.size.Size.TheVariants.{Word, Double}
use Rattle.bpf_words.specs.declared.instruction.Insn.{Insn}
use Rattle.bpf_words.specs.declared.instruction.Insn.TheVariants.{Compute, Load}
use Rattle.bpf_words.specs.declared.instruction.Arithmetic.TheVariants.{Add, Sub}
use Rattle.bpf_words.specs.declared.instruction.Operand.TheVariants.{Immediate, Source}
use Rattle.bpf_words.specs.declared.instruction.Width.TheVariants.{Narrow, Full}
use Rattle.abstract_state.specs.declared.region.Region.{Region}
use Rattle.abstract_state.specs.Lent.{base_of, end_field}
use Rattle.abstract_state.specs.Estimate.{Estimate}
use Rattle.abstract_state.specs.Addresses.{ANumber, InContext}
use Rattle.abstract_state.specs.Situation.{Situation, read}
use Rattle.value_marks.specs.declared.mark.Mark.{Mark}
use Rattle.value_marks.specs.Mark.{raised_mark, lowered_mark}
use Rattle.value_marks.specs.Marking.{Marking}
use Rattle.length_marks.specs.Lengths.{length_field, length_mark}
use Rattle.length_marks.specs.Sums.{number_in}
use Rattle.length_marks.specs.Following.{followed}

-- what a register bears after an instruction
abbrev pub mark_after : ℕ → Insn → Situation → Marking → ℕ → Option Mark
mark_after at insn s w register = (followed at insn s w).registers register

-- a region's length and the address of its end bear one name: the end's mark is the length's, raised by the base
abbrev pub SharesName : Region → Type 0
SharesName region =
    (at d base : ℕ) (s : Situation) (w : Marking) → s.registers base ≡ Some (InContext 0)
    → (mark_after at (Load Word d base (pos (length_field region))) s w d ≡ Some (length_mark region))
    × (mark_after at (Load Double d base (pos (end_field region))) s w d
    ≡ Some (raised_mark (base_of region) (length_mark region)))

-- a known number, as a region's address, is added to a register with a mark, or that to it, or it is taken away
abbrev pub SumsTurn : Type 0
SumsTurn =
    (at d e n : ℕ) (m : Mark) (s : Situation) (w : Marking) → m.origin ≢ at → w.registers e ≡ Some m
    → number_in (read (s.registers d)) ≡ Some n → number_in (read (s.registers e)) ≡ None
    → (mark_after at (Compute Full Add d (Source e)) s w d ≡ Some (raised_mark n m))
    × (mark_after at (Compute Full Add e (Source d)) s w e ≡ Some (raised_mark n m))
    × (mark_after at (Compute Full Sub e (Source d)) s w e ≡ Some (lowered_mark n m))

-- a counter of 32 bits that isn't 0 goes down by 1, whichever way it is written
abbrev pub CountsDown : Type 0
CountsDown =
    (at d : ℕ) (a : Estimate) (m : Mark) (s : Situation) (w : Marking) → m.origin ≢ at → w.registers d ≡ Some m
    → s.registers d ≡ Some (ANumber a) → 1 ≤ a.range.low → a.range.low ≤ a.range.high → a.range.high < 2 ^ 32
    → (mark_after at (Compute Narrow Sub d (Immediate (pos 1))) s w d ≡ Some (lowered_mark 1 m))
    × (mark_after at (Compute Narrow Add d (Immediate (negsuc 0))) s w d ≡ Some (lowered_mark 1 m))
