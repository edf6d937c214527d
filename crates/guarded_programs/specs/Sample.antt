-- Guarded programs, and one that isn't. First the filter examples/filters/first_byte: the text's first byte, or 0 where
-- it has none.
use Rattle.std.specs.Prelude.{pos, negsuc, Some, [], ◌∷◌}
use Rattle.span_context.specs.declared.size.Size.TheVariants.{Byte, Word, Double}
use Rattle.bpf_words.specs.declared.instruction.Insn.TheVariants.{Compute, Branch, Load, Exit}
use Rattle.bpf_words.specs.declared.instruction.Arithmetic.TheVariants.{Mov}
use Rattle.bpf_words.specs.declared.instruction.Comparison.TheVariants.{Equal, GreaterOrEqual}
use Rattle.bpf_words.specs.declared.instruction.Operand.TheVariants.{Immediate, Source}
use Rattle.bpf_words.specs.declared.instruction.Width.TheVariants.{Narrow, Full}
use Rattle.semantics.specs.Step.{Program}

abbrev pub first_byte : Program
first_byte =
    Some (Compute Full Mov 0 (Immediate (pos 0))) ∷ Some (Load Word 2 1 (pos 16))
    ∷ Some (Branch Narrow Equal 2 (Immediate (pos 0)) (pos 2)) ∷ Some (Load Double 1 1 (pos 0))
    ∷ Some (Load Byte 0 1 (pos 0)) ∷ Some Exit ∷ []

-- the same without its test
abbrev pub unguarded : Program
unguarded =
    Some (Compute Full Mov 0 (Immediate (pos 0))) ∷ Some (Load Double 1 1 (pos 0)) ∷ Some (Load Byte 0 1 (pos 0))
    ∷ Some Exit ∷ []

-- the filter examples/filters/question: 1 where the text ends with a question mark
abbrev pub question : Program
question =
    Some (Compute Full Mov 0 (Immediate (pos 0))) ∷ Some (Load Double 2 1 (pos 8)) ∷ Some (Load Double 1 1 (pos 0))
    ∷ Some (Branch Full GreaterOrEqual 1 (Source 2) (pos 4)) ∷ Some (Load Byte 1 2 (negsuc 0))
    ∷ Some (Compute Narrow Mov 0 (Immediate (pos 1))) ∷ Some (Branch Narrow Equal 1 (Immediate (pos 63)) (pos 1))
    ∷ Some (Compute Narrow Mov 0 (Immediate (pos 0))) ∷ Some Exit ∷ []
