-- A program that contexts 1 and 2 accept, and context 3 refuses.
use Rattle.std.specs.Prelude.{pos, negsuc, [], ◌∷◌, Some}
use Rattle.span_context.specs.declared.size.Size.TheVariants.{Word}
use Rattle.bpf_words.specs.declared.instruction.Width.TheVariants.{Narrow, Full}
use Rattle.bpf_words.specs.declared.instruction.Arithmetic.TheVariants.{Add, Sub, And, Mov}
use Rattle.bpf_words.specs.declared.instruction.Comparison.TheVariants.{Greater, Less}
use Rattle.bpf_words.specs.declared.instruction.Operand.TheVariants.{Immediate, Source}
use Rattle.bpf_words.specs.declared.instruction.Insn.TheVariants.{Compute, Branch, Load, Exit}
use Rattle.semantics.specs.Step.{Program}

-- r2 is 3 by its interval, and by its bits at most 3. Context 3 knows that the jump at slot 7 is not taken; where the
-- others join its two ways, the bits of r2 are taken from its interval once more, and are all known
abbrev pub joined_twice : Program
joined_twice =
    Some (Load Word 4 1 (pos 24)) ∷ Some (Compute Full And 4 (Immediate (pos 1)))
    ∷ Some (Compute Narrow Add 4 (Immediate (negsuc 2147483647))) ∷ Some (Load Word 2 1 (pos 24))
    ∷ Some (Compute Full And 2 (Immediate (pos 11))) ∷ Some (Branch Full Less 2 (Immediate (pos 3)) (pos 5))
    ∷ Some (Branch Full Greater 2 (Immediate (pos 7)) (pos 4)) ∷ Some (Branch Full Less 4 (Immediate (pos 5)) (pos 0))
    ∷ Some (Compute Full And 2 (Immediate (pos 1))) ∷ Some (Compute Full Mov 3 (Source 10))
    ∷ Some (Compute Full Sub 3 (Source 2)) ∷ Some (Compute Full Mov 0 (Immediate (pos 0))) ∷ Some Exit ∷ []
