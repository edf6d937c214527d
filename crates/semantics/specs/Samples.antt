-- Two small programs, of which one is safe.
use Rattle.std.specs.Prelude.{pos, ◌∷◌, [], Some}
use Rattle.bpf_words.specs.declared.instruction.Width.TheVariants.{Full}
use Rattle.bpf_words.specs.declared.instruction.Arithmetic.TheVariants.{Mov}
use Rattle.bpf_words.specs.declared.instruction.Operand.TheVariants.{Immediate}
use Rattle.bpf_words.specs.declared.instruction.Insn.TheVariants.{Compute, Exit}
use Rattle.semantics.specs.Step.{Program}

-- r0 = 1 and an exit
abbrev pub returns_one : Program
returns_one = Some (Compute Full Mov 0 (Immediate (pos 1))) ∷ Some Exit ∷ []

-- an exit, with nothing in r0
abbrev pub exit_alone : Program
exit_alone = Some Exit ∷ []
