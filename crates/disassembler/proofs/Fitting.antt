-- The instructions that a program can hold.
use Rattle.std.proofs.Common.{List, [], ◌∷◌, Option, Some, None}
use Rattle.bpf_words.specs.declared.instruction.Insn.{Insn}
use Rattle.bpf_words.specs.Encoding.{IsInsn}

-- registers and numbers of each instruction of a program are in their ranges
abbrev pub EachFits : List (Option Insn) → Type 0
EachFits [] = Unit {0}
EachFits (Some insn ∷ program) = IsInsn insn × EachFits program
EachFits (None ∷ program) = EachFits program
