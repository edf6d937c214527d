-- Small programs, and what is printed of their steps.
use Rattle.std.specs.Prelude.{ℕ, negsuc, ◌∷◌, [], ◌++◌, List, codes, Some, None}
use Rattle.span_context.specs.Context.{SpanBytes, span_bytes}
use Rattle.span_context.specs.declared.size.Size.TheVariants.{Double}
use Rattle.bpf_words.specs.declared.instruction.Operand.TheVariants.{Source}
use Rattle.bpf_words.specs.declared.instruction.Insn.TheVariants.{Store, LoadWide, Jump, Exit}
use Rattle.semantics.specs.Step.{Program}

-- of `returns_one`, within one step and within two
abbrev pub first_told : List ℕ
first_told = codes "slot 0: mov r0, 1\n  r0 = 1\n"

abbrev pub both_told : List ℕ
both_told = first_told ++ codes "slot 1: exit\n"

-- a wide load, and a jump back to its second slot
abbrev pub jumps_into_load : Program
jumps_into_load = Some (LoadWide 2 0x4_0000_0005) ∷ None ∷ Some (Jump (negsuc 1)) ∷ []

abbrev pub jump_told : List ℕ
jump_told =
    codes "slot 0: lddw r2, 17179869189\n  r2 = 17179869189, text+5\n"
    ++ codes "slot 2: ja -2\nslot 1: the second slot of a wide load\n"

-- the context's address is put on the stack, and the exit finds nothing in r0
abbrev pub keeps_address : Program
keeps_address = Some (Store Double 10 (negsuc 7) (Source 1)) ∷ Some Exit ∷ []

abbrev pub store_told : List ℕ
store_told = codes "slot 0: stxdw [r10-8], r1\n  [stack-8] = 4294967296, context+0\nslot 1: exit\n"

-- nothing is lent
abbrev pub nothing_lent : SpanBytes
nothing_lent = span_bytes [] [] []
