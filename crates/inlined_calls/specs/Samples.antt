-- Two functions, of which the first calls the second, and a program that is both with the call inlined.
use Rattle.std.specs.Prelude.{pos, negsuc, List, [], ◌∷◌, Option, Some, true, false}
use Rattle.span_context.specs.declared.size.Size.TheVariants.{Double}
use Rattle.bpf_words.specs.declared.instruction.Width.TheVariants.{Full}
use Rattle.bpf_words.specs.declared.instruction.Arithmetic.TheVariants.{Add, Mov}
use Rattle.bpf_words.specs.declared.instruction.Operand.TheVariants.{Immediate, Source}
use Rattle.bpf_words.specs.declared.instruction.Insn.{Insn}
use Rattle.bpf_words.specs.declared.instruction.Insn.TheVariants.{Compute, Load, Store, Exit}
use Rattle.semantics.specs.Step.{Program}
use Rattle.inlined_calls.specs.declared.functions.FunctionSlot.{FunctionSlot}
use Rattle.inlined_calls.specs.declared.functions.FunctionSlot.TheVariants.{Plain, Call}
use Rattle.inlined_calls.specs.declared.functions.Caller.{Caller}
use Rattle.inlined_calls.specs.Calls.{Body, Place, place_at}
use Rattle.inlined_calls.specs.Inlined.{Placed, placed}

-- r6 = r1, a call that keeps r6, r0 += r6 and an exit; 8 bytes of its frame are its own
abbrev pub calling : Body
calling = record {
  slots =
      Plain (Compute Full Mov 6 (Source 1)) ∷ Call 1 (true ∷ false ∷ false ∷ false ∷ [])
      ∷ Plain (Compute Full Add 0 (Source 6)) ∷ Plain Exit ∷ [];
  depth = 8;
}

-- r1 goes to its frame, r6 = 3, r0 comes from its frame
abbrev pub called : Body
called = record {
  slots =
      Plain (Store Double 10 (negsuc 7) (Source 1)) ∷ Plain (Compute Full Mov 6 (Immediate (pos 3)))
      ∷ Plain (Load Double 0 10 (negsuc 7)) ∷ Plain Exit ∷ [];
  depth = 8;
}

abbrev pub sample_functions : List Body
sample_functions = calling ∷ called ∷ []

-- the second function's frame begins 16 bytes down: under 8 of the first one's frame, and the cell of r6
abbrev pub with_store : Insn → Program
with_store insn =
    Some (Compute Full Mov 6 (Source 1)) ∷ Some (Store Double 10 (negsuc 15) (Source 6)) ∷ Some insn
    ∷ Some (Compute Full Mov 6 (Immediate (pos 3))) ∷ Some (Load Double 0 10 (negsuc 23))
    ∷ Some (Load Double 6 10 (negsuc 15)) ∷ Some (Compute Full Add 0 (Source 6)) ∷ Some Exit ∷ []

abbrev pub sample_program : Program
sample_program = with_store (Store Double 10 (negsuc 23) (Source 1))

-- the same where the store's offset is that of the function by itself
abbrev pub unmoved_program : Program
unmoved_program = with_store (Store Double 10 (negsuc 7) (Source 1))

abbrev pub call_of_sample : Caller
call_of_sample = record { function = 0; slot = 1 }

abbrev pub sample_places : List Placed
sample_places =
    placed 0 (place_at 0 0 []) ∷ placed 1 (place_at 0 1 []) ∷ placed 2 (place_at 1 0 (call_of_sample ∷ []))
    ∷ placed 3 (place_at 1 1 (call_of_sample ∷ [])) ∷ placed 4 (place_at 1 2 (call_of_sample ∷ []))
    ∷ placed 5 (place_at 1 3 (call_of_sample ∷ [])) ∷ placed 6 (place_at 0 2 []) ∷ placed 7 (place_at 0 3 []) ∷ []
