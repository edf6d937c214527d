-- Programs that work on numbers alone, and read of their context the fields that are numbers.
use Rattle.std.specs.Prelude.{◌≡◌, ◌≢◌, ℕ, pos, ◌+◌, ◌<◌, ◌⊎◌, List, [], ◌∷◌, Option, Some, None, true, Contains}
use Rattle.std.specs.Int.{cast_unsigned, w64}
use Rattle.bpf_words.specs.declared.instruction.Operand.{Operand}
use Rattle.bpf_words.specs.declared.instruction.Operand.TheVariants.{Immediate, Source}
use Rattle.bpf_words.specs.declared.instruction.Insn.{Insn}
use Rattle.bpf_words.specs.declared.instruction.Insn.TheVariants.{Compute, Negate, Extend, Convert, Jump, JumpLong}
use Rattle.bpf_words.specs.declared.instruction.Insn.TheVariants.{Branch, Load, LoadSigned, Store, LoadWide, Exit}
use Rattle.bpf_words.specs.Flow.{StartsAt, read_by, written_by, jump_of, falls_through, slots_of}
use Rattle.semantics.specs.Step.{Program}
use Rattle.abstract_state.specs.Kinds.{IsNumberField}
use Rattle.verifier.specs.Structure.{IsStructured}

-- r0, and r2 to r9
abbrev pub IsFree : ℕ → Type 0
IsFree register = (register < 10) × (register ≢ 1)

abbrev pub IsFreeOperand : Operand → Type 0
IsFreeOperand (Immediate value) = Unit {0}
IsFreeOperand (Source register) = IsFree register

-- arithmetic, jumps, an exit, and loads, from r1, of a field of the context that is a number; r1 and r10 have no other
-- use
abbrev pub IsPlainInsn : Insn → Type 0
IsPlainInsn (Compute width operation destination operand) = IsFree destination × IsFreeOperand operand
IsPlainInsn (Negate width destination) = IsFree destination
IsPlainInsn (Extend extension destination source) = IsFree destination × IsFree source
IsPlainInsn (Convert conversion bits destination) = IsFree destination
IsPlainInsn (Jump distance) = Unit {0}
IsPlainInsn (JumpLong distance) = Unit {0}
IsPlainInsn (Branch width comparison left right distance) = IsFree left × IsFreeOperand right
IsPlainInsn (Load size destination base offset) =
    IsFree destination × (base ≡ 1) × IsNumberField size (cast_unsigned w64 offset)
IsPlainInsn (LoadSigned size destination base offset) = ⊥
IsPlainInsn (Store size base offset value) = ⊥
IsPlainInsn (LoadWide destination value) = IsFree destination
IsPlainInsn Exit = Unit {0}

-- a run may go from an instruction at a slot to another slot
abbrev pub Leads : Insn → ℕ → ℕ → Type 0
Leads insn slot to =
    ((falls_through insn ≡ true) × (to ≡ slot + slots_of insn))
    ⊎ ((n : ℕ) × (jump_of insn ≡ Some (pos n)) × (to ≡ slot + 1 + n))

abbrev pub with_written : Option ℕ → List ℕ → List ℕ
with_written None done = done
with_written (Some register) done = register ∷ done

-- a path from the first slot to this one writes these registers
pub data Path (program : Program) : ℕ → List ℕ → Type 0 where
  begins : Path program 0 []
  goes : {slot to : ℕ} {done : List ℕ} {insn : Insn} → Path program slot done → StartsAt program slot insn
      → Leads insn slot to → Path program to (with_written (written_by insn) done)

-- each register but r1 that is read was written on every path
pub record IsPlain (program : Program) : Type 0 where
  pub structured : IsStructured program
  pub scalar : (slot : ℕ) (insn : Insn) → StartsAt program slot insn → IsPlainInsn insn
  pub set : (slot register : ℕ) (done : List ℕ) (insn : Insn) → Path program slot done → StartsAt program slot insn
      → Contains (read_by insn) register → register ≢ 1 → Contains done register
