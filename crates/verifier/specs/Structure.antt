-- What has to be right of the instructions' positions and targets, whatever is known of the machine.
use Rattle.std.specs.Prelude.{◌≡◌, ◌≢◌, ℕ, ℤ, pos, negsuc, ◌+◌, ◌<◌, ◌≤◌, length, Some, None, slice_get}
use Rattle.bpf_words.specs.declared.instruction.Insn.{Insn}
use Rattle.bpf_words.specs.declared.instruction.Insn.TheVariants.{Exit}
use Rattle.bpf_words.specs.Flow.{StartsAt, jump_of, slots_of, written_by}
use Rattle.semantics.specs.Step.{Program}
use Rattle.verifier.specs.declared.refusal.StructureFault.{StructureFault}
use Rattle.verifier.specs.declared.refusal.StructureFault.TheVariants.{BackwardJump, JumpOut, JumpIntoWide, FallOff}
use Rattle.verifier.specs.declared.refusal.StructureFault.TheVariants.{WriteR10}
use Rattle.verifier.specs.declared.refusal.VerifyError.{VerifyError}
use Rattle.verifier.specs.declared.refusal.VerifyError.TheVariants.{Structure, State, OutOfMemory}

-- what is wrong with a jump of a distance, counted from the slot after it
abbrev pub JumpFaults : Program → ℕ → ℤ → StructureFault → Type 0
JumpFaults program slot distance BackwardJump = (n : ℕ) × (distance ≡ negsuc n)
JumpFaults program slot distance JumpOut = (n : ℕ) × (distance ≡ pos n) × (length program ≤ slot + 1 + n)
JumpFaults program slot distance JumpIntoWide =
    (n : ℕ) × (distance ≡ pos n) × (slice_get program (slot + 1 + n) ≡ Some None)
JumpFaults program slot distance FallOff = ⊥
JumpFaults program slot distance WriteR10 = ⊥

abbrev pub Jumps : Program → ℕ → Insn → StructureFault → Type 0
Jumps program slot insn fault = (distance : ℤ) × (jump_of insn ≡ Some distance) × JumpFaults program slot distance fault

-- what is wrong with an instruction at a slot
abbrev pub Faults : Program → ℕ → Insn → StructureFault → Type 0
Faults program slot insn BackwardJump = Jumps program slot insn BackwardJump
Faults program slot insn JumpOut = Jumps program slot insn JumpOut
Faults program slot insn JumpIntoWide = Jumps program slot insn JumpIntoWide
Faults program slot insn FallOff = (insn ≢ Exit) × (length program ≤ slot + slots_of insn)
Faults program slot insn WriteR10 = written_by insn ≡ Some 10

abbrev pub number_of : StructureFault → ℕ
number_of BackwardJump = 10
number_of JumpOut = 11
number_of JumpIntoWide = 12
number_of FallOff = 13
number_of WriteR10 = 14

-- the one with the least number
pub record LeastFault (program : Program) (slot : ℕ) (insn : Insn) (fault : StructureFault) : Type 0 where
  pub here : Faults program slot insn fault
  pub least : (other : StructureFault) → Faults program slot insn other → number_of fault ≤ number_of other

abbrev pub IsSound : Program → ℕ → Insn → Type 0
IsSound program slot insn = (fault : StructureFault) → Faults program slot insn fault → ⊥

-- no instruction below a slot is at fault
abbrev pub AreSound : Program → ℕ → Type 0
AreSound program count =
    (slot : ℕ) (insn : Insn) → slot < count → StartsAt program slot insn → IsSound program slot insn

-- every jump leads forward to an instruction, the last instruction is an exit, and r10 is never written
abbrev pub IsStructured : Program → Type 0
IsStructured program = AreSound program (length program)

-- the first slot at fault, and in it the fault of the least number
pub record FirstFault (program : Program) (slot : ℕ) (fault : StructureFault) : Type 0 where
  pub insn : Insn
  pub starts : StartsAt program slot insn
  pub here : LeastFault program slot insn fault
  pub before : AreSound program slot

-- a refusal that isn't one of structure
abbrev pub IsOfState : VerifyError → Type 0
IsOfState (Structure slot fault) = ⊥
IsOfState (State slot fault) = Unit {0}
IsOfState OutOfMemory = Unit {0}
