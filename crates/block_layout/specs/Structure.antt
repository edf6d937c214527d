-- What has to be right of where instructions lead, whatever the order of the blocks is, and the first jump back.
use Rattle.std.specs.Prelude.{◌≡◌, ℕ, ℤ, negsuc, ◌+◌, ◌<◌, ◌≤◌, true, length, slice_get, Some, None}
use Rattle.bpf_words.specs.declared.instruction.Insn.{Insn}
use Rattle.bpf_words.specs.Flow.{StartsAt, falls_through, jump_of, slots_of}
use Rattle.semantics.specs.Step.{Program}
use Rattle.block_layout.specs.declared.refusal.WayFault.{WayFault}
use Rattle.block_layout.specs.declared.refusal.WayFault.TheVariants.{JumpOut, JumpIntoWide, FallOff}
use Rattle.block_layout.specs.Loops.{IsAway, JumpsTo}
use Rattle.block_layout.specs.Meaning.{IsOn}

-- what is wrong with where an instruction at a slot leads
abbrev pub Faults : Program → ℕ → Insn → WayFault → Type 0
Faults program slot insn JumpOut =
    (distance : ℤ) × (jump_of insn ≡ Some distance)
    × ((to : ℕ) → IsAway slot distance to → length program ≤ to)
Faults program slot insn JumpIntoWide = (to : ℕ) × JumpsTo slot insn to × (slice_get program to ≡ Some None)
Faults program slot insn FallOff = (falls_through insn ≡ true) × (length program ≤ slot + slots_of insn)

abbrev pub IsSound : Program → ℕ → Insn → Type 0
IsSound program slot insn = (fault : WayFault) → Faults program slot insn fault → ⊥

-- no instruction below a slot is at fault
abbrev pub AreSound : Program → ℕ → Type 0
AreSound program count =
    (slot : ℕ) (insn : Insn) → slot < count → StartsAt program slot insn → IsSound program slot insn

-- every instruction leads to instructions
abbrev pub IsConnected : Program → Type 0
IsConnected program = AreSound program (length program)

-- the first slot at fault; where it jumps is looked at before where it falls
pub record FirstFault (program : Program) (slot : ℕ) (fault : WayFault) : Type 0 where
  pub insn : Insn
  pub starts : StartsAt program slot insn
  pub here : Faults program slot insn fault
  pub before : AreSound program slot

-- each jump below a slot leads forward
abbrev pub AreOn : Program → ℕ → Type 0
AreOn program count =
    (slot : ℕ) (insn : Insn) (distance : ℤ) → slot < count → StartsAt program slot insn → jump_of insn ≡ Some distance
    → IsOn distance

-- the first jump back
pub record FirstBack (program : Program) (slot : ℕ) : Type 0 where
  pub insn : Insn
  pub starts : StartsAt program slot insn
  pub back : (n : ℕ) × (jump_of insn ≡ Some (negsuc n))
  pub before : AreOn program slot
