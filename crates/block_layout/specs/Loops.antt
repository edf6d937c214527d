-- Where runs may go, whatever the numbers are, and the loops that they may come to.
use Rattle.std.specs.Prelude.{◌≡◌, ◌⊎◌, ℕ, ℤ, pos, ◌+ℤ◌, ◌+◌, ◌<◌, ◌≤◌, true, List, length, slice_index, Some}
use Rattle.bpf_words.specs.declared.instruction.Insn.{Insn}
use Rattle.bpf_words.specs.Flow.{StartsAt, falls_through, jump_of, slots_of}
use Rattle.semantics.specs.Step.{Program}

-- from an instruction at a slot to the one after it
abbrev pub FallsTo : ℕ → Insn → ℕ → Type 0
FallsTo slot insn to = (falls_through insn ≡ true) × (to ≡ slot + slots_of insn)

-- a distance counts from the slot after the jump
abbrev pub IsAway : ℕ → ℤ → ℕ → Type 0
IsAway slot distance to = pos to ≡ pos (slot + 1) +ℤ distance

abbrev pub JumpsTo : ℕ → Insn → ℕ → Type 0
JumpsTo slot insn to = (distance : ℤ) × (jump_of insn ≡ Some distance) × IsAway slot distance to

-- a run may go from one slot to the other in a step
abbrev pub Goes : Program → ℕ → ℕ → Type 0
Goes program from to = (insn : Insn) × StartsAt program from insn × (FallsTo from insn to ⊎ JumpsTo from insn to)

-- a run may go from one slot to the other in any number of steps
pub data Reaches (program : Program) (from : ℕ) : ℕ → Type 0 where
  at_once : Reaches program from from
  by_way : {mid to : ℕ} → Reaches program from mid → Goes program mid to → Reaches program from to

-- a run may come to the slot, from there back, and from there to the slot again
pub record IsLoop (program : Program) (slot : ℕ) : Type 0 where
  pub begins : Reaches program 0 slot
  pub back : ℕ
  pub leads : Goes program slot back
  pub low : back ≤ slot
  pub again : Reaches program back slot

-- a run may go from each slot of a list to the next one
pub record IsWalk (program : Program) (path : List ℕ) : Type 0 where
  pub each : (index : ℕ) → index + 1 < length path
      → Goes program (slice_index path index) (slice_index path (index + 1))

-- no run may go round
abbrev pub HasNoLoop : Program → Type 0
HasNoLoop program = (slot : ℕ) → IsLoop program slot → ⊥
