-- When a program does at other slots what an old one does: what a check of a layout looks at. An old slot has a place
-- in the new program, and a height; one that no run comes to has the height 0.
use Rattle.std.specs.Prelude.{◌≡◌, ◌⊎◌, ℕ, ℤ, ◌+◌, ◌<◌, ◌≤◌, true, false, List, length, slice_index, Some}
use Rattle.bpf_words.specs.declared.instruction.Insn.{Insn}
use Rattle.bpf_words.specs.declared.instruction.Insn.TheVariants.{Compute, Negate, Extend, Convert, Jump, JumpLong}
use Rattle.bpf_words.specs.declared.instruction.Insn.TheVariants.{Branch, Load, LoadSigned, Store, LoadWide, Exit}
use Rattle.bpf_words.specs.Flow.{StartsAt, falls_through, jump_of, slots_of}
use Rattle.semantics.specs.Step.{Program}
use Rattle.block_layout.specs.Loops.{IsAway, JumpsTo}
use Rattle.block_layout.specs.Meaning.{IsForward}

-- a comparison with another distance
abbrev pub aimed : Insn → ℤ → Insn
aimed (Compute width operation destination operand) onward = Compute width operation destination operand
aimed (Negate width destination) onward = Negate width destination
aimed (Extend extension destination source) onward = Extend extension destination source
aimed (Convert conversion bits destination) onward = Convert conversion bits destination
aimed (Jump distance) onward = Jump distance
aimed (JumpLong distance) onward = JumpLong distance
aimed (Branch width comparison left right distance) onward = Branch width comparison left right onward
aimed (Load size destination base offset) onward = Load size destination base offset
aimed (LoadSigned size destination base offset) onward = LoadSigned size destination base offset
aimed (Store size base offset operand) onward = Store size base offset operand
aimed (LoadWide destination value) onward = LoadWide destination value
aimed Exit onward = Exit

-- the same but for the distance of a comparison
abbrev pub IsAimed : Insn → Insn → Type 0
IsAimed insn moved = (onward : ℤ) × (moved ≡ aimed insn onward)

-- a jump alone stands at a slot, to another
abbrev pub IsJumpTo : Program → ℕ → ℕ → Type 0
IsJumpTo program from to = (distance : ℤ) × StartsAt program from (Jump distance) × IsAway from distance to

-- a run that comes to the one slot comes to the other, at once or by a jump
abbrev pub LeadsTo : Program → ℕ → ℕ → Type 0
LeadsTo program from to = (to < length program) × ((from ≡ to) ⊎ IsJumpTo program from to)

-- an old slot lower than another, to whose place the new program's run leads from a slot
abbrev pub Arrives : Program → List ℕ → List ℕ → ℕ → ℕ → ℕ → Type 0
Arrives new places heights from to next =
    (0 < slice_index heights to) × (slice_index heights to < slice_index heights from)
    × LeadsTo new next (slice_index places to)

-- where jumps of the old program and of the new one lead
pub record BothJump (new : Program) (places heights : List ℕ) (slot : ℕ) (distance onward : ℤ) : Type 0 where
  pub to : ℕ
  pub next : ℕ
  pub was : IsAway slot distance to
  pub is : IsAway (slice_index places slot) onward next
  pub arrives : Arrives new places heights slot to next

-- the instruction of an old slot stands at its place, and goes on there as it did
pub record IsMoved (new : Program) (places heights : List ℕ) (slot : ℕ) (insn : Insn) : Type 0 where
  pub moved : Insn
  pub starts : StartsAt new (slice_index places slot) moved
  pub same : IsAimed insn moved
  pub falls : falls_through insn ≡ true
      → Arrives new places heights slot (slot + slots_of insn) (slice_index places slot + slots_of insn)
  pub jumps : (distance onward : ℤ) → jump_of insn ≡ Some distance → jump_of moved ≡ Some onward
      → BothJump new places heights slot distance onward

-- the jump of an old slot is left out: its place leads to where it led
pub record IsDropped (new : Program) (places heights : List ℕ) (slot : ℕ) (insn : Insn) : Type 0 where
  pub alone : falls_through insn ≡ false
  pub to : ℕ
  pub jumps : JumpsTo slot insn to
  pub arrives : Arrives new places heights slot to (slice_index places slot)

-- what an old slot does is done at its place
abbrev pub IsKept : Program → Program → List ℕ → List ℕ → ℕ → Type 0
IsKept old new places heights slot =
    (insn : Insn) × StartsAt old slot insn
    × (IsMoved new places heights slot insn ⊎ IsDropped new places heights slot insn)

-- so for each old slot that has a height, and runs begin at the place of the first
pub record KeepsAll (old new : Program) (places heights : List ℕ) : Type 0 where
  pub some : 0 < slice_index heights 0
  pub few : slice_index heights 0 ≤ length old
  pub begins : LeadsTo new 0 (slice_index places 0)
  pub each : (slot : ℕ) → 0 < slice_index heights slot → IsKept old new places heights slot
  pub forward : IsForward new
