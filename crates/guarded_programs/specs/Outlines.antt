-- Guarded programs: those with an outline, facts before each slot that every way there gives.
use Rattle.std.specs.Prelude.{◌≡◌, ℕ, pos, ◌+◌, ◌<◌, List, Contains, Some, None, slice_get}
use Rattle.span_context.specs.declared.profile.Profile.{Profile}
use Rattle.bpf_words.specs.declared.instruction.Insn.{Insn}
use Rattle.bpf_words.specs.Flow.{StartsAt, jump_of}
use Rattle.semantics.specs.Step.{Program}
use Rattle.verifier.specs.Structure.{IsStructured}
use Rattle.guarded_rules.specs.Facts.{Register, Slot, ContextAt, StackAt, Fact, Holds, Long, Stored}
use Rattle.guarded_programs.specs.Gives.{Falls, Jumps, Gives}
use Rattle.guarded_programs.specs.Allows.{Allows}

-- facts before each slot
abbrev pub Outline : Type 0
Outline = ℕ → List Fact

-- at the start r1 holds the context's begin and r10 the stack's end, and nothing else is known
pub data IsFirst : Fact → Type 0 where
  context : IsFirst (Holds (Register 1) (ContextAt 0))
  stack : IsFirst (Holds (Register 10) (StackAt 512))

-- a fact is of one of the eleven registers, the 64 slots of the stack and its 512 bytes, or of a region
abbrev pub IsThere : Fact → Type 0
IsThere (Holds (Register r) v) = r < 11
IsThere (Holds (Slot i) v) = i < 64
IsThere (Long region n) = Unit {0}
IsThere (Stored at) = at < 512

-- each way from a slot to another gives each fact behind it, and each instruction has what it needs; before the second
-- slot of a wide load stands what stands behind it
pub record IsOutline (profile : Profile) (program : Program) (outline : Outline) : Type 0 where
  pub first : (f : Fact) → Contains (outline 0) f → IsFirst f
  pub there : (slot : ℕ) (f : Fact) → Contains (outline slot) f → IsThere f
  pub falls : (slot : ℕ) (insn : Insn) (f : Fact) → StartsAt program slot insn → Contains (outline (slot + 1)) f
      → Gives profile (outline slot) insn Falls f
  pub jumps : (slot : ℕ) (insn : Insn) (n : ℕ) (f : Fact) → StartsAt program slot insn
      → jump_of insn ≡ Some (pos n) → Contains (outline (slot + 1 + n)) f → Gives profile (outline slot) insn Jumps f
  pub second : (slot : ℕ) (f : Fact) → slice_get program slot ≡ Some None → Contains (outline (slot + 1)) f
      → Contains (outline slot) f
  pub allows : (slot : ℕ) (insn : Insn) → StartsAt program slot insn → Allows profile (outline slot) insn

pub record IsGuarded (profile : Profile) (program : Program) : Type 0 where
  pub structured : IsStructured program
  pub outline : Outline
  pub is : IsOutline profile program outline
