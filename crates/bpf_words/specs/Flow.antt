-- What an instruction does with registers and with the run's position, as far as it shows without a state
-- (RFC 9669, sections 4 and 5).
use Rattle.std.specs.Prelude.{◌≡◌, ℕ, ℤ, ◌+◌, List, [], ◌∷◌, ◌++◌, Option, Some, None, Bool, true, false, slice_get}
use Rattle.bpf_words.specs.declared.instruction.Arithmetic.{Arithmetic}
use Rattle.bpf_words.specs.declared.instruction.Arithmetic.TheVariants.{Mov}
use Rattle.bpf_words.specs.declared.instruction.Operand.{Operand}
use Rattle.bpf_words.specs.declared.instruction.Operand.TheVariants.{Immediate, Source}
use Rattle.bpf_words.specs.declared.instruction.Insn.{Insn}
use Rattle.bpf_words.specs.declared.instruction.Insn.TheVariants.{Compute, Negate, Extend, Convert, Jump, JumpLong}
use Rattle.bpf_words.specs.declared.instruction.Insn.TheVariants.{Branch, Load, LoadSigned, Store, LoadWide, Exit}

-- a move doesn't read its first register
abbrev pub read_first : Arithmetic → ℕ → List ℕ
read_first Mov register = []
read_first operation register = register ∷ []

abbrev pub read_operand : Operand → List ℕ
read_operand (Immediate value) = []
read_operand (Source register) = register ∷ []

-- the registers that it reads
abbrev pub read_by : Insn → List ℕ
read_by (Compute width operation destination operand) = read_first operation destination ++ read_operand operand
read_by (Negate width destination) = destination ∷ []
read_by (Extend extension destination source) = source ∷ []
read_by (Convert conversion bits destination) = destination ∷ []
read_by (Jump distance) = []
read_by (JumpLong distance) = []
read_by (Branch width comparison left right distance) = left ∷ read_operand right
read_by (Load size destination base offset) = base ∷ []
read_by (LoadSigned size destination base offset) = base ∷ []
read_by (Store size base offset value) = base ∷ read_operand value
read_by (LoadWide destination value) = []
read_by Exit = 0 ∷ []

-- the register that it writes
abbrev pub written_by : Insn → Option ℕ
written_by (Compute width operation destination operand) = Some destination
written_by (Negate width destination) = Some destination
written_by (Extend extension destination source) = Some destination
written_by (Convert conversion bits destination) = Some destination
written_by (Jump distance) = None
written_by (JumpLong distance) = None
written_by (Branch width comparison left right distance) = None
written_by (Load size destination base offset) = Some destination
written_by (LoadSigned size destination base offset) = Some destination
written_by (Store size base offset value) = None
written_by (LoadWide destination value) = Some destination
written_by Exit = None

-- how far it jumps, counted from the slot after it; of a comparison, where it holds
abbrev pub jump_of : Insn → Option ℤ
jump_of (Compute width operation destination operand) = None
jump_of (Negate width destination) = None
jump_of (Extend extension destination source) = None
jump_of (Convert conversion bits destination) = None
jump_of (Jump distance) = Some distance
jump_of (JumpLong distance) = Some distance
jump_of (Branch width comparison left right distance) = Some distance
jump_of (Load size destination base offset) = None
jump_of (LoadSigned size destination base offset) = None
jump_of (Store size base offset value) = None
jump_of (LoadWide destination value) = None
jump_of Exit = None

-- whether a run may go on from it to the instruction after it
abbrev pub falls_through : Insn → Bool
falls_through (Compute width operation destination operand) = true
falls_through (Negate width destination) = true
falls_through (Extend extension destination source) = true
falls_through (Convert conversion bits destination) = true
falls_through (Jump distance) = false
falls_through (JumpLong distance) = false
falls_through (Branch width comparison left right distance) = true
falls_through (Load size destination base offset) = true
falls_through (LoadSigned size destination base offset) = true
falls_through (Store size base offset value) = true
falls_through (LoadWide destination value) = true
falls_through Exit = false

-- how many slots it takes
abbrev pub slots_of : Insn → ℕ
slots_of (Compute width operation destination operand) = 1
slots_of (Negate width destination) = 1
slots_of (Extend extension destination source) = 1
slots_of (Convert conversion bits destination) = 1
slots_of (Jump distance) = 1
slots_of (JumpLong distance) = 1
slots_of (Branch width comparison left right distance) = 1
slots_of (Load size destination base offset) = 1
slots_of (LoadSigned size destination base offset) = 1
slots_of (Store size base offset value) = 1
slots_of (LoadWide destination value) = 2
slots_of Exit = 1

abbrev pub StartsAt : List (Option Insn) → ℕ → Insn → Type 0
StartsAt program slot insn = slice_get program slot ≡ Some (Some insn)

abbrev pub IsWideAt : List (Option Insn) → ℕ → Type 0
IsWideAt program slot = (insn : Insn) × StartsAt program slot insn × (slots_of insn ≡ 2)

-- a slot is no instruction exactly where the one before it is a wide load
pub record IsPaired (program : List (Option Insn)) : Type 0 where
  pub begins : slice_get program 0 ≡ Some None → ⊥
  pub after_wide : (slot : ℕ) → IsWideAt program slot → slice_get program (slot + 1) ≡ Some None
  pub wide_before : (slot : ℕ) → slice_get program (slot + 1) ≡ Some None → IsWideAt program slot
