-- Programs that work on numbers, and keep some of them in their frame: the stack's bytes, by constant offsets from r10.
use Rattle.std.specs.Prelude.{◌≡◌, ℕ, ℤ, ◌+◌, ◌%◌, ◌^◌, ◌<◌, ◌≤◌, ◌⊎◌, List, Contains}
use Rattle.std.specs.Int.{cast_unsigned, w64}
use Rattle.bpf_words.specs.declared.instruction.Insn.{Insn}
use Rattle.bpf_words.specs.declared.instruction.Insn.TheVariants.{Compute, Negate, Extend, Convert, Jump, JumpLong}
use Rattle.bpf_words.specs.declared.instruction.Insn.TheVariants.{Branch, Load, LoadSigned, Store, LoadWide, Exit}
use Rattle.bpf_words.specs.Flow.{StartsAt, read_by}
use Rattle.semantics.specs.Memory.{bytes_in, bytes_in_signed}
use Rattle.semantics.specs.Step.{Program}
use Rattle.verifier.specs.Structure.{IsStructured}
use Rattle.verifier.specs.Plain.{IsFree, IsFreeOperand, IsPlainInsn, Leads, Path}

-- the byte of the stack at an offset from its end, which is what r10 holds
abbrev pub byte_at : ℤ → ℕ
byte_at offset = (512 + cast_unsigned w64 offset) % 2 ^ 64

-- count bytes at an offset from r10 lie in the frame
abbrev pub IsInFrame : ℕ → ℤ → ℕ → Type 0
IsInFrame base offset count = (base ≡ 10) × (byte_at offset + count ≤ 512)

-- p is one of them
abbrev pub IsByteOf : ℤ → ℕ → ℕ → Type 0
IsByteOf offset count p = (byte_at offset ≤ p) × (p < byte_at offset + count)

-- a plain instruction; a store of a number to the frame, or a load from it
abbrev pub IsFramedInsn : Insn → Type 0
IsFramedInsn (Compute width operation destination operand) = IsPlainInsn (Compute width operation destination operand)
IsFramedInsn (Negate width destination) = IsPlainInsn (Negate width destination)
IsFramedInsn (Extend extension destination source) = IsPlainInsn (Extend extension destination source)
IsFramedInsn (Convert conversion bits destination) = IsPlainInsn (Convert conversion bits destination)
IsFramedInsn (Jump distance) = IsPlainInsn (Jump distance)
IsFramedInsn (JumpLong distance) = IsPlainInsn (JumpLong distance)
IsFramedInsn (Branch width comparison left right distance) = IsPlainInsn (Branch width comparison left right distance)
IsFramedInsn (Load size destination base offset) =
    IsPlainInsn (Load size destination base offset) ⊎ (IsFree destination × IsInFrame base offset (bytes_in size))
IsFramedInsn (LoadSigned size destination base offset) =
    IsFree destination × IsInFrame base offset (bytes_in_signed size)
IsFramedInsn (Store size base offset value) = IsFreeOperand value × IsInFrame base offset (bytes_in size)
IsFramedInsn (LoadWide destination value) = IsPlainInsn (LoadWide destination value)
IsFramedInsn Exit = IsPlainInsn Exit

-- the bytes of the frame that an instruction stores, and those that it loads
abbrev pub StoresByte : Insn → ℕ → Type 0
StoresByte (Store size base offset value) p = IsByteOf offset (bytes_in size) p
StoresByte insn p = ⊥

abbrev pub LoadsByte : Insn → ℕ → Type 0
LoadsByte (Load size destination base offset) p = (base ≡ 10) × IsByteOf offset (bytes_in size) p
LoadsByte (LoadSigned size destination base offset) p = IsByteOf offset (bytes_in_signed size) p
LoadsByte insn p = ⊥

-- a path from the first slot to this one doesn't store byte p
pub data Unstored (program : Program) (p : ℕ) : ℕ → Type 0 where
  at_first : Unstored program p 0
  spared : {slot to : ℕ} {insn : Insn} → Unstored program p slot → StartsAt program slot insn → Leads insn slot to
      → (StoresByte insn p → ⊥) → Unstored program p to

-- each register but r1 and r10 that is read was written, and each byte of the frame that is loaded was stored, on every
-- path
pub record IsFramed (program : Program) : Type 0 where
  pub structured : IsStructured program
  pub framed : (slot : ℕ) (insn : Insn) → StartsAt program slot insn → IsFramedInsn insn
  pub set : (slot register : ℕ) (done : List ℕ) (insn : Insn) → Path program slot done → StartsAt program slot insn
      → Contains (read_by insn) register → IsFree register → Contains done register
  pub stored : (slot p : ℕ) (insn : Insn) → Unstored program p slot → StartsAt program slot insn → LoadsByte insn p → ⊥
