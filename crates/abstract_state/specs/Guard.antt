-- What a step writes, case by case, and what it leaves: all that guarded reads, constants and the frame need.
use Rattle.std.specs.Prelude.{◌≡◌, ◌≢◌, ℕ, ℤ, pos, ◌+◌, ◌*◌, ◌^◌, ◌<◌, ◌≤◌, Option, Some, None, Result, IsOk, IfOk}
use Rattle.std.specs.Prelude.{IfSome}
use Rattle.span_context.specs.declared.profile.Profile.{Profile}
use Rattle.bpf_words.specs.declared.instruction.Insn.{Insn}
use Rattle.bpf_words.specs.declared.instruction.Insn.TheVariants.{Compute, Negate, Extend, Convert, Jump, JumpLong}
use Rattle.bpf_words.specs.declared.instruction.Insn.TheVariants.{Branch, Load, LoadSigned, Store, LoadWide, Exit}
use Rattle.bpf_words.specs.declared.instruction.Width.TheVariants.{Full}
use Rattle.bpf_words.specs.declared.instruction.Arithmetic.{Arithmetic}
use Rattle.bpf_words.specs.declared.instruction.Arithmetic.TheVariants.{Mov, Add}
use Rattle.std.specs.Int.{cast_unsigned, w64}
use Rattle.bpf_words.specs.declared.instruction.Operand.{Operand}
use Rattle.bpf_words.specs.declared.instruction.Operand.TheVariants.{Immediate, Source}
use Rattle.span_context.specs.declared.size.Size.{Size}
use Rattle.span_context.specs.declared.size.Size.TheVariants.{Double}
use Rattle.bpf_words.specs.declared.instruction.SignedSize.{SignedSize}
use Rattle.semantics.specs.Memory.{bytes_in, bytes_in_signed}
use Rattle.semantics.specs.Value.{value_of}
use Rattle.abstract_state.specs.declared.region.Region.{Region}
use Rattle.abstract_state.specs.Lent.{begin_field, end_field, limit_of, bound_of, Lends}
use Rattle.abstract_state.specs.declared.address.LentAddress.{LentAddress}
use Rattle.abstract_state.specs.declared.state.AbsReg.TheVariants.{Unset, Set}
use Rattle.abstract_state.specs.declared.state.AbsState.{AbsState}
use Rattle.abstract_state.specs.declared.refusal.Refusal.{Refusal}
use Rattle.abstract_state.specs.declared.step.Flow.{Flow}
use Rattle.abstract_state.specs.declared.known.Known.{Known}
use Rattle.abstract_state.specs.declared.known.Known.TheVariants.{Lent}
use Rattle.abstract_state.specs.declared.slot.Slot.TheVariants.{Spilled}
use Rattle.abstract_state.specs.State.{register_at, slot_at}
use Rattle.abstract_state.specs.Steps.{after}
use Rattle.abstract_state.specs.Kinds.{IsContextAt, HasNumberIn}
use Rattle.abstract_state.specs.Branch.{LeavesSides}
use Rattle.abstract_state.specs.Exact.{Fact, Folds, Holds, tail_after}
use Rattle.abstract_state.specs.Exact.Fact.{LentIn, NumberIn, AnyNumber, Exactly, NoLess}
use Rattle.abstract_state.specs.Frame.{IsStackByte, AreMarked}

-- the operand is the one number
abbrev pub IsOperand : Region → AbsState → Operand → ℕ → Type 0
IsOperand region a (Immediate value) n = n ≡ cast_unsigned w64 value
IsOperand region a (Source r) n = Holds (NumberIn region n n None) (register_at a.registers r)

-- what an instruction writes into a register in a run of the profile, case by case
pub data Yields (profile : Profile) (a : AbsState) : Insn → ℕ → Fact → Type 0 where
  lent_begin : (region : Region) (d base : ℕ) → Lends region profile → IsContextAt 0 (register_at a.registers base)
      → Yields profile a (Load Double d base (pos (begin_field region))) d (LentIn region 0 0 (Some 0))
  lent_end : (region : Region) (d base : ℕ) → Lends region profile → IsContextAt 0 (register_at a.registers base)
      → Yields profile a (Load Double d base (pos (end_field region))) d (LentIn region 0 (limit_of region) (Some 0))
  lent_moved : (region : Region) (d r n : ℕ) (t : Option ℕ) → Holds (LentIn region n n t) (register_at a.registers r)
      → Yields profile a (Compute Full Mov d (Source r)) d (LentIn region n n t)
  lent_added : (region : Region) (d k n : ℕ) (t : Option ℕ) → Holds (LentIn region n n t) (register_at a.registers d)
      → n + k ≤ 2 ^ 20
      → Yields profile a (Compute Full Add d (Immediate (pos k))) d (LentIn region (n + k) (n + k) (tail_after t k))
  copied : (region : Region) (d n : ℕ) (o : Operand) → IsOperand region a o n
      → Yields profile a (Compute Full Mov d o) d (NumberIn region n n None)
  moved : (d r : ℕ) (known : Known) → Holds (Exactly known) (register_at a.registers r)
      → Yields profile a (Compute Full Mov d (Source r)) d (NoLess known)
  folded : (region : Region) (operation : Arithmetic) (d m n : ℕ) (o : Operand) → Folds operation m n
      → Holds (NumberIn region m m None) (register_at a.registers d) → IsOperand region a o n
      → Yields profile a (Compute Full operation d o) d
      (NumberIn region (value_of operation Full m n) (value_of operation Full m n) None)
  wide : (region : Region) (d n : ℕ) → Yields profile a (LoadWide d n) d (NumberIn region n n None)
  lent_read : (size : Size) (d r o : ℕ) (p : LentAddress) → register_at a.registers r ≡ Set (Lent p) → o < 2 ^ 15
      → p.offset.range.high + o + bytes_in size ≤ bound_of a.bounds p.region
      → Yields profile a (Load size d r (pos o)) d AnyNumber
  lent_read_signed : (size : SignedSize) (d r o : ℕ) (p : LentAddress) → register_at a.registers r ≡ Set (Lent p)
      → o < 2 ^ 15 → p.offset.range.high + o + bytes_in_signed size ≤ bound_of a.bounds p.region
      → Yields profile a (LoadSigned size d r (pos o)) d AnyNumber
  stack_read : (size : Size) (d base p : ℕ) (offset : ℤ)
      → IsStackByte p (cast_unsigned w64 offset) (register_at a.registers base) → AreMarked a.stack p (bytes_in size)
      → Yields profile a (Load size d base offset) d AnyNumber
  stack_read_signed : (size : SignedSize) (d base p : ℕ) (offset : ℤ)
      → IsStackByte p (cast_unsigned w64 offset) (register_at a.registers base)
      → AreMarked a.stack p (bytes_in_signed size) → Yields profile a (LoadSigned size d base offset) d AnyNumber
  refilled : (d base i : ℕ) (offset : ℤ) (known : Known)
      → IsStackByte (8 * i) (cast_unsigned w64 offset) (register_at a.registers base) → i < 64
      → slot_at a.stack i ≡ Spilled known → Yields profile a (Load Double d base offset) d (Exactly known)

-- a store that isn't refused: of the bytes_in size low bytes of a number, from byte p of the stack on
pub data Stores (a : AbsState) : Insn → ℕ → ℕ → Type 0 where
  stored : (size : Size) (base p : ℕ) (offset : ℤ) (value : Operand)
      → IsStackByte p (cast_unsigned w64 offset) (register_at a.registers base) → p + bytes_in size ≤ 512
      → HasNumberIn a value → Stores a (Store size base offset value) p (bytes_in size)

-- and of all eight bytes of a register into slot i
pub data Spills (a : AbsState) : Insn → ℕ → Known → Type 0 where
  spilled : (base r i : ℕ) (offset : ℤ) (known : Known)
      → IsStackByte (8 * i) (cast_unsigned w64 offset) (register_at a.registers base) → i < 64
      → Holds (Exactly known) (register_at a.registers r) → Spills a (Store Double base offset (Source r)) i known

-- all registers but one are as they were
abbrev pub SameBut : ℕ → AbsState → AbsState → Type 0
SameBut d a b = (i : ℕ) → i ≢ d → register_at b.registers i ≡ register_at a.registers i

-- and that one is set
pub record Writes (d : ℕ) (a b : AbsState) : Type 0 where
  pub others : SameBut d a b
  pub set : register_at b.registers d ≢ Unset

-- the stack and the bounds are as they were
abbrev pub SameMemory : AbsState → AbsState → Type 0
SameMemory a b = (b.stack ≡ a.stack) × (b.bounds ≡ a.bounds)

-- the stack is as it was, and no bound is less
abbrev pub LengthensMemory : AbsState → AbsState → Type 0
LengthensMemory a b = (b.stack ≡ a.stack) × ((region : Region) → bound_of a.bounds region ≤ bound_of b.bounds region)

-- each register that the instruction doesn't write, or compare, is as it was, and those that it does are set
abbrev pub LeavesOthers : AbsState → Insn → AbsState → Type 0
LeavesOthers a (Compute w op d o) b = Writes d a b
LeavesOthers a (Negate w d) b = Writes d a b
LeavesOthers a (Extend e d r) b = Writes d a b
LeavesOthers a (Convert c bits d) b = Writes d a b
LeavesOthers a (Jump distance) b = b ≡ a
LeavesOthers a (JumpLong distance) b = b ≡ a
LeavesOthers a (Branch w c l r distance) b = LeavesSides l r a b
LeavesOthers a (Load z d base o) b = Writes d a b
LeavesOthers a (LoadSigned z d base o) b = Writes d a b
LeavesOthers a (Store z base o v) b = b.registers ≡ a.registers
LeavesOthers a (LoadWide d v) b = Writes d a b
LeavesOthers a Exit b = b ≡ a

-- so are the stack, where it is no store, and the bounds, where it is no comparison
abbrev pub LeavesMemory : AbsState → Insn → AbsState → Type 0
LeavesMemory a (Compute w op d o) b = SameMemory a b
LeavesMemory a (Negate w d) b = SameMemory a b
LeavesMemory a (Extend e d r) b = SameMemory a b
LeavesMemory a (Convert c bits d) b = SameMemory a b
LeavesMemory a (Jump distance) b = SameMemory a b
LeavesMemory a (JumpLong distance) b = SameMemory a b
LeavesMemory a (Branch w c l r distance) b = LengthensMemory a b
LeavesMemory a (Load z d base o) b = SameMemory a b
LeavesMemory a (LoadSigned z d base o) b = SameMemory a b
LeavesMemory a (Store z base o v) b = b.bounds ≡ a.bounds
LeavesMemory a (LoadWide d v) b = SameMemory a b
LeavesMemory a Exit b = SameMemory a b

-- the step isn't refused, and past it the register holds the fact
abbrev pub Keeps : Result Flow Refusal → AbsState → ℕ → Fact → Type 0
Keeps result b d fact =
    IsOk result × IfOk result (λ flow. IfSome (after flow b) (λ next. Holds fact (register_at next.registers d)))
