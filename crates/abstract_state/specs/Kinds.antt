-- The kinds of registers, for what is never refused.
use Rattle.std.specs.Prelude.{◌≡◌, ◌≢◌, ◌⊎◌, ℕ, ◌<◌, ◌≤◌, ◌%◌, true, false, Option, Some, None, slice_index_or}
use Rattle.span_context.specs.declared.size.Size.{Size}
use Rattle.span_context.specs.declared.size.Size.TheVariants.{Byte, Half, Word, Double}
use Rattle.std.specs.Int.{cast_unsigned, w64}
use Rattle.bpf_words.specs.declared.instruction.Operand.{Operand}
use Rattle.bpf_words.specs.declared.instruction.Operand.TheVariants.{Immediate, Source}
use Rattle.bpf_words.specs.declared.instruction.Arithmetic.{Arithmetic}
use Rattle.bpf_words.specs.declared.instruction.Arithmetic.TheVariants.{Mov}
use Rattle.bpf_words.specs.declared.instruction.Insn.{Insn}
use Rattle.bpf_words.specs.declared.instruction.Insn.TheVariants.{Compute, Negate, Extend, Convert, Jump, JumpLong}
use Rattle.bpf_words.specs.declared.instruction.Insn.TheVariants.{Branch, Load, LoadSigned, Store, LoadWide, Exit}
use Rattle.abstract_state.specs.declared.known.Known.TheVariants.{Number, Context, Stack, Lent}
use Rattle.abstract_state.specs.declared.state.AbsReg.{AbsReg}
use Rattle.abstract_state.specs.declared.state.AbsReg.TheVariants.{Unset, Set}
use Rattle.abstract_state.specs.declared.state.AbsState.{AbsState}
use Rattle.abstract_state.specs.declared.branch.Pair.{Pair}
use Rattle.abstract_state.specs.declared.address.LentAddress.{LentAddress}
use Rattle.abstract_state.specs.declared.quantity.Quantity.{Quantity}
use Rattle.abstract_state.specs.declared.slot.Slot.{Slot}
use Rattle.abstract_state.specs.declared.slot.Slot.TheVariants.{Marks, Spilled}
use Rattle.abstract_state.specs.Known.{IsNumber}
use Rattle.abstract_state.specs.Quantity.{JoinsNumber}
use Rattle.abstract_state.specs.State.{register_at}

abbrev pub IsNumberReg : AbsReg → Type 0
IsNumberReg Unset = ⊥
IsNumberReg (Set k) = IsNumber k

-- a number stays a number, an address in the context or the stack stays that one, an address in a lent region stays in
-- it
abbrev pub KeepsKind : AbsReg → AbsReg → Type 0
KeepsKind Unset b = b ≡ Unset
KeepsKind (Set (Number q)) b = IsNumberReg b
KeepsKind (Set (Context p)) b = b ≡ Set (Context p)
KeepsKind (Set (Stack p)) b = b ≡ Set (Stack p)
KeepsKind (Set (Lent p)) Unset = ⊥
KeepsKind (Set (Lent p)) (Set (Number q)) = ⊥
KeepsKind (Set (Lent p)) (Set (Context q)) = ⊥
KeepsKind (Set (Lent p)) (Set (Stack q)) = ⊥
KeepsKind (Set (Lent p)) (Set (Lent q)) = p.region ≡ q.region

abbrev pub HasNumberAt : AbsState → ℕ → Type 0
HasNumberAt a r = IsNumberReg (register_at a.registers r)

abbrev pub HasNumberIn : AbsState → Operand → Type 0
HasNumberIn a (Immediate value) = Unit {0}
HasNumberIn a (Source register) = HasNumberAt a register

-- b has a number in that register, and all others as a has them
pub record WritesNumber (a : AbsState) (register : ℕ) (b : AbsState) : Type 0 where
  pub written : HasNumberAt b register
  pub others : (i : ℕ) → i ≢ register → register_at b.registers i ≡ register_at a.registers i

abbrev pub ReadsFirst : AbsState → Arithmetic → ℕ → Type 0
ReadsFirst a Mov d = Unit {0}
ReadsFirst a operation d = HasNumberAt a d

-- the address of the context's byte n
abbrev pub IsContextAt : ℕ → AbsReg → Type 0
IsContextAt n Unset = ⊥
IsContextAt n (Set (Number q)) = ⊥
IsContextAt n (Set (Context p)) = p.offset ≡ n
IsContextAt n (Set (Stack p)) = ⊥
IsContextAt n (Set (Lent p)) = ⊥

-- the fields of a context that are numbers, by offset and size
abbrev pub IsNumberField : Size → ℕ → Type 0
IsNumberField Byte n = ⊥
IsNumberField Half n = ⊥
IsNumberField Word n = (16 ≤ n) × (n ≤ 44) × (n % 4 ≡ 0)
IsNumberField Double n = n ≡ 48

-- an instruction that reads numbers alone, and of memory a field of the context that is a number, from the context's
-- begin
abbrev pub ReadsNumbers : AbsState → Insn → Type 0
ReadsNumbers a (Compute w op d o) = ReadsFirst a op d × HasNumberIn a o
ReadsNumbers a (Negate w d) = HasNumberAt a d
ReadsNumbers a (Extend e d r) = HasNumberAt a r
ReadsNumbers a (Convert c b d) = HasNumberAt a d
ReadsNumbers a (Jump distance) = Unit {0}
ReadsNumbers a (JumpLong distance) = Unit {0}
ReadsNumbers a (Branch w c l r distance) = HasNumberAt a l × HasNumberIn a r
ReadsNumbers a (Load z d b o) = IsContextAt 0 (register_at a.registers b) × IsNumberField z (cast_unsigned w64 o)
ReadsNumbers a (LoadSigned z d b o) = ⊥
ReadsNumbers a (Store z b o v) = ⊥
ReadsNumbers a (LoadWide d v) = Unit {0}
ReadsNumbers a Exit = HasNumberAt a 0

-- what it writes is a number, and all else stays
abbrev pub Carries : AbsState → Insn → AbsState → Type 0
Carries a (Compute w op d o) b = WritesNumber a d b
Carries a (Negate w d) b = WritesNumber a d b
Carries a (Extend e d r) b = WritesNumber a d b
Carries a (Convert c bits d) b = WritesNumber a d b
Carries a (Jump distance) b = b ≡ a
Carries a (JumpLong distance) b = b ≡ a
Carries a (Branch w c l r distance) b = Unit {0}
Carries a (Load z d base o) b = WritesNumber a d b
Carries a (LoadSigned z d base o) b = Unit {0}
Carries a (Store z base o v) b = Unit {0}
Carries a (LoadWide d v) b = WritesNumber a d b
Carries a Exit b = b ≡ a

-- each register of a keeps its kind in b
abbrev pub KeepsAll : AbsState → AbsState → Type 0
KeepsAll a b = (i : ℕ) → KeepsKind (register_at a.registers i) (register_at b.registers i)

abbrev pub AreBothNumbers : Pair → Type 0
AreBothNumbers p = IsNumber p.left × IsNumber p.right

abbrev pub AreNumbersOn : Option Pair → Type 0
AreNumbersOn None = Unit {0}
AreNumbersOn (Some p) = AreBothNumbers p

-- the address of the stack's byte n
abbrev pub IsStackAt : ℕ → AbsReg → Type 0
IsStackAt n Unset = ⊥
IsStackAt n (Set (Number q)) = ⊥
IsStackAt n (Set (Context p)) = ⊥
IsStackAt n (Set (Stack p)) = p.offset ≡ n
IsStackAt n (Set (Lent p)) = ⊥

-- what is alike in both is so in c: a number, or an address in the context or the stack; of two numbers, and of two
-- addresses in one lent region, nothing that both know is lost; and where one is unset, c is
pub record JoinsReg (a b c : AbsReg) : Type 0 where
  pub unset : (a ≡ Unset) ⊎ (b ≡ Unset) → c ≡ Unset
  pub numbers : IsNumberReg a → IsNumberReg b → IsNumberReg c
  pub context : (n : ℕ) → IsContextAt n a → IsContextAt n b → IsContextAt n c
  pub stack : (n : ℕ) → IsStackAt n a → IsStackAt n b → IsStackAt n c
  pub values : (p q : Quantity) → a ≡ Set (Number p) → b ≡ Set (Number q)
      → (r : Quantity) × (c ≡ Set (Number r)) × JoinsNumber p q r
  pub lent : (p q : LentAddress) → a ≡ Set (Lent p) → b ≡ Set (Lent q) → p.region ≡ q.region
      → (r : LentAddress) × (c ≡ Set (Lent r)) × (r.region ≡ p.region) × JoinsNumber p.offset q.offset r.offset

-- what is spilled in a slot
abbrev pub spilled_in : Slot → AbsReg
spilled_in (Marks marks) = Unset
spilled_in (Spilled k) = Set k

-- a byte of a slot that is set for sure; those of a spilled address count as unset
abbrev pub IsMarked : Slot → ℕ → Type 0
IsMarked (Marks marks) j = slice_index_or marks j false ≡ true
IsMarked (Spilled k) j = IsNumber k

-- what is spilled in both joins as registers do, marks as an unset one, and a byte that is set in both is set
pub record JoinsSlot (a b c : Slot) : Type 0 where
  pub spilled : JoinsReg (spilled_in a) (spilled_in b) (spilled_in c)
  pub marked : (j : ℕ) → j < 8 → IsMarked a j → IsMarked b j → IsMarked c j
