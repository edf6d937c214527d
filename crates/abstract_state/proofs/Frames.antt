-- Loads and stores in the stack.
use Rattle.std.proofs.Common.{◌≡◌, ◌≢◌, ℕ, ℤ, List, ⊎_elim, ◌+◌, ◌*◌, ◌%◌, ◌^◌, ◌<◌, ◌≤◌, Bool, true, false, ◌&&◌, ◌||◌, nat_le, nat_lt, Option, Some, None, refl, sym, subst, ap, ◌∙◌, arith}
use Rattle.std.specs.Option.{IfSome}
use Rattle.std.specs.Int.{cast_unsigned, w64}
use Rattle.std.proofs.lemmas.Option.{same_Some}
use Rattle.std.proofs.lemmas.Bool.{cases_eq}
use Rattle.std.proofs.lemmas.Bool.Decides.{nat_tests}
use Rattle.span_context.specs.declared.size.Size.{Size}
use Rattle.span_context.specs.declared.size.Size.TheVariants.{Double}
use Rattle.bpf_words.specs.declared.instruction.Operand.{Operand}
use Rattle.bpf_words.specs.declared.instruction.Operand.TheVariants.{Source}
use Rattle.bpf_words.specs.declared.instruction.Insn.{Insn}
use Rattle.bpf_words.specs.declared.instruction.Insn.TheVariants.{Store}
use Rattle.semantics.specs.Memory.{bytes_in}
use Rattle.abstract_state.specs.declared.known.Known.{Known}
use Rattle.abstract_state.specs.declared.known.Known.TheVariants.{Number, Context, Stack, Lent}
use Rattle.abstract_state.specs.declared.address.StackAddress.{StackAddress}
use Rattle.abstract_state.specs.declared.slot.Slot.{Slot}
use Rattle.abstract_state.specs.declared.slot.Slot.TheVariants.{Spilled}
use Rattle.abstract_state.specs.declared.state.AbsReg.TheVariants.{Set}
use Rattle.abstract_state.specs.declared.state.AbsState.{AbsState}
use Rattle.abstract_state.specs.Known.{IsNumber, AreNumbers}
use Rattle.abstract_state.specs.State.{register_at, slot_at}
use Rattle.abstract_state.specs.Kinds.{HasNumberIn, IsMarked}
use Rattle.abstract_state.specs.Exact.{Says, Holds, Exactly}
use Rattle.abstract_state.specs.Frame.{IsStackByte, StoresSlots, SpillsSlot}
use Rattle.abstract_state.specs.Guard.{Stores, stored, Spills, spilled}

pub address_is : (p offset : ℕ) (k : Known) → IsStackByte p offset (Set k) → (q : StackAddress) × (k ≡ Stack q) × ((q.offset + offset) % 2 ^ 64 ≡ p)
address_is p offset (Number q) h = absurd h
address_is p offset (Context q) h = absurd h
address_is p offset (Stack q) h = (q, refl, h)
address_is p offset (Lent q) h = absurd h

-- the byte of an address that is known to be in the stack
pub stack_byte_of : (p offset : ℕ) (k : Known) (q : StackAddress) → k ≡ Stack q → IsStackByte p offset (Set k) → (q.offset + offset) % 2 ^ 64 ≡ p
stack_byte_of p offset k q e h = subst (λ (v : Known). IsStackByte p offset (Set v)) e h

pub no_number : (p offset : ℕ) (k : Known) → IsNumber k → IsStackByte p offset (Set k) → ⊥
no_number p offset (Number q) n h = h
no_number p offset (Context q) n h = h
no_number p offset (Stack q) n h = n
no_number p offset (Lent q) n h = h

pub exactly : (o : Option Known) (k : Known) → o ≡ Some k → IfSome o (λ v. Says (Exactly k) v)
exactly None k e = absurd (cc)
exactly (Some v) k e = same_Some v k e

pub spilled_number : (o : Option Known) (slot : Slot) (j : ℕ) → IfSome o (λ k. slot ≡ Spilled k) → IsMarked slot j → AreNumbers o
spilled_number None slot j is m = tt
spilled_number (Some k) slot j is m = subst (λ (s : Slot). IsMarked s j) is m

-- ---- marks
pub mark_kept : (was now : Bool) → was ≡ true → (was || now) ≡ true
mark_kept was now e = rw e refl

pub mark_set : (was : Bool) (offset first j count : ℕ) → offset ≤ first + j → first + j < offset + count → (was || (nat_le offset (first + j) && nat_lt (first + j) (offset + count))) ≡ true
mark_set true offset first j count a b = refl
mark_set false offset first j count a b = grind (arith, nat_tests)

-- a number that is spilled into a slot is stored in its eight bytes
pub spill_stores : (p count slot : ℕ) (known : Known) (a b : List Slot) → count ≡ 8 → p ≡ 8 * slot → IsNumber known → SpillsSlot slot known a b → StoresSlots p count a b
spill_stores p count slot known a b eight at number spills i less =
    ⊎_elim
    (λ (same : i ≡ slot).
    let there : slot_at b i ≡ Spilled known = ap (λ (k : ℕ). slot_at b k) same ∙ spills.there in
    let marked = λ (j : ℕ). subst (λ (s : Slot). IsMarked s j) (sym there) number in
    record {
      before = λ h. absurd (omega arith);
      behind = λ h. absurd (omega arith);
      kept = λ j h m. marked j;
      set = λ j h from to. marked j;
    })
    (λ (other : i ≢ slot).
    let stays = spills.others i other in
    record {
      before = λ h. stays;
      behind = λ h. stays;
      kept = λ j h m. subst (λ (s : Slot). IsMarked s j) (sym stays) m;
      set = λ j h from to. absurd (other (omega arith));
    })
    (cases_eq i slot)

-- ---- the rows of stores
pub stored_is : (a : AbsState) (insn : Insn) (p count : ℕ) (size : Size) (base : ℕ) (offset : ℤ) (value : Operand) → Stores a insn p count → insn ≡ Store size base offset value → IsStackByte p (cast_unsigned w64 offset) (register_at a.registers base) × (p + bytes_in size ≤ 512) × HasNumberIn a value × (bytes_in size ≡ count)
stored_is a insn p count size base offset value (stored size' base' p' offset' value' at within number) e =
    let one : size' ≡ size = cc in
    let two : base' ≡ base = cc in
    let three : offset' ≡ offset = cc in
    let four : value' ≡ value = cc in (
      subst (λ (r : ℕ). IsStackByte p (cast_unsigned w64 offset) (register_at a.registers r)) two (subst (λ (o : ℤ). IsStackByte p (cast_unsigned w64 o) (register_at a.registers base')) three at),
      subst (λ (z : Size). p + bytes_in z ≤ 512) one within,
      subst (λ (v : Operand). HasNumberIn a v) four number,
      ap (λ (z : Size). bytes_in z) (sym one),
    )

pub spilled_is : (a : AbsState) (insn : Insn) (i : ℕ) (known : Known) (size : Size) (base : ℕ) (offset : ℤ) (value : Operand) → Spills a insn i known → insn ≡ Store size base offset value → (r : ℕ) × IsStackByte (8 * i) (cast_unsigned w64 offset) (register_at a.registers base) × (i < 64) × (size ≡ Double) × (value ≡ Source r) × Holds (Exactly known) (register_at a.registers r)
spilled_is a insn i known size base offset value (spilled base' r i' offset' known' at within held) e =
    let one : size ≡ Double = cc in
    let two : base' ≡ base = cc in
    let three : offset' ≡ offset = cc in
    let four : value ≡ Source r = cc in (
      r,
      subst (λ (b : ℕ). IsStackByte (8 * i) (cast_unsigned w64 offset) (register_at a.registers b)) two (subst (λ (o : ℤ). IsStackByte (8 * i) (cast_unsigned w64 o) (register_at a.registers base')) three at),
      within,
      one,
      four,
      held,
    )
